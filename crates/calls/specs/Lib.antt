pub mod Loop
pub mod Decides
pub mod Refuses
pub mod Equal
pub mod Codes
pub mod Salvages
pub mod Order
