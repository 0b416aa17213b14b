pub mod Worth
pub mod Sums
pub mod Bytes
pub mod Equal
pub mod Claims
