pub mod Loops
pub mod Laws
pub mod Unique
