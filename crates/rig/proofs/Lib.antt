pub mod Bounds
pub mod Laws
pub mod Parts
pub mod Unique
