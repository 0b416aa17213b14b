pub mod Bounds
pub mod Carried
