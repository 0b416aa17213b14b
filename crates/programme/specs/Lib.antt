pub mod Step
pub mod Meets
