pub mod Outcome
pub mod Placings
pub mod Levels
