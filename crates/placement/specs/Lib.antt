pub mod Keeps
pub mod Place
pub mod Walk
