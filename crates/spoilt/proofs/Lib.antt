pub mod Lines
pub mod Trees
pub mod Walk
pub mod Zeros
