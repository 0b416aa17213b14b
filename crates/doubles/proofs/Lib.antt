pub mod Rounds
pub mod Overflow
pub mod Closest
pub mod Claims
