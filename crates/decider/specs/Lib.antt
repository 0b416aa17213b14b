pub mod Outcome
pub mod Places
pub mod Inside
