pub mod Exactly
pub mod ExactlyRequest
pub mod Judge
pub mod Request
pub mod Sound
