pub mod Spoilt
pub mod Places
pub mod Claims
