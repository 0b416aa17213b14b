pub mod Salvage
pub mod Places
