pub mod Mending
pub mod Places
pub mod Salvaged
pub mod Claims
pub mod Caller
