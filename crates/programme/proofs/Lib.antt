pub mod Forward
pub mod Found
pub mod Pieces
pub mod Stepping
pub mod Unique
