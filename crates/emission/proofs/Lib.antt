pub mod Emit
pub mod Pieces
pub mod Turns
