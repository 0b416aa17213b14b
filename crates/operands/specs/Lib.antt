pub mod Operands
pub mod Parent
