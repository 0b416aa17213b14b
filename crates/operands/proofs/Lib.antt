pub mod Lookahead
pub mod Operands
pub mod Parent
