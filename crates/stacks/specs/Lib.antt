pub mod Machine
pub mod Carry
