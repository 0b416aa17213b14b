pub mod Checked
pub mod Integers
pub mod Finite
pub mod Numbers
pub mod Bytes
pub mod Equal
pub mod Claims
