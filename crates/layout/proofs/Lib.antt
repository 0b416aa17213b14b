pub mod Coding
pub mod Spelling
