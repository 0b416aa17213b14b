pub mod First
pub mod Fields
pub mod Entries
