pub mod Entry
pub mod Layout
pub mod Ranges
pub mod Room
pub mod Words
