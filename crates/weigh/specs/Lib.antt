pub mod Words
pub mod Two
