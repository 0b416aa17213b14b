pub mod Children
pub mod Fits
pub mod Parties
pub mod Parts
pub mod Rows
pub mod Values
