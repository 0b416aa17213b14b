pub mod Stack
pub mod Kept
pub mod Rooms
pub mod Children
pub mod Laws
pub mod Whole
mod Table
pub mod Unique
