pub mod Records
pub mod Subtrees
pub mod Sound
pub mod Operands
pub mod Accepted
pub mod Parts
pub mod Books
pub mod Spanned
pub mod Written
pub mod Replaced
pub mod ReadAlike
mod Choices
pub mod Typed
mod Examples
