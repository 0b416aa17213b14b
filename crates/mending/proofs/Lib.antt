pub mod Mended
pub mod Mending
pub mod Answers
pub mod Kept
pub mod Replaced
pub mod Exchanged
pub mod Exactly
pub mod Denies
pub mod Answering
pub mod Caller
mod Examples
