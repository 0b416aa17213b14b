pub mod Subtrees
pub mod Sound
pub mod Claims
pub mod ReadAlike
pub mod Typed
