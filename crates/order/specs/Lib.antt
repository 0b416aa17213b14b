pub mod Reordered
pub mod Rearranged
pub mod Stays
pub mod Sentences
pub mod Books
pub mod Differs
