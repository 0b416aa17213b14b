pub mod Packed
pub mod Judgements
