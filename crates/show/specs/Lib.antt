pub mod Phrase
pub mod Outline
pub mod Fault
pub mod Written
pub mod Sentence
