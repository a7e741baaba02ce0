pub mod Phrases
pub mod Numbers
pub mod Turns
