pub mod Sorts
pub mod Lexemes
pub mod Table
pub mod Chunks
pub mod Held
