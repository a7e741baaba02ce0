pub mod Splitting
pub mod Decoding
