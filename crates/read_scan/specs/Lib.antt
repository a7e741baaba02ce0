pub mod Nexts
pub mod LastBytes
