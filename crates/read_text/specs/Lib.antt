pub mod Reading
pub mod Naming
pub mod Writing
