pub mod Operands
pub mod Names
