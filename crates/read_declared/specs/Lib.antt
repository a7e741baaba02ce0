pub mod Firsts
pub mod Declarations
