pub mod Onwards
pub mod Written
