pub mod Changes
pub mod Outputs
