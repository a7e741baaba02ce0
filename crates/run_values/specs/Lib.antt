pub mod Cells
pub mod Targets
pub mod Sending
