pub mod Results
pub mod Ending
pub mod Showing
pub mod Fits
pub mod Turns
pub mod Machine
