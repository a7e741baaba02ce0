pub mod Lists
pub mod FinalState
pub mod InRange
pub mod PrintedTextSize
pub mod Ranges
pub mod Stages
pub mod Whole
