pub mod Kinds
pub mod Listing
pub mod Steps
pub mod Outlines
