pub mod Masks
pub mod Sorts
pub mod Tables
pub mod Truth
