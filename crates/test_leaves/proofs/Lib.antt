pub mod Copies
pub mod Packing
pub mod Verdicts
pub mod Values
