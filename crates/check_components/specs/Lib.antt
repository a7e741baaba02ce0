pub mod Marks
pub mod Fields
pub mod RowSets
