pub mod RowNodes
pub mod Declared
pub mod RowSums
pub mod NameLists
pub mod Layouts
pub mod Parts
pub mod RowKinds
pub mod GivenOperands
