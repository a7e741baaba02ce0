pub mod Shapes
pub mod Members
pub mod Marks
pub mod Parents
