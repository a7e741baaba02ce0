pub mod NamedRows
pub mod LowestBlocks
pub mod NumbersInside
pub mod RowFaults
