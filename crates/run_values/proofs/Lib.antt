pub mod CellLaws
pub mod ArrayCells
pub mod Elements
pub mod NoExpressions
pub mod CodeValues
