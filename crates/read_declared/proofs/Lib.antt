pub mod FirstSteps
pub mod HeaderLaws
pub mod NameLaws
pub mod OrderLaws
pub mod KindLaws
pub mod DeclaredLines
pub mod RowSteps
pub mod GatherSteps
