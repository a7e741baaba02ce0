pub mod OwnSizes
pub mod RowsCounted
pub mod TokenSums
pub mod TokenSteps
pub mod KindRows
pub mod CountSteps
pub mod ListedLaws
