pub mod Splits
pub mod LineSteps
pub mod RowLines
pub mod PrintedTextLaws
pub mod Encoded
