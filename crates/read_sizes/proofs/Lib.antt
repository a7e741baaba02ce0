pub mod SumSteps
pub mod LineSteps
pub mod MeasuredLaws
