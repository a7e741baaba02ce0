pub mod LineTold
pub mod StandSteps
pub mod LineCases
pub mod ListCases
