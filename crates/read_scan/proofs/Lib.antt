pub mod BlankSteps
pub mod LastTells
pub mod NextLaws
pub mod NextSteps
