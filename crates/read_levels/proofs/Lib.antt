pub mod EndedSteps
pub mod StepSteps
pub mod TableTells
pub mod LevelLaws
pub mod StepLaws
pub mod ListingLaws
pub mod LineSteps
pub mod Outlining
