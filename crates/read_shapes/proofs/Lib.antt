pub mod SortTells
pub mod PhraseLaws
pub mod TurnMeans
pub mod RecogniseSteps
