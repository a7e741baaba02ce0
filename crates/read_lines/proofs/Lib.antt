pub mod FeedSteps
pub mod NextRead
pub mod ListSteps
pub mod LineLaws
