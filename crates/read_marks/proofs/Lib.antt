pub mod FollowLaws
pub mod WalkLaws
pub mod PastSteps
pub mod MarkSteps
pub mod MarkLoop
