pub mod PartLaws
pub mod MarkSteps
pub mod RuleSteps
pub mod ClassLaws
