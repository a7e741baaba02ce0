pub mod OverlaySteps
pub mod TokenParts
pub mod FormSteps
pub mod MarkSteps
pub mod PartSteps
pub mod BlockSteps
