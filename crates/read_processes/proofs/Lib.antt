pub mod OnwardLaws
pub mod ResolvedLines
pub mod TextStands
pub mod PlaceSteps
pub mod WriteSteps
pub mod WholeText
