pub mod SearchLaws
pub mod MemberSteps
pub mod SmallNumbers
pub mod SmallParts
pub mod Compared
pub mod FirstClash
