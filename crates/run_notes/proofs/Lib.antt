pub mod Links
pub mod Changes
