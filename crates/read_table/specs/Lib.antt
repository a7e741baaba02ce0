pub mod Fields
pub mod TableRead
