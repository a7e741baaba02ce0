pub mod Overlay
pub mod TokenRows
pub mod Free
pub mod Expressions
