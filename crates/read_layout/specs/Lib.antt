pub mod Standing
pub mod Layout
pub mod Room
