pub mod ClassNumbers
pub mod Parts
pub mod Rules
pub mod LineClasses
