pub mod Does
pub mod Rows
pub mod Held
pub mod Stands
