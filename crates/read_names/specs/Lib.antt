pub mod Listed
pub mod Keys
