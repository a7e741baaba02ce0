pub mod Bools
pub mod Words
pub mod SetLaws
pub mod Holds
pub mod Meets
pub mod Joined
