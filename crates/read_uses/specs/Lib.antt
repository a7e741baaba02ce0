pub mod Uses
pub mod Misuses
pub mod Places
pub mod Resolving
