pub mod Leading
pub mod LimitLaws
pub mod LowestFound
pub mod Signs
