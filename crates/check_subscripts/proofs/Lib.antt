pub mod ConstantLaws
pub mod CountLaws
