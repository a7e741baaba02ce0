pub mod FieldLaws
pub mod Names
pub mod VerdictLaws
