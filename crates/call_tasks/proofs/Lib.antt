pub mod Stages
pub mod SheetStage
