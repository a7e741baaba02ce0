pub mod OverlayLaws
pub mod FormRows
pub mod Laying
pub mod ExpressionLaws
pub mod TokenValues
pub mod RowSteps
pub mod LayLoop
