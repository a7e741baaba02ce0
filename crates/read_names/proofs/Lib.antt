pub mod KeySteps
pub mod FindSteps
