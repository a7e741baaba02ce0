pub mod OwnRows
pub mod TokenRows
pub mod ListedRows
