pub mod Fields
pub mod Header
pub mod Lines
pub mod SheetRead
