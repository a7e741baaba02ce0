pub mod GoingUp
pub mod ParentNotes
