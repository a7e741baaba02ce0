pub mod BitsTold
pub mod NotesTell
pub mod RowsNoted
pub mod StepsLeft
