pub mod ReadingLaws
pub mod RowsLaws
