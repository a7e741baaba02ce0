pub mod Lists
pub mod StripStarts
pub mod RowLaws
pub mod NamedRows
pub mod Filling
pub mod NotedRows
