pub mod LineParts
pub mod LineRead
