pub mod Roles
pub mod Follows
pub mod Marks
