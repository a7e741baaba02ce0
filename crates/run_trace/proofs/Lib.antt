pub mod Lists
pub mod Shown
pub mod Replies
