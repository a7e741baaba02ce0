pub mod Replies
pub mod Lending
