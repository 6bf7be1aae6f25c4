pub mod Replies
pub mod Given
