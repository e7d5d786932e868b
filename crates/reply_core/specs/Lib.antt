pub mod Said
pub mod Replies
