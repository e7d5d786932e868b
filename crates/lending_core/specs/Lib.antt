pub mod Faults
pub mod Lent
pub mod Asking
pub mod Replies
pub mod Facts
