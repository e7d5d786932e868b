pub mod Sums
pub mod Kept
pub mod Scheduled
pub mod Places
pub mod Played
