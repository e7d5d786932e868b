pub mod Auditing
pub mod Admitting
pub mod Checking
pub mod Fours
