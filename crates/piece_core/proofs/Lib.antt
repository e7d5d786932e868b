pub mod Growing
pub mod Places
pub mod Keeping
pub mod Fronts
