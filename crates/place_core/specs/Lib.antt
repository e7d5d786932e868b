pub mod Places
pub mod Cuts
