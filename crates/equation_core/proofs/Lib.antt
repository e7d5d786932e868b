pub mod Cutting
pub mod Elements
pub mod Messages
