pub mod Facts
pub mod Truth
pub mod Showing
pub mod Publishing
pub mod Beginnings
pub mod Bases
pub mod Example
