pub mod Building
pub mod Cutting
pub mod Tasks
pub mod Outcomes
pub mod Laws
pub mod Drawing
