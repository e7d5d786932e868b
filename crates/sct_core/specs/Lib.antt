pub mod Timestamps
pub mod Extensions
pub mod Outcome
pub mod Grammar
