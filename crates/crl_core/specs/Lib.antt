pub mod Extensions
pub mod Form
pub mod Grammar
pub mod Findings
pub mod Outcome
