pub mod Elements
pub mod Grammar
pub mod Walk
pub mod Times
pub mod Calendar
pub mod TimeGrammar
pub mod Values
