pub mod LedgerFields
pub mod LedgerText
pub mod Fitting
pub mod LedgerLayout
pub mod LedgerReading
