pub mod Seals
pub mod Chains
mod Small
mod Pieces
mod Dates
pub mod Orders
pub mod LedgerTexts
pub mod LedgerReads
mod Steps
mod LedgerBounds
mod Decodes
