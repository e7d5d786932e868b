pub mod CertificateLaws
pub mod FedJobs
pub mod FilesRead
pub mod LongestLedger
pub mod LongestQueries
pub mod Reading
pub mod Taken
pub mod FedFiles
pub mod PartFiles
pub mod StoreFiles
mod Steps
pub mod QueryTexts
pub mod QueryReads
mod QueryBounds
mod Decodes
pub mod One
