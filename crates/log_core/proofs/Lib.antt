pub mod ChainLaws
pub mod VectorLaws
pub mod CertificateLaws
pub mod DateLaws
pub mod EntryLaws
