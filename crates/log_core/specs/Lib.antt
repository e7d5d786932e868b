pub mod Certificates
pub mod CertificateGrammar
pub mod Entries
pub mod EntryGrammar
pub mod Leaves
pub mod VectorGrammar
