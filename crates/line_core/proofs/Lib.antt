pub mod FieldWords
pub mod Sending
