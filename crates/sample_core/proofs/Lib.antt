pub mod Texts
pub mod Jobs
pub mod Moving
pub mod Spelled
pub mod CrlForms
pub mod Accepted
pub mod Record
