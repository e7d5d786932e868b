pub mod Sample
pub mod SampleFields
pub mod Writing
pub mod Parts
pub mod Preparing
pub mod Accepted
