pub mod Files
pub mod Effects
pub mod Written
pub mod Appending
pub mod Feeding
pub mod Pulling
pub mod SliceFiles
mod Entries
mod View
