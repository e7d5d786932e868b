pub mod Pages
pub mod Bound
pub mod Reread
pub mod Tallies
pub mod Joining
pub mod Taken
