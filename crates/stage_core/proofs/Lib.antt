pub mod Flags
pub mod Fours
pub mod Runs
pub mod Stages
pub mod Widths
pub mod InThreads
pub mod Shifts
