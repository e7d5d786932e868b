pub mod Outcomes
pub mod Appended
pub mod Comes
pub mod Holding
pub mod Calls
pub mod Crashes
pub mod Promises
