pub mod Calls
pub mod Endings
pub mod Successes
pub mod Headline
pub mod Places
pub mod Refusals
pub mod Promises
pub mod Sending
