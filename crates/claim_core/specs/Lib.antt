pub mod Numbers
pub mod Counting
pub mod Seats
pub mod Schedule
pub mod Work
pub mod Played
