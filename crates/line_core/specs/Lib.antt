pub mod Lines
pub mod Sending
pub mod Devices
pub mod Statuses
