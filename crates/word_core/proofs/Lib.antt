pub mod OneByOne
pub mod Pairs
pub mod Numbers
pub mod Commands
pub mod DeviceCommands
pub mod Asked
