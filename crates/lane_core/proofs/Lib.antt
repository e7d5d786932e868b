mod Blocks
mod Majority
mod Rotations
mod Rounds
mod Schedules
mod Vectors
