pub mod Bands
pub mod Equations
pub mod Kept
pub mod PlaneWords
pub mod Rows
