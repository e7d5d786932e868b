pub mod Cuts
pub mod Texts
pub mod Records
pub mod Pieces
pub mod Drawn
