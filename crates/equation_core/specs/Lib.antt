pub mod Digits
pub mod Draws
pub mod Known
pub mod RowLaws
pub mod Rows
pub mod Shards
pub mod Sizes
