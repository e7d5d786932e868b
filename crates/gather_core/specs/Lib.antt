pub mod Pages
pub mod Raw
pub mod Opened
