pub mod Asking
pub mod Chain
pub mod Newest
pub mod Refusals
pub mod Starting
pub mod StoreLayout
pub mod StoreReading
