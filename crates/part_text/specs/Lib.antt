pub mod SealedFields
pub mod PlaneBytes
pub mod PartLayout
pub mod PartText
pub mod Fitting
pub mod Offsets
pub mod Output
