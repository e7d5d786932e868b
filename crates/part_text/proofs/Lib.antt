pub mod PartBounds
pub mod PartOfFields
pub mod PlaneBytes
pub mod MixedTexts
pub mod PartTexts
pub mod Loops
pub mod Words
pub mod Lengths
