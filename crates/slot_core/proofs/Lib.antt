mod StepLaws
mod RecordLaws
mod Quiet
mod Filling
mod Torn
pub mod FieldLaws
mod Tearing
pub mod Unbroken
pub mod Broken
pub mod Moments
mod Switching
