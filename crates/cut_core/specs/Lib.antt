pub mod Cutting
pub mod Courses
pub mod InPlaces
pub mod Texts
