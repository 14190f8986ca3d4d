pub mod Marks
pub mod Checks
pub mod Shaped
