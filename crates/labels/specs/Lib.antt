pub mod Classes
pub mod Stretches
pub mod Marks
