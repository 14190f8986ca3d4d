pub mod Fronts
pub mod Whole
