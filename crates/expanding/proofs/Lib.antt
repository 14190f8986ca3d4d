pub mod Standing
pub mod Operators
pub mod Modalities
pub mod Branches
pub mod Formulas
pub mod Whole
