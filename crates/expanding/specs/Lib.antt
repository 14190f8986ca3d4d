pub mod Parts
pub mod Modalities
pub mod Formulas
