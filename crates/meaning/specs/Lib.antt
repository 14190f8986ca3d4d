pub mod Quantifiers
pub mod Satisfies
pub mod Evaluation
