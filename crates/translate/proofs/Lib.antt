pub mod Shows
pub mod Outcomes
pub mod Prepared
