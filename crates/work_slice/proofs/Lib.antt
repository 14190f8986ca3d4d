pub mod Regions
pub mod Zeros
