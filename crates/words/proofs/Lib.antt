pub mod Reading
pub mod Regions
pub mod Stretches
pub mod Sums
