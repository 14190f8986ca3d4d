pub mod Knowing
pub mod Meets
pub mod Parts
