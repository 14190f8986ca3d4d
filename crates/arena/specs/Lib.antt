pub mod Arena
pub mod Reworded
