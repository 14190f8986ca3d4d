pub mod Paths
pub mod Claims
