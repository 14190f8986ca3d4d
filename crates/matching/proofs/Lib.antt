pub mod Nodes
pub mod Cases
