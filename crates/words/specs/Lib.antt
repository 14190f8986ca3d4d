pub mod Bytes
pub mod Node
pub mod Stretches
