pub mod Ends
pub mod Good
