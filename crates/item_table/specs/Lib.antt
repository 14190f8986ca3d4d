pub mod Entries
pub mod Facts
