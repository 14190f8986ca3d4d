pub mod Offsets
pub mod Columns
pub mod Stretches
pub mod Reading
pub mod Rewriting
pub mod Handed
