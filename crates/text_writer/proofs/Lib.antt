pub mod Digits
pub mod Lines
pub mod Appending
pub mod Endings
