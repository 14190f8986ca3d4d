pub mod Lists
pub mod Turns
pub mod Lines
pub mod Texts
pub mod Whole
