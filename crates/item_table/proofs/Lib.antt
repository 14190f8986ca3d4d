pub mod Steps
pub mod Numbers
pub mod Filling
pub mod Sources
