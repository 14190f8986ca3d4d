pub mod GivenOnce
pub mod Repeats
pub mod WritingCheck
