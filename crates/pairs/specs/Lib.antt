pub mod Slot
pub mod Table
pub mod Answers
