pub mod GoodGame
pub mod Trimmed
pub mod KeepsAll
