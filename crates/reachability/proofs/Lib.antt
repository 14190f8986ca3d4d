pub mod Lent
pub mod Edges
pub mod Meeting
pub mod Meets
pub mod Turns
pub mod Stretches
pub mod Written
pub mod Whole
