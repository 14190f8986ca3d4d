pub mod Multiples
pub mod Parts
pub mod Orders
pub mod Filled
pub mod Search
pub mod OneMore
pub mod Begin
pub mod Uses
