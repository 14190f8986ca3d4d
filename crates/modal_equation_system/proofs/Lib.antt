pub mod Good
pub mod Listing
pub mod Reading
pub mod Ranking
