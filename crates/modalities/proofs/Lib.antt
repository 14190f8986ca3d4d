pub mod Matches
pub mod Gathering
pub mod Spaces
pub mod Deciding
pub mod Reading
