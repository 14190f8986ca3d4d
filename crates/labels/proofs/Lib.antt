pub mod Counts
pub mod Alike
pub mod Listed
pub mod Stretched
pub mod Marks
pub mod Tables
pub mod Cases
