pub mod Decoding
pub mod Lines
pub mod Sizes
pub mod Reports
pub mod Places
pub mod NeverCut
pub mod Fits
pub mod Programs
