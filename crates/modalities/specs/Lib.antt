pub mod Tables
pub mod Within
pub mod Matched
pub mod Facts
