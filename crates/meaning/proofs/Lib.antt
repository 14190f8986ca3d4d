pub mod Tests
pub mod Quantifiers
pub mod Moving
pub mod Steps
pub mod Iterates
pub mod Evaluates
pub mod Told
pub mod Clauses
