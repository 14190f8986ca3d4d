pub mod Lines
pub mod Windows
pub mod Survey
pub mod Plans
pub mod Numbers
pub mod Facts
