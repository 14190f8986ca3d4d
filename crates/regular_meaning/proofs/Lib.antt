pub mod Below
pub mod Leading
pub mod Modalities
pub mod Expanding
pub mod Naming
pub mod Accepting
pub mod NoFalsePass
pub mod Cases
