pub mod ActionTrees
pub mod FormulaTrees
pub mod Fixpoints
pub mod Equations
pub mod Largest
pub mod References
pub mod Readings
pub mod ChainReadings
