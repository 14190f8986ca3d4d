pub mod Nodes
pub mod ActionSyntax
pub mod FormulaSyntax
pub mod FormulaReading
