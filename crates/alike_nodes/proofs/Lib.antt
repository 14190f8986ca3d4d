pub mod Showing
pub mod ActionShapes
pub mod FormulaShapes
pub mod Placing
pub mod Shapes
