pub mod Vertices
pub mod Rows
pub mod Edges
pub mod Whole
