-- That action formulas are told apart: what the crates above this one read of it. Assumes nothing.
pub use Rattle.alike_nodes.specs.Facts.{action_set}
