-- A word by the column's number: owners, priorities, states, items.
use native.Mathlib.Omega.{arith}
use Rattle.game_writer.specs.Shown.{shown_vertex}
use Rattle.game_writer.proofs.Whole.{word_shown}
use Rattle.game_writer.proofs.KnownVertex.column_word.Goals as goal

pub returns-in-0 : goal.returns-in-0
unfolding shown_vertex
returns-in-0 c = word_shown _ _ _ _ _ 0 c.args.column c.args.self.vertex.0 _ c.in-0.is c.owner_word.ensures

pub returns-in-1 : goal.returns-in-1
unfolding shown_vertex
returns-in-1 c = word_shown _ _ _ _ _ 1 c.args.column c.args.self.vertex.0 _ c.in-1.is c.shown_priority.ensures

pub returns-in-2 : goal.returns-in-2
unfolding shown_vertex
returns-in-2 c = word_shown _ _ _ _ _ 2 c.args.column c.args.self.vertex.0 _ c.in-2.is c.state_of.ensures

pub returns-in_default : goal.returns-in_default
unfolding shown_vertex
returns-in_default c = word_shown _ _ _ _ _ 3 c.args.column c.args.self.vertex.0 _ (omega arith) c.item_of.ensures
