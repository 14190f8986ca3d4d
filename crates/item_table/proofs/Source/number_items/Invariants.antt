-- The nodes before this one have their item numbers. Assumes nothing.
use mathlib.Core.Path.{◌≡◌}
use lib.ListN.{length}
use Rattle.lent_input.specs.Inputs.{input_in}
use Rattle.item_table.proofs.Numbers.{Numbering}
use Rattle.item_table.proofs.Source.number_items.Given as goal

abbrev pub invariant-loop-node : goal.invariant-loop-node
invariant-loop-node l = Numbering (input_in l.self.input) l.nodes l.node l.next l.numbers × (length l.numbers ≡ 1_024)
