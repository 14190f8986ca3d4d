-- The equations and the items of the nodes before this one are shown. Assumes nothing.
use Rattle.lent_input.specs.Inputs.{input_in}
use Rattle.compiled.specs.Tables.{kinds_in, lefts_in, rights_in}
use Rattle.item_table.specs.Entries.{ItemsOnly}
use Rattle.item_table.proofs.Filling.{NodesShown}
use Rattle.item_table.proofs.NumberedSource.put_subformulas.Given as goal

abbrev pub invariant-loop-node : goal.invariant-loop-node
invariant-loop-node l =
    NodesShown (input_in l.fn.self.source.input) l.node (kinds_in l.compiled) (lefts_in l.compiled) (rights_in l.compiled)
    × ItemsOnly l.initial.compiled l.compiled
