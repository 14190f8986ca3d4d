-- The equations before this one are shown. Assumes nothing.
use Prim.Native.Nat.{◌<◌}
use Rattle.lent_input.specs.Inputs.{input_in}
use Rattle.item_table.specs.Entries.{ShownIn, KindsRoom, ItemsOnly}
use Rattle.item_table.proofs.NumberedSource.put_equations.Given as goal

abbrev pub invariant-loop-equation : goal.invariant-loop-equation
invariant-loop-equation l =
    ShownIn (input_in l.self.source.input) l.equation l.compiled × ItemsOnly l.initial.compiled l.compiled
    × (0 < l.equation → KindsRoom l.compiled)
