-- `walk` meets its contract: so many steps are done, and none of them was too much. Assumes nothing.
use Rattle.lent_input.specs.Inputs.{input_in}
use Rattle.settling.specs.Keys.{key_targets, key_behind, root_key}
use Rattle.stepping.proofs.Walking.{Walking}
use Rattle.stepping.proofs.walk.Given as goal

abbrev pub invariant-loop-done : goal.invariant-loop-done
invariant-loop-done l =
    let x = input_in l.tables.input in
    Walking (key_targets x) (key_behind x) (root_key x) l.bounds.room.vertices l.bounds.room.edges l.bounds.limit
    l.work l.counters l._done
