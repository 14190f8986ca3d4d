use mathlib.Core.Path.{ap, ◌∙◌}
use mathlib.Core.List.{List}
use Prim.Native.Nat.{ℕ}
use native.Mathlib.Omega.{arith}
use lib.ListN.{length}
use Rattle.pgsolver_writer.specs.Successors.{spaced_list}
use Rattle.pgsolver_writer.proofs.Turns.{counted_start, counted_more, first_all, only_first}
use Rattle.pgsolver_writer.proofs.Targets.length.Goals as goal

pub loop-target-init : goal.loop-target-init
loop-target-init c = counted_start c.args.self.words.now c.requires

pub successor_length-size-requires : goal.successor_length-size-requires
successor_length-size-requires c =
    let small = c.args.self.vertices.small c.loop-target.target-index (omega arith) in
    omega (arith, small)

pub overflow_add-size : goal.overflow_add-size
overflow_add-size c =
    omega (arith, c.loop-target.invariant.few, c.successor_length-size.ensures.bytes.1, c.args.self.vertices.few)

pub loop-target-preserved : goal.loop-target-preserved
loop-target-preserved c =
    let length = c.successor_length-size.ensures in
    counted_more c.args.self.words.now c.loop-target.target-index (omega arith) c.loop-target.invariant length.bytes.0
    length.bytes.1 length.met

pub empty-requires : goal.empty-requires
empty-requires c =
    let counted = c.loop-target.invariant in
    only_first c.args.self.words.now c.loop-target.target-index c.loop-target-test.false counted.holds

pub returns : goal.returns
returns c =
    let counted = c.loop-target.invariant in
    let all = first_all c.args.self.words.now c.loop-target.target-index c.loop-target-test.false in
    record {
      bytes = (counted.right ∙ ap (λ (l : List ℕ). length (spaced_list l)) all, omega (arith, counted.few));
      emptied = c.empty.ensures;
    }
