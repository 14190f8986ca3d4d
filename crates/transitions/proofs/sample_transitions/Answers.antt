use mathlib.Core.Path.{◌≡◌, sym, subst}
use mathlib.Core.List.{List}
use Prim.Native.Nat.{ℕ, ◌+◌, ◌*◌, ◌<◌}
use native.Mathlib.Omega.{arith}
use Rattle.rules.specs.Lists.{word}
use Rattle.rules.specs.System.{first_transition}
use Rattle.transitions.specs.Samples.{stride}
use Rattle.transitions.proofs.Sums.{first-none, first_more, sum_small, sample_more, sample_between}
use Rattle.transitions.proofs.sample_transitions.Goals as goal
use Rattle.transitions.proofs.sample_transitions.Goals.{then-s-eq0, else-s-eq0}

pub loop-s-init : goal.loop-s-init
loop-s-init c = (sym (first-none c.args.system.now), λ i h. absurd (omega arith))

pub overflow_cast-samples : goal.overflow_cast-samples
overflow_cast-samples c =
    let l = c.loop-s in
    omega (
      arith,
      sum_small c.args.system.now c.requires.system l.s l.sum (omega (arith, c.at-states.ensures.0)) l.invariant.0,
    )

pub overflow_add-sum : goal.overflow_add-sum
overflow_add-sum c =
    let l = c.loop-s in
    omega (
      arith,
      sum_small c.args.system.now c.requires.system l.s l.sum (omega (arith, c.at-states.ensures.0)) l.invariant.0,
      c.at-sum.ensures.1,
    )

pub loop-s-preserved : goal.loop-s-preserved
loop-s-preserved c =
    let l = c.loop-s in
    let ss = c.args.system.now in
    let more : l.sum + c.at-sum.result ≡ first_transition ss (l.s + 1) = omega
    (arith, first_more ss l.s, l.invariant.0, c.at-sum.ensures.0) in
    let P : List ℕ → Type 0 = λ z. (i : ℕ) → i * stride < l.s + 1 → word z i ≡ first_transition ss (i * stride) in
    elim c.if-s-eq0.branch [
      | then-s-eq0 w ↦ (
        more,
        subst P (sym w.samples-is) (sample_more ss l.samples l.s l.sum
            (omega (
              arith,
              l.auto.samples,
              c.at-states.ensures.0,
              c.requires.system.1.states,
              c.requires.sample_count_in_bounds,
            )) w.if-s-eq0.true l.invariant.0 l.invariant.1),
      )
      | else-s-eq0 w ↦ (
        more,
        subst P (sym w.samples-is) (sample_between ss l.samples l.s w.if-s-eq0.false l.invariant.1),
      )
    ]

pub returns : goal.returns
returns c =
    let l = c.loop-s in
    record {
      room = omega (arith, l.auto.samples, c.requires.system.1.states, c.requires.sample_count_in_bounds);
      entry = λ i h. l.invariant.1 i (omega (arith, c.at-states.ensures.0, c.loop-s-test.false));
    }
