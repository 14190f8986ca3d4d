use mathlib.Core.Path.{refl, sym, ◌∙◌}
use Prim.Native.Nat.{◌<◌}
use native.Mathlib.Omega.{arith}
use lib.ListN.{length}
use borrow.Author.Tests.{eqb-true}
use Rattle.settling.proofs.Make.{answer_failed}
use Rattle.modalities.proofs.Gathering.{following_start, following_raisable, following_on, following_many, following_end}
use Rattle.modalities.proofs.follow_all.Goals as goal
use Rattle.modalities.proofs.follow_all.Goals.{then-index-targets, else-index-targets}

pub returns-then-is_empty : goal.returns-then-is_empty
returns-then-is_empty g c =
    let none = eqb-true _ 0 (sym c.is_empty.ensures ∙ c.if-is_empty.true) in
    following_end _ _ _ _ _ _ _ _ _ _ 0 (following_start _ _ _ _ _ _ _ _ _ c.requires.0.0 c.requires.0.2) (sym none)

pub loop-index-init : goal.loop-index-init
loop-index-init g c = (following_start _ _ _ _ _ _ _ _ _ c.requires.0.0 c.requires.0.2, λ h. refl)

pub follow-requires : goal.follow-requires
follow-requires g c =
    let following = c.loop-index.invariant.0 in
    let within = c.args.moves.within in
    let inside : c.loop-index.index < length c.args.moves.targets.now =
    omega (arith, c.loop-index-test.true, within.paired) in
    let target : c.loop-index.ahead < c.args.moves.states =
    omega (arith, c.loop-index.invariant.1 inside, within.reach c.loop-index.index inside) in (
      (
        following.gathering.made.ready,
        following_raisable _ _ _ _ _ _ _ _ _ within _ _ _ following (omega (arith, inside)) c.requires.0.1 c.requires.0.2,
      ),
      (
        (
          record { state_fits = omega (arith, target, within.few_states); item_fits = c.requires.1.1 },
          λ by. omega (arith, target, c.requires.0.2.one-each by),
        ),
        c.requires.1.0 c.loop-index.index c.loop-index-test.true,
      ),
    )

pub returns-in_err-so_far : goal.returns-in_err-so_far
returns-in_err-so_far g c =
    let following = c.loop-index.invariant.0 in
    let inside : c.loop-index.index < length c.args.moves.targets.now =
    omega (arith, c.loop-index-test.true, c.args.moves.within.paired) in
    answer_failed _ _ _ _ _ _ _ _ c.from_residual.ensures.0
    (following_many _ _ _ _ _ _ _ _ _ c.follow.new.work _ _ following _ (c.loop-index.invariant.1 inside) c.in_err-so_far.field-0.0 inside
    (c.in_err-so_far.ensures _ _ _ c.requires.0.1 following.gathering))

pub loop-index-preserved : goal.loop-index-preserved
loop-index-preserved g c =
    let following = c.loop-index.invariant.0 in
    let inside : c.loop-index.index < length c.args.moves.targets.now =
    omega (arith, c.loop-index-test.true, c.args.moves.within.paired) in (
      following_on _ _ _ _ _ _ _ _ _ _ _ _ following _ (c.loop-index.invariant.1 inside) _ c.follow.auto.work
          (c.in_ok-so_far.ensures _ _ _ c.requires.0.1 following.gathering),
      elim c.if-index-targets.branch [
        | then-index-targets w ↦ λ h. w.ahead-is
        | else-index-targets w ↦ λ h. absurd (omega (arith, h, w.if-index-targets.false))
      ],
    )
