-- Each vertex has a successor, or 98 is said. Assumes nothing.
use mathlib.Core.Path.{◌≡◌, refl}
use mathlib.Core.Bool.{true, false}
use borrow.Author.Rules.{rules}
use borrow.Author.Tests.{tests}
use Prim.Native.Nat.{ℕ, ◌-◌}
use native.Mathlib.Omega.{arith}
use Rattle.std.proofs.lemmas.Iterator.{cases_from_all, YieldsList-from_range}
use Rattle.rules.specs.PgsolverWriting.{has_successor}
use Rattle.pgsolver_writer.proofs.Lines.{successors_searched}
use Rattle.pgsolver_writer.proofs.check_successors.Goals as goal

pub returns : goal.returns
unfolding has_successor
returns c =
    let g = c.args.game.now in
    successors_searched g (c.vertices.result - 0) c.all-all_lead_on.result _ (omega (arith, c.vertices.ensures.0)) c.fault_if.ensures
    (cases_from_all _ _ c.all-all_lead_on.result (λ (v : ℕ). has_successor g v ≡ true) (λ (v : ℕ). has_successor g v ≡ false)
    c.all-all_lead_on.ensures.ran (YieldsList-from_range 0 c.vertices.result _ refl refl) (λ v q k. search (rules, tests)) (λ v q k. search (rules, tests)))
