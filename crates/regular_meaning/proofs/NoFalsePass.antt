-- No pass is false for the formula handed over: a verdict on the game of a finished run over the words written means
-- that the initial state satisfies the formula over regular formulas, by paths. And what the expander's answers say of
-- the words that they leave. Assumes nothing.
use mathlib.Core.Path.{◌≡◌, ◌∙◌}
use mathlib.Core.List.{List}
use Prim.Native.Nat.{ℕ}
use lib.ListN.{length, take}
use Rattle.std.specs.declared.result.Result.TheVariants.{Ok}
use Rattle.rules.specs.declared.Answer.{Answer}
use Rattle.rules.specs.declared.Answer.TheVariants.{Done, Cut, Refused}
use Rattle.rules.specs.Depth.{by_depth}
use Rattle.rules.specs.Refusal.{input_refusal}
use Rattle.tables.proofs.Faults.{first_passed, first_next, first-none}
use Rattle.tables.proofs.Accepted.{accepted_input}
use Rattle.satisfaction.proofs.VerdictMeans.{done_passed}
use Rattle.satisfaction.proofs.NoFalsePass.{no_false_pass}
use Rattle.regular_rules.specs.Refusals.{RegularInput}
use Rattle.regular_rules.specs.Expansion.{expansion}
use Rattle.regular_rules.specs.Accepts.{ExpansionDemand}
use Rattle.regular_rules.proofs.Demand.{expansion_demand}
use Rattle.regular_meaning.specs.Claims.{SystemAccepted, run_input, ExpansionMeans, NoFalsePassByPaths, WrittenMeans}
use Rattle.regular_meaning.proofs.Accepting.{accepted_means}

module _ (x : RegularInput) (written : List ℕ) where
  -- the system of a run that is not refused
  passed_system : (ss : List ℕ) → input_refusal (run_input x ss written) ≡ Ok tt → SystemAccepted x.labels ss
  unfolding input_refusal
  passed_system ss h =
      first_next _ (first_passed _ h 3) ∙ first_next _ (first_passed _ h 4) ∙ first_next _ (first_passed _ h 5)
      ∙ first_next _ (first_passed _ h 6) ∙ first_next _ (first_passed _ h 7) ∙ first_next _ (first_passed _ h 8) ∙ first-none

  pub no_false_pass_by_paths : ExpansionMeans x written → NoFalsePassByPaths x written
  no_false_pass_by_paths means ss r k game work d v =
      let y = run_input x ss written in
      let passed = done_passed by_depth y r k game work d in
      (means ss (passed_system ss (accepted_input y r (length game) (length work) passed))).0 (no_false_pass y r k game work d v)

-- ---- the expander's call

accepted_written_means : (x : RegularInput) (out : List ℕ) (a : Answer) (out' : List ℕ) → ExpansionDemand x out a out' → WrittenMeans x a out'
accepted_written_means x out (Done w zero_1 zero_2) out' (none, p, q, l, i, accepts, rest) =
    let means = accepted_means x (take w out') accepts in
    (means, no_false_pass_by_paths x (take w out') means)
accepted_written_means x out (Cut w v e) out' d = tt
accepted_written_means x out (Refused n p) out' d = tt

pub written_means : (x : RegularInput) (out : List ℕ) → WrittenMeans x (expansion x out).answer (expansion x out).out
written_means x out = accepted_written_means x out (expansion x out).answer (expansion x out).out (expansion_demand x out)
