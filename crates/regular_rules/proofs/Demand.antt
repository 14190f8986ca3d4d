-- What users rely on holds of every call: the table written is one that 01 accepts, with zeros past it; or the first
-- fault is told, and nothing is altered. Assumes nothing.
use mathlib.Core.Path.{◌≡◌, refl, sym, ap, ◌∙◌, subst}
use mathlib.Core.List.{List}
use Prim.Native.Nat.{ℕ, ◌-◌, ◌≤◌}
use native.Mathlib.Omega.{arith}
use lib.ListN.{length, take, drop, replicate, length-append, length-replicate}
use lib.Seq.{take-append_seam, drop-append_seam}
use Rattle.std.specs.declared.result.Result.TheVariants.{Ok, Err}
use Rattle.rules.specs.Answers.{Check}
use Rattle.rules.specs.Game.{padded}
use Rattle.tables.proofs.Choices.{differ_false}
use Rattle.tables.proofs.Faults.{if_passed, first_passed}
use Rattle.writing.specs.FormulaReading.{itself}
use Rattle.writing.proofs.FormulaTheorems.{words_size, words_length}
use Rattle.regular_rules.specs.Refusals.{RegularInput, table_length, refusal_out, expansion_refusal}
use Rattle.regular_rules.specs.Expansion.{expanded, expanded_words, expanded_or, expansion}
use Rattle.regular_rules.specs.Accepts.{Accepts, ExpansionDemand}
use Rattle.regular_rules.proofs.Theorems.{expansion_checks, expansion_whole, expanded_few, expansion_accepted}
use Rattle.regular_rules.proofs.Exact.{expansion_exact, expansion_passed}

module _ (x : RegularInput) (out : List ℕ) where
  abbrev ws : List ℕ
  ws = expanded_words x

  module _ (h : expansion_refusal x (length out) ≡ Ok tt) where
    right_length : length out ≡ table_length
    unfolding refusal_out
    right_length =
        differ_false (length out) table_length
        (if_passed 2 0 _ (first_passed (expansion_checks x (length out)) (sym (expansion_whole x (length out)) ∙ h) 0))

    fits : length ws ≤ table_length
    unfolding expanded_words
    fits =
        let few = expanded_few x (length out) (sym (expansion_whole x (length out)) ∙ h) in
        omega (arith, few, words_size itself (expanded x), words_length itself (expanded x))

    fills : length (padded (length out) ws) ≡ table_length
    unfolding padded
    fills =
        omega (
          arith,
          right_length,
          fits,
          length-append ws (replicate (length out - length ws) 0),
          length-replicate {A = ℕ} (length out - length ws) 0,
        )

    front : take (length ws) (padded (length out) ws) ≡ ws
    unfolding padded
    front = take-append_seam ws (replicate (length out - length ws) 0)

    rest : drop (length ws) (padded (length out) ws) ≡ replicate (table_length - length ws) 0
    unfolding padded
    rest =
        drop-append_seam ws (replicate (length out - length ws) 0)
        ∙ ap (λ (n : ℕ). replicate (n - length ws) 0) right_length

  demand_of : (c : Check) → expansion_refusal x (length out) ≡ c
      → ExpansionDemand x out (expanded_or c (expanded_words x) out).answer (expanded_or c (expanded_words x) out).out
  unfolding expanded_or
  demand_of (Ok u) h = ((expansion_passed x (length out)).0 h, refl, refl, fills h, fits h, subst (Accepts x) (sym (front h)) (expansion_accepted x (length out) h), rest h)
  demand_of (Err f) h = ((expansion_exact x (length out) f.number f.place).0 h, refl)

  pub expansion_demand : ExpansionDemand x out (expansion x out).answer (expansion x out).out
  unfolding expansion
  expansion_demand = demand_of (expansion_refusal x (length out)) refl
