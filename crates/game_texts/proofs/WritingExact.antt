-- Refusals of writing are exact: it is refused with fault n at place p exactly if that is the first fault of the game
-- and the lent slice, in the order 51, 52, 53, 98, 2 and then of places; it is not refused exactly if there is no
-- fault. Assumes nothing.
use Prim.Native.Nat.{ℕ}
use native.Mathlib.Omega.{arith}
use mathlib.Core.Path.{◌≡◌, sym, ap, ◌∙◌}
use mathlib.Core.List.{List, [], ◌∷◌, ◌++◌}
use mathlib.Core.Logic.{◌⊎◌, inl, inr, ◌↔◌}
use lib.ListN.{length}
use lib.Dec.{ltb}
use borrow.Author.Tests.{ltb-true, lt-ltb, not-true}
use Rattle.rules.specs.Answers.{Check}
use Rattle.std.specs.declared.result.Result.TheVariants.{Ok}
use Rattle.rules.specs.Answers.{fault}
use Rattle.rules.specs.Lists.{position, every}
use Rattle.rules.specs.Answers.{fault_if, and_then, first_fault}
use Rattle.rules.specs.Game.{vertex_count}
use Rattle.rules.specs.GameRefusal.{refusal51, refusal52, refusal53, game_refusal}
use Rattle.rules.specs.FaultyGame.{FaultyGame}
use Rattle.rules.specs.FaultyText.{FaultyWriting, no_game, no_successor, short_text, writing_turn, FirstFaultyWriting}
use Rattle.rules.specs.PgsolverWriting.{game_text, has_successor, refusal98, writing_refusal}
use Rattle.tables.proofs.Faults.{then_last, then_assoc}
use Rattle.tables.proofs.Order.{Finds, Sound, Each, Some, Rising, if_numbered, if_sound, if_finds}
use Rattle.tables.proofs.Order.{each_map, each_append, some_left, some_right, first_exact, passed_exact, none_or_first}
use Rattle.tables.proofs.ExactGame.{game_checks, game_sound, game_finds, numbered_51, numbered_52, numbered_53}
use Rattle.game_texts.specs.WritingCheck.{writing_check}
use Rattle.game_texts.proofs.Exact.{stuck, stuck_refused}

module _ (g : List ℕ) (text : ℕ) where
  abbrev F : ℕ → ℕ → Type 0
  F = FaultyWriting g text

  abbrev slice : Check
  slice = fault_if 2 0 (ltb text (length (game_text g)))

  abbrev last : List Check
  last = refusal98 g ∷ slice ∷ []

  abbrev checks : List Check
  checks = game_checks g ++ last

  whole : writing_check g text ≡ first_fault checks
  unfolding writing_check writing_refusal game_refusal first_fault
  whole =
      then_assoc (game_refusal g) (refusal98 g) slice
      ∙ then_assoc (refusal51 g) _ _
      ∙ ap (and_then (refusal51 g))
      (then_assoc (refusal52 g) _ _ ∙ ap (and_then (refusal52 g))
      (ap (λ c. and_then c (and_then (refusal98 g) slice)) (then_last (refusal53 g))
      ∙ ap (λ c. and_then (refusal53 g) (and_then (refusal98 g) c)) (sym (then_last slice))))

  successor_sound : Sound F (refusal98 g)
  unfolding refusal98
  successor_sound =
      if_sound F 98 0 _ (λ e. let (v, h, s) = stuck g
      (not-true (every (has_successor g) 0 (vertex_count g)) e) in no_successor v h s)

  sound : Each (Sound F) checks
  sound =
      each_append (Sound F) (game_checks g) last
      (each_map (Sound (FaultyGame g)) (Sound F) (λ c h n p e. no_game (h n p e)) (game_checks g) (game_sound g))
      (successor_sound, (if_sound F 2 0 _ (λ e. short_text (ltb-true text (length (game_text g)) e)), tt))

  finds : (k q : ℕ) → FaultyWriting g text k q → Some (Finds k q) checks
  finds k q (no_game f) = some_left (Finds k q) (game_checks g) last (game_finds g k q f)
  finds k q (no_successor v h s) =
      some_right (Finds 98 0) (game_checks g) last (inl (0, stuck_refused g v h s, omega arith))
  finds k q (short_text l) =
      some_right (Finds 2 0) (game_checks g) last (inr (inl (if_finds 2 0 _ (lt-ltb text (length (game_text g)) l))))

  rising : Rising writing_turn 0 checks
  unfolding writing_turn position refusal98
  rising = (
    51,
    omega arith,
    numbered_51 g,
    (
      52,
      omega arith,
      numbered_52 g,
      (53, omega arith, numbered_53 g, (98, omega arith, if_numbered 98 0 _, (2, omega arith, if_numbered 2 0 _, tt))),
    ),
  )

  -- ---- the theorems

  pub writing_exact : (n p : ℕ) → writing_check g text ≡ fault n p ↔ FirstFaultyWriting g text n p
  writing_exact n p = rw whole (first_exact writing_turn F checks sound finds rising n p)

  pub writing_passed : writing_check g text ≡ Ok tt ↔ ((n p : ℕ) → ¬ FaultyWriting g text n p)
  writing_passed = rw whole (passed_exact writing_turn F checks sound finds rising)

  -- there is no fault or a first one
  pub writing_none_or_first : ((n p : ℕ) → ¬ FaultyWriting g text n p)
      ⊎ ((n : ℕ) × (p : ℕ) × FirstFaultyWriting g text n p)
  writing_none_or_first = none_or_first writing_turn F checks sound finds rising
