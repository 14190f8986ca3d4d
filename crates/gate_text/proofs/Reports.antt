-- What is printed of an answer, by its case. Assumes nothing.
use mathlib.Core.Path.{◌≡◌, refl, sym, subst}
use mathlib.Core.List.{List, [], ◌∷◌, ◌++◌}
use Prim.Native.Nat.{ℕ}
use Rattle.rules.specs.declared.Answer.{Answer}
use Rattle.rules.specs.declared.Answer.TheVariants.{Done, Cut, Refused}
use Rattle.rules.specs.Answers.{Accepted}
use Rattle.rules.specs.Game.{vertex_count}
use Rattle.rules.specs.Texts.{line}
use Rattle.rules.specs.Program.{done_text, cut_text, refused_text, vertex_lines, report}

module _ (a : Answer) (g : List ℕ) where
  abbrev report_of : List ℕ
  report_of = report a g

  pub report_done : (s v e : ℕ) → a ≡ Done s v e → line (100 ∷ 111 ∷ 110 ∷ 101 ∷ []) (s ∷ v ∷ e ∷ []) ++ vertex_lines g 0 (vertex_count g) ≡ report_of
  unfolding report done_text
  report_done s v e h = rw h refl

  pub report_cut : (s v e : ℕ) → a ≡ Cut s v e → line (99 ∷ 117 ∷ 116 ∷ []) (s ∷ v ∷ e ∷ []) ++ vertex_lines g 0 (vertex_count g) ≡ report_of
  unfolding report cut_text
  report_cut s v e h = rw h refl

  pub report_refused : (n p : ℕ) → a ≡ Refused n p → line (114 ∷ 101 ∷ 102 ∷ 117 ∷ 115 ∷ 101 ∷ 100 ∷ []) (n ∷ p ∷ []) ≡ report_of
  unfolding report refused_text
  report_refused n p h = rw h refl

-- a game is printed in both cases
pub done_printed : (a : Answer) (s v e : ℕ) → a ≡ Done s v e → Accepted a
done_printed a s v e h = subst Accepted (sym h) tt

pub cut_printed : (a : Answer) (s v e : ℕ) → a ≡ Cut s v e → Accepted a
cut_printed a s v e h = subst Accepted (sym h) tt
