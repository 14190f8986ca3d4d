-- A formula says the same under one more fixpoint, to which it does not refer. Assumes nothing.
use mathlib.Core.Path.{◌≡◌, refl, sym, ◌∙◌, subst}
use mathlib.Core.Bool.{cond}
use mathlib.Core.List.{List, [], ◌∷◌, ◌++◌}
use mathlib.Core.Logic.{inl, inr, ⊎_elim, ◌↔◌}
use Prim.Native.Nat.{ℕ, zero, suc, ◌≤◌, ◌<◌}
use native.Mathlib.Omega.{arith}
use native.Mathlib.Decide.{dec_lt}
use lib.ListN.{length, get_or, get_or-append}
use lib.Dec.{ltb}
use borrow.Author.Tests.{lt-ltb, le-ltb}
use Rattle.writing.specs.FormulaSyntax.{FormulaOver, true_formula, false_formula, and_formula, or_formula, box_formula}
use Rattle.writing.specs.FormulaSyntax.{diamond_formula, least_formula, greatest_formula, reference_formula}
use Rattle.meaning.specs.Satisfies.{StateSet, nowhere, Of, SatisfiesBy}
use Rattle.regular_rules.specs.Expand.{below}

-- ---- the sets of the fixpoints around, and of one more behind the first of them

past : (front : List StateSet) (E : StateSet) (env : List StateSet) (i : ℕ) → length front ≤ i
    → get_or (front ++ (E ∷ env)) (suc i) nowhere ≡ get_or (front ++ env) i nowhere
past [] E env i h = refl
past (D ∷ front) E env zero h = absurd (omega arith)
past (D ∷ front) E env (suc i) h = past front E env i (omega arith)

passed : (front : List StateSet) (E : StateSet) (env : List StateSet) (i : ℕ)
    → get_or (front ++ (E ∷ env)) (cond (ltb i (length front)) i (suc i)) nowhere ≡ get_or (front ++ env) i nowhere
passed front E env i = go (dec_lt i (length front))
  where
    go : Dec (i < length front) → get_or (front ++ (E ∷ env)) (cond (ltb i (length front)) i (suc i)) nowhere ≡ get_or (front ++ env) i nowhere
    go (yes h) = rw (lt-ltb i (length front) h) (get_or-append front (E ∷ env) nowhere i h ∙ sym (get_or-append front env nowhere i h))
    go (no h) = rw (le-ltb i (length front) (omega arith)) (past front E env i (omega arith))

-- ---- the law

module _ {M : Type 0} (ss : List ℕ) (leads : M → (s t : ℕ) → Type 0) (E : StateSet) (env : List StateSet) where
  abbrev Under : FormulaOver M → (front : List StateSet) → ℕ → Type 0
  Under f front s = SatisfiesBy ss leads (below f (length front)) (front ++ (E ∷ env)) s

  abbrev Plain : FormulaOver M → (front : List StateSet) → ℕ → Type 0
  Plain f front s = SatisfiesBy ss leads f (front ++ env) s

  under : (f : FormulaOver M) (front : List StateSet) (s : ℕ) → Under f front s ↔ Plain f front s
  unfolding below SatisfiesBy
  under true_formula front s = (λ h. h, λ h. h)
  under false_formula front s = (λ h. h, λ h. h)
  under (and_formula f g) front s = (
    λ h. ((under f front s).0 h.0, (under g front s).0 h.1),
    λ h. ((under f front s).1 h.0, (under g front s).1 h.1),
  )
  under (or_formula f g) front s = (
    λ h. ⊎_elim (λ a. inl ((under f front s).0 a)) (λ b. inr ((under g front s).0 b)) h,
    λ h. ⊎_elim (λ a. inl ((under f front s).1 a)) (λ b. inr ((under g front s).1 b)) h,
  )
  under (box_formula m f) front s = (λ h t l. (under f front t).0 (h t l), λ h t l. (under f front t).1 (h t l))
  under (diamond_formula m f) front s = (λ (t, l, h). (t, l, (under f front t).0 h), λ (t, l, h). (t, l, (under f front t).1 h))
  under (least_formula f) front s = (
    λ h D closed. h D (λ t k a. closed t k ((under f (D ∷ front) t).0 a)),
    λ h D closed. h D (λ t k a. closed t k ((under f (D ∷ front) t).1 a)),
  )
  under (greatest_formula f) front s = (
    λ (D, supported, m). (D, λ t k a. (under f (D ∷ front) t).0 (supported t k a), m),
    λ (D, supported, m). (D, λ t k a. (under f (D ∷ front) t).1 (supported t k a), m),
  )
  under (reference_formula i) front s =
      let e = passed front E env i in (
        λ h. subst (λ (D : StateSet). Of D s) e h,
        λ h. subst (λ (D : StateSet). Of D s) (sym e) h,
      )

  pub below_means : (f : FormulaOver M) (s : ℕ) → SatisfiesBy ss leads (below f 0) (E ∷ env) s ↔ SatisfiesBy ss leads f env s
  below_means f s = under f [] s
