-- The expanded formula says the same as the formula over regular formulas, at every state of a system and under any
-- sets for the fixpoints around: of every formula, open or closed. Assumes nothing.
use mathlib.Core.List.{List, ◌∷◌}
use mathlib.Core.Logic.{inl, inr, ⊎_elim, ◌↔◌}
use Prim.Native.Nat.{ℕ, ◌<◌}
use Rattle.rules.specs.System.{state_count}
use Rattle.tables.specs.Good.{GoodSystem}
use Rattle.writing.specs.FormulaSyntax.{FormulaOver, true_formula, false_formula, and_formula, or_formula, box_formula}
use Rattle.writing.specs.FormulaSyntax.{diamond_formula, least_formula, greatest_formula, reference_formula}
use Rattle.meaning.specs.Satisfies.{StateSet, SatisfiesBy}
use Rattle.regular_rules.specs.Regular.{Regular}
use Rattle.regular_rules.specs.Expand.{expand}
use Rattle.regular_meaning.specs.Paths.{Leads, MovesAt}
use Rattle.regular_meaning.proofs.Leading.{leads_inside}
use Rattle.regular_meaning.proofs.Modalities.{box_means, diamond_means}

module _ (labels : ℕ) (ls ss acts : List ℕ) (good : GoodSystem labels ss) where
  pub expansion_means : (f : FormulaOver Regular) (env : List StateSet) (s : ℕ) → s < state_count ss
      → SatisfiesBy ss (Leads ls ss acts) f env s ↔ SatisfiesBy ss (MovesAt ls ss acts) (expand f) env s
  unfolding expand SatisfiesBy
  expansion_means true_formula env s l = (λ h. h, λ h. h)
  expansion_means false_formula env s l = (λ h. h, λ h. h)
  expansion_means (and_formula f g) env s l =
      let a = expansion_means f env s l in
      let b = expansion_means g env s l in
      (λ h. (a.0 h.0, b.0 h.1), λ h. (a.1 h.0, b.1 h.1))
  expansion_means (or_formula f g) env s l =
      let a = expansion_means f env s l in
      let b = expansion_means g env s l in
      (λ h. ⊎_elim (λ i. inl (a.0 i)) (λ i. inr (b.0 i)) h, λ h. ⊎_elim (λ i. inl (a.1 i)) (λ i. inr (b.1 i)) h)
  expansion_means (box_formula r f) env s l =
      let all = box_means labels ls ss acts good r (expand f) env s l in (
        λ h. all.1 (λ t m. (expansion_means f env t (leads_inside ls ss acts labels good r s t l m)).0 (h t m)),
        λ h t m. (expansion_means f env t (leads_inside ls ss acts labels good r s t l m)).1 (all.0 h t m),
      )
  expansion_means (diamond_formula r f) env s l =
      let some = diamond_means labels ls ss acts good r (expand f) env s l in (
        λ (t, m, h). some.1 (t, m, (expansion_means f env t (leads_inside ls ss acts labels good r s t l m)).0 h),
        λ h. let (t, m, k) = some.0 h in (t, m, (expansion_means f env t (leads_inside ls ss acts labels good r s t l m)).1 k),
      )
  expansion_means (least_formula f) env s l = (
    λ h E closed. h E (λ t k a. closed t k ((expansion_means f (E ∷ env) t k).0 a)),
    λ h E closed. h E (λ t k a. closed t k ((expansion_means f (E ∷ env) t k).1 a)),
  )
  expansion_means (greatest_formula f) env s l = (
    λ (E, supported, m). (E, λ t k a. (expansion_means f (E ∷ env) t k).0 (supported t k a), m),
    λ (E, supported, m). (E, λ t k a. (expansion_means f (E ∷ env) t k).1 (supported t k a), m),
  )
  expansion_means (reference_formula i) env s l = (λ h. h, λ h. h)
