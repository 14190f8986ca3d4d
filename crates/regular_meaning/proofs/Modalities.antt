-- The clauses of the expansion say what the paths say: [R] f expanded holds where all paths of R end in states that
-- satisfy f, and <R> f expanded where one does. Assumes nothing.
use mathlib.Core.Path.{◌≡◌, refl, sym, ◌∙◌}
use mathlib.Core.Bool.{Bool, true, false, not, not-not, false≢true}
use mathlib.Core.List.{List, [], ◌∷◌}
use mathlib.Core.Logic.{inl, inr, ⊎_elim, ◌↔◌}
use Prim.Native.Nat.{ℕ, zero, suc, ◌<◌}
use Rattle.rules.specs.System.{state_count, transition_label}
use Rattle.tables.specs.Good.{GoodSystem}
use Rattle.writing.specs.FormulaSyntax.{FormulaOver, and_formula, or_formula, reference_formula}
use Rattle.meaning.specs.Satisfies.{StateSet, nowhere, Of, SatisfiesBy}
use Rattle.meaning.specs.Evaluation.{iterate, evaluate_by}
use Rattle.meaning.proofs.Evaluates.{evaluates_by}
use Rattle.regular_rules.specs.Regular.{Regular, action, sequence, choice, star, plus}
use Rattle.regular_rules.specs.Expand.{box, diamond, modal_formula, both_formula, again_formula, below, modal}
use Rattle.regular_meaning.specs.Paths.{matches_at, Leads, MovesAt}
use Rattle.regular_meaning.proofs.Below.{below_means}
use Rattle.regular_meaning.proofs.Leading.{leads_inside, action_leads, sequence_leads, choice_leads, plus_leads}
use Rattle.regular_meaning.proofs.Leading.{star_stays, star_goes, star_back}

-- ---- truth values

denied : (b : Bool) → not b ≡ true → b ≡ true → ⊥
denied true e f = false≢true e
denied false e f = false≢true f

holds : (b : Bool) → (not b ≡ true → ⊥) → b ≡ true
holds true h = refl
holds false h = absurd (h refl)

module _ (labels : ℕ) (ls ss acts : List ℕ) (good : GoodSystem labels ss) where
  abbrev S : ℕ
  S = state_count ss

  abbrev To : Regular → (s t : ℕ) → Type 0
  To r s t = Leads ls ss acts r s t

  abbrev Sat : FormulaOver ℕ → (env : List StateSet) → ℕ → Type 0
  Sat f env s = SatisfiesBy ss (MovesAt ls ss acts) f env s

  inside : (r : Regular) (s t : ℕ) → s < S → To r s t → t < S
  inside = leads_inside ls ss acts labels good

  -- evaluation decides
  abbrev value : FormulaOver ℕ → List StateSet → StateSet
  value f env = evaluate_by ss (λ a i. matches_at ls acts a (transition_label ss i)) f env

  told : (f : FormulaOver ℕ) (env : List StateSet) (s : ℕ) → s < S → Sat f env s ↔ (value f env s ≡ true)
  told = evaluates_by labels ss good (λ a i. matches_at ls acts a (transition_label ss i))

  -- ---- diamond

  -- some path of R from s ends in a state of P
  abbrev Some : Regular → (P : ℕ → Type 0) → ℕ → Type 0
  Some r P s = (t : ℕ) × To r s t × P t

  abbrev DiamondMeans : Regular → Type 0
  DiamondMeans r = (f : FormulaOver ℕ) (env : List StateSet) (s : ℕ) → s < S → Sat (modal diamond r f) env s ↔ Some r (Sat f env) s

  abbrev diamond_star : Regular → FormulaOver ℕ → FormulaOver ℕ
  diamond_star r f = or_formula (modal diamond r (reference_formula 0)) (below f 0)

  module _ (r : Regular) (one : DiamondMeans r) (f : FormulaOver ℕ) (env : List StateSet) where
    -- each iterate has only states from which a path goes on to f
    iterated : (n s : ℕ) → s < S → iterate n (λ E. value (diamond_star r f) (E ∷ env)) nowhere s ≡ true → Some (star r) (Sat f env) s
    unfolding iterate nowhere SatisfiesBy
    iterated zero s l e = absurd (false≢true e)
    iterated (suc n) s l e =
        let E : StateSet = iterate n (λ E. value (diamond_star r f) (E ∷ env)) nowhere in
        ⊎_elim
        (λ h. let (m, a, i) = (one (reference_formula 0) (E ∷ env) s l).0 h in
        let (t, b, k) = iterated n m (inside r s m l a) i in
        (t, star_goes ls ss acts r s m t a b, k))
        (λ h. (s, star_stays ls ss acts r s, (below_means ss (MovesAt ls ss acts) E env f s).0 h))
        ((told (diamond_star r f) (E ∷ env) s l).1 e)

    diamond_star_means : (s : ℕ) → s < S → Sat (again_formula diamond (diamond_star r f)) env s ↔ Some (star r) (Sat f env) s
    unfolding again_formula SatisfiesBy evaluate_by
    diamond_star_means s l = (
      λ h. iterated S s l ((told (again_formula diamond (diamond_star r f)) env s l).0 h),
      λ (t, a, h) E closed.
          star_back ls ss acts labels good r (Of E) t
          (closed t (inside (star r) s t l a) (inr ((below_means ss (MovesAt ls ss acts) E env f t).1 h)))
          (λ u m k b e. closed u k (inl ((one (reference_formula 0) (E ∷ env) u k).1 (m, b, e))))
          s l a,
    )

  -- <R> f expanded: some path of R ends in a state that satisfies f
  pub diamond_means : (r : Regular) → DiamondMeans r
  unfolding modal modal_formula both_formula SatisfiesBy
  diamond_means (action a) f env s l = (
    λ (t, m, h). (t, (action_leads ls ss acts a s t).1 m, h),
    λ (t, m, h). (t, (action_leads ls ss acts a s t).0 m, h),
  )
  diamond_means (sequence r q) f env s l = (
    λ h. let (m, a, i) = (diamond_means r (modal diamond q f) env s l).0 h in
        let (t, b, k) = (diamond_means q f env m (inside r s m l a)).0 i in
        (t, (sequence_leads ls ss acts r q s t).1 (m, a, b), k),
    λ (t, c, k). let (m, a, b) = (sequence_leads ls ss acts r q s t).0 c in
        (diamond_means r (modal diamond q f) env s l).1 (m, a, (diamond_means q f env m (inside r s m l a)).1 (t, b, k)),
  )
  diamond_means (choice r q) f env s l = (
    λ h. ⊎_elim
        (λ a. let (t, m, k) = (diamond_means r f env s l).0 a in (t, (choice_leads ls ss acts r q s t).1 (inl m), k))
        (λ b. let (t, m, k) = (diamond_means q f env s l).0 b in (t, (choice_leads ls ss acts r q s t).1 (inr m), k))
        h,
    λ (t, c, k). ⊎_elim
        (λ m. inl ((diamond_means r f env s l).1 (t, m, k)))
        (λ m. inr ((diamond_means q f env s l).1 (t, m, k)))
        ((choice_leads ls ss acts r q s t).0 c),
  )
  diamond_means (star r) f env s l = diamond_star_means r (diamond_means r) f env s l
  diamond_means (plus r) f env s l = (
    λ h. let (m, a, i) = (diamond_means r (again_formula diamond (diamond_star r f)) env s l).0 h in
        let (t, b, k) = (diamond_star_means r (diamond_means r) f env m (inside r s m l a)).0 i in
        (t, (plus_leads ls ss acts r s t).1 (m, a, b), k),
    λ (t, c, k). let (m, a, b) = (plus_leads ls ss acts r s t).0 c in
        (diamond_means r (again_formula diamond (diamond_star r f)) env s l).1
        (m, a, (diamond_star_means r (diamond_means r) f env m (inside r s m l a)).1 (t, b, k)),
  )

  -- ---- box

  -- all paths of R from s end in states of P
  abbrev All : Regular → (P : ℕ → Type 0) → ℕ → Type 0
  All r P s = (t : ℕ) → To r s t → P t

  abbrev BoxMeans : Regular → Type 0
  BoxMeans r = (f : FormulaOver ℕ) (env : List StateSet) (s : ℕ) → s < S → Sat (modal box r f) env s ↔ All r (Sat f env) s

  abbrev box_star : Regular → FormulaOver ℕ → FormulaOver ℕ
  box_star r f = and_formula (modal box r (reference_formula 0)) (below f 0)

  module _ (r : Regular) (f : FormulaOver ℕ) (env : List StateSet) where
    -- where f does not hold, and from where some path goes there
    abbrev lost : StateSet
    lost t = not (value f env t)

    abbrev to_lost : FormulaOver ℕ
    to_lost = modal diamond (star r) (reference_formula 0)

    -- from where none does
    abbrev safe : StateSet
    safe s = not (value to_lost (lost ∷ []) s)

    safe_means : (s : ℕ) → s < S → (safe s ≡ true) ↔ All (star r) (Sat f env) s
    unfolding SatisfiesBy
    safe_means s l =
        let some = diamond_means (star r) (reference_formula 0) (lost ∷ []) s l in
        let decided = told to_lost (lost ∷ []) s l in (
          λ e t a. let k = inside (star r) s t l a in
              (told f env t k).1
              (holds (value f env t) (λ d. denied (value to_lost (lost ∷ []) s) e (decided.0 (some.1 (t, a, d))))),
          λ h. holds (safe s) (λ d. let (t, a, b) = some.0 (decided.1 (sym (not-not (value to_lost (lost ∷ []) s)) ∙ d)) in
              denied (value f env t) b ((told f env t (inside (star r) s t l a)).0 (h t a))),
        )

    box_star_means : BoxMeans r → (s : ℕ) → s < S → Sat (again_formula box (box_star r f)) env s ↔ All (star r) (Sat f env) s
    unfolding again_formula SatisfiesBy
    box_star_means one s l = (
      λ (E, supported, m) t a.
          star_back ls ss acts labels good r (λ u. Of E u → Sat f env t) t
          (λ e. (below_means ss (MovesAt ls ss acts) E env f t).0 (supported t (inside (star r) s t l a) e).1)
          (λ u v k b goes e. goes ((one (reference_formula 0) (E ∷ env) u k).0 (supported u k e).0 v b))
          s l a m,
      λ h. (
        safe,
        λ t k e.
            let all = (safe_means t k).0 e in (
              (one (reference_formula 0) (safe ∷ env) t k).1
                  (λ m a. (safe_means m (inside r t m k a)).1 (λ u b. all u (star_goes ls ss acts r t m u a b))),
              (below_means ss (MovesAt ls ss acts) safe env f t).1 (all t (star_stays ls ss acts r t)),
            ),
        (safe_means s l).1 h,
      ),
    )

  -- [R] f expanded: all paths of R end in states that satisfy f
  pub box_means : (r : Regular) → BoxMeans r
  unfolding modal modal_formula both_formula SatisfiesBy
  box_means (action a) f env s l = (
    λ h t m. h t ((action_leads ls ss acts a s t).0 m),
    λ h t m. h t ((action_leads ls ss acts a s t).1 m),
  )
  box_means (sequence r q) f env s l = (
    λ h t c. let (m, a, b) = (sequence_leads ls ss acts r q s t).0 c in
        (box_means q f env m (inside r s m l a)).0 ((box_means r (modal box q f) env s l).0 h m a) t b,
    λ h. (box_means r (modal box q f) env s l).1
        (λ m a. (box_means q f env m (inside r s m l a)).1 (λ t b. h t ((sequence_leads ls ss acts r q s t).1 (m, a, b)))),
  )
  box_means (choice r q) f env s l = (
    λ (h, k) t c. ⊎_elim ((box_means r f env s l).0 h t) ((box_means q f env s l).0 k t) ((choice_leads ls ss acts r q s t).0 c),
    λ h. (
      (box_means r f env s l).1 (λ t m. h t ((choice_leads ls ss acts r q s t).1 (inl m))),
      (box_means q f env s l).1 (λ t m. h t ((choice_leads ls ss acts r q s t).1 (inr m))),
    ),
  )
  box_means (star r) f env s l = box_star_means r f env (box_means r) s l
  box_means (plus r) f env s l = (
    λ h t c. let (m, a, b) = (plus_leads ls ss acts r s t).0 c in
        (box_star_means r f env (box_means r) m (inside r s m l a)).0
        ((box_means r (again_formula box (box_star r f)) env s l).0 h m a) t b,
    λ h. (box_means r (again_formula box (box_star r f)) env s l).1
        (λ m a. (box_star_means r f env (box_means r) m (inside r s m l a)).1 (λ t b. h t ((plus_leads ls ss acts r s t).1 (m, a, b)))),
  )
