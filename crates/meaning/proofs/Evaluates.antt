-- Evaluation by iteration says what the clauses say. So a formula is decided by computation, and the sets that stand
-- for fixpoints are those of the textbooks. Assumes nothing.
use mathlib.Core.Path.{◌≡◌, refl, sym, subst}
use mathlib.Core.Bool.{Bool, true, not, ◌&&◌, ◌||◌, false≢true}
use mathlib.Core.List.{List, ◌∷◌}
use mathlib.Core.Logic.{inl, inr, ⊎_elim, ◌↔◌}
use Prim.Native.Nat.{ℕ, zero, suc, ◌<◌}
use lib.ListN.{get_or}
use Rattle.rules.specs.Lists.{In}
use Rattle.rules.specs.Words.{Input}
use Rattle.rules.specs.Labels.{label_count}
use Rattle.rules.specs.System.{state_count, transition_target, transitions}
use Rattle.tables.specs.Good.{GoodSystem, GoodInput}
use Rattle.lists.proofs.Tests.{or_left, or_right, or-true, and-true}
use Rattle.arena.proofs.Inside.{transition_inside}
use Rattle.writing.specs.ActionSyntax.{ActionSyntax}
use Rattle.writing.specs.FormulaSyntax.{FormulaOver, FormulaSyntax, true_formula, false_formula, and_formula, or_formula, box_formula, diamond_formula, least_formula, greatest_formula, reference_formula, read_tree}
use Rattle.meaning.specs.Satisfies.{label_matches, StateSet, nowhere, SatisfiesBy, MovesBy, Satisfies}
use Rattle.meaning.specs.Evaluation.{everywhere, iterate, evaluate_by, evaluate}
use Rattle.meaning.proofs.Tests.{both_true, implied, implies}
use Rattle.meaning.proofs.Quantifiers.{all_in, in_all, any_in, in_any}
use Rattle.meaning.proofs.Moving.{moves_by_inside}
use Rattle.meaning.proofs.Iterates.{Sub, iterate_grows, least_closed, least_below, greatest_supported, greatest_above}

-- the system of an input with so many labels; a modality leads by each transition that passes its test
module _ {M : Type 0} (labels : ℕ) (ss : List ℕ) (good : GoodSystem labels ss) (test : M → (i : ℕ) → Bool) where
  abbrev S : ℕ
  S = state_count ss

  abbrev value : FormulaOver M → List StateSet → StateSet
  value f env = evaluate_by ss test f env

  -- ---- evaluation grows with the sets that stand for the fixpoints around

  abbrev SubAll : List StateSet → List StateSet → Type 0
  SubAll env more = (i : ℕ) → Sub S (get_or env i nowhere) (get_or more i nowhere)

  sub_more : (C D : StateSet) (env more : List StateSet) → Sub S C D → SubAll env more → SubAll (C ∷ env) (D ∷ more)
  sub_more C D env more h all zero = h
  sub_more C D env more h all (suc i) = all i

  sub_same : (env : List StateSet) → SubAll env env
  sub_same env i s l e = e

  -- what the body is worth where transition i leads
  abbrev value-at : FormulaOver M → List StateSet → ℕ → Bool
  value-at f env i = value f env (transition_target ss i)

  target_inside : (s : ℕ) → s < S → (i : ℕ) → In i (transitions ss s) → transition_target ss i < S
  target_inside s l i m = (transition_inside labels ss good s l i m).1

  pub evaluate_grows : (f : FormulaOver M) (env more : List StateSet) → SubAll env more → Sub S (value f env) (value f more)
  unfolding evaluate_by
  evaluate_grows true_formula env more h s l e = refl
  evaluate_grows false_formula env more h s l e = e
  evaluate_grows (and_formula f g) env more h s l e =
      let (a, b) = and-true (value f env s) (value g env s) e in
      both_true _ _ (evaluate_grows f env more h s l a) (evaluate_grows g env more h s l b)
  evaluate_grows (or_formula f g) env more h s l e =
      ⊎_elim (λ a. or_left (value g more s) (evaluate_grows f env more h s l a)) (λ b. or_right (value f more s) (evaluate_grows g env more h s l b)) (or-true (value f env s) (value g env s) e)
  evaluate_grows (box_formula a f) env more h s l e =
      in_all (λ i. not (test a i) || value-at f more i) (transitions ss s)
      (λ i m. implied (test a i) (value-at f more i)
      (λ d. evaluate_grows f env more h (transition_target ss i) (target_inside s l i m)
      (implies (test a i) (value-at f env i) (all_in (λ j. not (test a j) || value-at f env j) (transitions ss s) e i m) d)))
  evaluate_grows (diamond_formula a f) env more h s l e =
      let (i, m, p) = any_in (λ j. test a j && value-at f env j) (transitions ss s) e in
      let (d, v) = and-true (test a i) (value-at f env i) p in
      in_any (λ j. test a j && value-at f more j) (transitions ss s) i m
      (both_true (test a i) (value-at f more i) d (evaluate_grows f env more h (transition_target ss i) (target_inside s l i m) v))
  evaluate_grows (least_formula f) env more h s l e =
      iterate_grows S S (λ E. value f (E ∷ env)) (λ E. value f (E ∷ more)) nowhere (λ C D k. evaluate_grows f (C ∷ env) (D ∷ more) (sub_more C D env more k h)) s l e
  evaluate_grows (greatest_formula f) env more h s l e =
      iterate_grows S S (λ E. value f (E ∷ env)) (λ E. value f (E ∷ more)) everywhere (λ C D k. evaluate_grows f (C ∷ env) (D ∷ more) (sub_more C D env more k h)) s l e
  evaluate_grows (reference_formula i) env more h s l e = h i s l e

  -- ---- and says what the clauses say

  monotone_by : (f : FormulaOver M) (env : List StateSet) (C D : StateSet) → Sub S C D → Sub S (value f (C ∷ env)) (value f (D ∷ env))
  monotone_by f env C D k = evaluate_grows f (C ∷ env) (D ∷ env) (sub_more C D env env k (sub_same env))

  -- under any sets for the fixpoints around, a state satisfies a formula exactly if it evaluates to true there
  pub evaluates_by : (f : FormulaOver M) (env : List StateSet) (s : ℕ) → s < S → SatisfiesBy ss (λ m. MovesBy ss (test m)) f env s ↔ (evaluate_by ss test f env s ≡ true)
  unfolding SatisfiesBy evaluate_by
  evaluates_by true_formula env s l = (λ h. refl, λ e. tt)
  evaluates_by false_formula env s l = (λ h. absurd h, λ e. absurd (false≢true e))
  evaluates_by (and_formula f g) env s l = (
    λ h. both_true _ _ ((evaluates_by f env s l).0 h.0) ((evaluates_by g env s l).0 h.1),
    λ e. let (a, b) = and-true (value f env s) (value g env s) e in ((evaluates_by f env s l).1 a, (evaluates_by g env s l).1 b),
  )
  evaluates_by (or_formula f g) env s l = (
    λ h. ⊎_elim (λ a. or_left (value g env s) ((evaluates_by f env s l).0 a)) (λ b. or_right (value f env s) ((evaluates_by g env s l).0 b)) h,
    λ e. ⊎_elim (λ a. inl ((evaluates_by f env s l).1 a)) (λ b. inr ((evaluates_by g env s l).1 b)) (or-true (value f env s) (value g env s) e),
  )
  evaluates_by (box_formula a f) env s l = (
    λ h. in_all (λ i. not (test a i) || value-at f env i) (transitions ss s)
        (λ i m. implied (test a i) (value-at f env i)
        (λ d. (evaluates_by f env (transition_target ss i) (target_inside s l i m)).0 (h (transition_target ss i) (i, m, d, refl)))),
    λ e t (i, m, d, p).
        let v : value-at f env i ≡ true = implies (test a i) (value-at f env i) (all_in (λ j. not (test a j) || value-at f env j) (transitions ss s) e i m) d in
        (evaluates_by f env t (moves_by_inside labels ss good (test a) s t l (i, m, d, p))).1 (subst (λ (u : ℕ). value f env u ≡ true) p v),
  )
  evaluates_by (diamond_formula a f) env s l = (
    λ (t, (i, m, d, p), h).
        let v = (evaluates_by f env t (moves_by_inside labels ss good (test a) s t l (i, m, d, p))).0 h in
        in_any (λ j. test a j && value-at f env j) (transitions ss s) i m
        (both_true (test a i) (value-at f env i) d (subst (λ (u : ℕ). value f env u ≡ true) (sym p) v)),
    λ e. let (i, m, p) = any_in (λ j. test a j && value-at f env j) (transitions ss s) e in
        let (d, v) = and-true (test a i) (value-at f env i) p in
        (transition_target ss i, (i, m, d, refl), (evaluates_by f env (transition_target ss i) (target_inside s l i m)).1 v),
  )
  evaluates_by (least_formula f) env s l =
      let F : StateSet → StateSet = λ E. evaluate_by ss test f (E ∷ env) in (
        λ h. h (iterate S F nowhere) (λ t k b. least_closed S F (monotone_by f env) t k ((evaluates_by f (iterate S F nowhere ∷ env) t k).0 b)),
        λ e E closed. least_below S F (monotone_by f env) E (λ t k v. closed t k ((evaluates_by f (E ∷ env) t k).1 v)) S s l e,
      )
  evaluates_by (greatest_formula f) env s l =
      let F : StateSet → StateSet = λ E. evaluate_by ss test f (E ∷ env) in (
        λ h. let (E, supported, m) = h in greatest_above S F (monotone_by f env) E (λ t k v. (evaluates_by f (E ∷ env) t k).0 (supported t k v)) S s l m,
        λ e. (iterate S F everywhere, λ t k v. (evaluates_by f (iterate S F everywhere ∷ env) t k).1 (greatest_supported S F (monotone_by f env) t k v), e),
      )
  evaluates_by (reference_formula i) env s l = (λ h. h, λ e. e)

-- ---- a formula of document 01

module _ (x : Input) (good : GoodInput x) (row : List ActionSyntax) where
  pub monotone : (f : FormulaSyntax) (env : List StateSet) (C D : StateSet) → Sub (state_count x.system) C D
      → Sub (state_count x.system) (evaluate x row f (C ∷ env)) (evaluate x row f (D ∷ env))
  monotone = monotone_by (label_count x.labels) x.system good.system (λ a. label_matches x (read_tree x.labels row a))

  pub evaluates : (f : FormulaSyntax) (env : List StateSet) (s : ℕ) → s < state_count x.system → Satisfies x row f env s ↔ (evaluate x row f env s ≡ true)
  evaluates = evaluates_by (label_count x.labels) x.system good.system (λ a. label_matches x (read_tree x.labels row a))
