-- A formula whose modalities name action formulas by their places in a row says the same as the one that names them by
-- their first nodes. Assumes nothing.
use mathlib.Core.Path.{◌≡◌, sym, ap, ◌∙◌, subst}
use mathlib.Core.List.{List, [], ◌∷◌}
use mathlib.Core.Logic.{inl, inr, ⊎_elim, ◌↔◌}
use Prim.Native.Nat.{ℕ, suc, ◌<◌}
use lib.ListN.{length}
use Rattle.rules.specs.Words.{Input}
use Rattle.rules.specs.Labels.{multiset}
use Rattle.rules.specs.System.{transition_label}
use Rattle.rules.specs.Actions.{Action, action_tree, matches}
use Rattle.writing.specs.ActionSyntax.{first_node}
use Rattle.writing.specs.FormulaSyntax.{FormulaOver, true_formula, false_formula, and_formula, or_formula, box_formula}
use Rattle.writing.specs.FormulaSyntax.{diamond_formula, least_formula, greatest_formula, reference_formula}
use Rattle.writing.specs.FormulaSyntax.{Fits, read_tree, Written}
use Rattle.writing.specs.FormulaReading.{renamed}
use Rattle.writing.proofs.ActionTheorems.{written_row_reads}
use Rattle.meaning.specs.Satisfies.{StateSet, SatisfiesBy, MovesBy, Moves, Satisfies}
use Rattle.regular_meaning.specs.Paths.{MovesAt}

-- modalities that lead to the same states
module _ {M N : Type 0} (ss : List ℕ) (leads : M → (s t : ℕ) → Type 0) (other : N → (s t : ℕ) → Type 0)
    (g : M → N) (fit : M → Type 0) (same : (m : M) → fit m → (s t : ℕ) → leads m s t ↔ other (g m) s t) where
  renamed_means : (f : FormulaOver M) (n : ℕ) → Fits fit n f → (env : List StateSet) (s : ℕ) → SatisfiesBy ss leads f env s ↔ SatisfiesBy ss other (renamed g f) env s
  unfolding renamed SatisfiesBy
  renamed_means true_formula n k env s = (λ h. h, λ h. h)
  renamed_means false_formula n k env s = (λ h. h, λ h. h)
  renamed_means (and_formula a b) n k env s =
      let p = renamed_means a n k.0 env s in
      let q = renamed_means b n k.1 env s in
      (λ h. (p.0 h.0, q.0 h.1), λ h. (p.1 h.0, q.1 h.1))
  renamed_means (or_formula a b) n k env s =
      let p = renamed_means a n k.0 env s in
      let q = renamed_means b n k.1 env s in
      (λ h. ⊎_elim (λ i. inl (p.0 i)) (λ i. inr (q.0 i)) h, λ h. ⊎_elim (λ i. inl (p.1 i)) (λ i. inr (q.1 i)) h)
  renamed_means (box_formula m a) n k env s = (
    λ h t l. (renamed_means a n k.1 env t).0 (h t ((same m k.0 s t).1 l)),
    λ h t l. (renamed_means a n k.1 env t).1 (h t ((same m k.0 s t).0 l)),
  )
  renamed_means (diamond_formula m a) n k env s = (
    λ (t, l, h). (t, (same m k.0 s t).0 l, (renamed_means a n k.1 env t).0 h),
    λ (t, l, h). (t, (same m k.0 s t).1 l, (renamed_means a n k.1 env t).1 h),
  )
  renamed_means (least_formula a) n k env s = (
    λ h E closed. h E (λ t l i. closed t l ((renamed_means a (suc n) k (E ∷ env) t).0 i)),
    λ h E closed. h E (λ t l i. closed t l ((renamed_means a (suc n) k (E ∷ env) t).1 i)),
  )
  renamed_means (greatest_formula a) n k env s = (
    λ (E, supported, m). (E, λ t l i. (renamed_means a (suc n) k (E ∷ env) t).0 (supported t l i), m),
    λ (E, supported, m). (E, λ t l i. (renamed_means a (suc n) k (E ∷ env) t).1 (supported t l i), m),
  )
  renamed_means (reference_formula i) n k env s = (λ h. h, λ h. h)

module _ (x : Input) (w : Written x) where
  reads : (i : ℕ) → i < length w.row → read_tree x.labels w.row i ≡ action_tree x.labels x.actions (first_node w.row i)
  reads i h =
      sym
      (ap (λ (acts : List ℕ). action_tree x.labels acts (first_node w.row i)) w.action_words
      ∙ written_row_reads w.row x.labels w.row_fits i h)

  same_moves : (i : ℕ) → i < length w.row → (s t : ℕ) → Moves x w.row i s t ↔ MovesAt x.labels x.system x.actions (first_node w.row i) s t
  same_moves i h s t =
      let P : Action → Type 0 = λ a. MovesBy x.system (λ k. matches (multiset x.labels (transition_label x.system k)) a) s t in
      (λ m. subst P (reads i h) m, λ m. subst P (sym (reads i h)) m)

  pub named_by_nodes : (s : ℕ) → Satisfies x w.row w.whole [] s ↔ SatisfiesBy x.system (MovesAt x.labels x.system x.actions) (renamed (first_node w.row) w.whole) [] s
  named_by_nodes =
      renamed_means x.system (Moves x w.row) (MovesAt x.labels x.system x.actions) (first_node w.row) (λ i. i < length w.row) same_moves
      w.whole 0 w.formula_fits.closed []
