-- The clauses of box and diamond say the same over a state's transitions as over its successors by the rules. Assumes
-- nothing.
use mathlib.Core.Path.{◌≡◌, refl, ap, ◌∙◌}
use mathlib.Core.Bool.{Bool, true, false, not, cond, ◌&&◌, ◌||◌}
use mathlib.Core.List.{List, [], ◌∷◌, map}
use Prim.Native.Nat.{ℕ}
use lib.Dec.{eqb}
use Rattle.rules.specs.Lists.{filter, once}
use Rattle.rules.specs.Words.{Input}
use Rattle.rules.specs.System.{transition_target, transitions}
use Rattle.rules.specs.Actions.{Action}
use Rattle.rules.specs.Pairs.{matching_transitions, successors}
use Rattle.lists.proofs.Inserts.{once_in}
use Rattle.lists.proofs.Equalities.{number_equality}
use Rattle.meaning.specs.Quantifiers.{all, any}
use Rattle.meaning.specs.Satisfies.{label_matches}
use Rattle.meaning.proofs.Quantifiers.{all_members, any_members, all_map, any-map}

-- ---- over the elements for which another test holds

module _ {A : Type 0} (f test : A → Bool) where
  all_filter : (xs : List A) → all test (filter f xs) ≡ all (λ x. not (f x) || test x) xs
  unfolding all filter
  all_filter [] = refl
  all_filter (x ∷ xs) = go (f x) (all_filter xs)
    where
      go : (b : Bool) → all test (filter f xs) ≡ all (λ y. not (f y) || test y) xs
          → all test (cond b (x ∷ filter f xs) (filter f xs)) ≡ (not b || test x) && all (λ y. not (f y) || test y) xs
      go true h = ap (λ (r : Bool). test x && r) h
      go false h = h

  any-filter : (xs : List A) → any test (filter f xs) ≡ any (λ x. f x && test x) xs
  unfolding any filter
  any-filter [] = refl
  any-filter (x ∷ xs) = go (f x) (any-filter xs)
    where
      go : (b : Bool) → any test (filter f xs) ≡ any (λ y. f y && test y) xs
          → any test (cond b (x ∷ filter f xs) (filter f xs)) ≡ (b && test x) || any (λ y. f y && test y) xs
      go true h = ap (λ (r : Bool). test x || r) h
      go false h = h

-- ---- over the successors

module _ (x : Input) (a : Action) (test : ℕ → Bool) where
  pub successors-all : (s : ℕ)
      → all test (successors x a s) ≡ all (λ t. not (label_matches x a t) || test (transition_target x.system t)) (transitions x.system s)
  unfolding successors matching_transitions
  successors-all s =
      let ms = map (transition_target x.system) (matching_transitions x a s) in
      all_members test (once eqb ms) ms (once_in number_equality ms)
      ∙ all_map test (transition_target x.system) (matching_transitions x a s)
      ∙ all_filter (label_matches x a) (λ t. test (transition_target x.system t)) (transitions x.system s)

  pub successors-any : (s : ℕ)
      → any test (successors x a s) ≡ any (λ t. label_matches x a t && test (transition_target x.system t)) (transitions x.system s)
  unfolding successors matching_transitions
  successors-any s =
      let ms = map (transition_target x.system) (matching_transitions x a s) in
      any_members test (once eqb ms) ms (once_in number_equality ms)
      ∙ any-map test (transition_target x.system) (matching_transitions x a s)
      ∙ any-filter (label_matches x a) (λ t. test (transition_target x.system t)) (transitions x.system s)
