-- "For every" and "for some" over a list: what they say of its elements, and lists over which they are the same.
-- Assumes nothing.
use mathlib.Core.Path.{◌≡◌, refl, sym, ap, ap₂, subst}
use mathlib.Core.Bool.{Bool, true, false, ◌&&◌, ◌||◌, false≢true}
use mathlib.Core.List.{List, [], ◌∷◌, map}
use mathlib.Core.Logic.{inl, inr, ⊎_elim, ◌↔◌}
use Rattle.rules.specs.Lists.{In}
use Rattle.lists.proofs.Tests.{or_left, or_right, or-true, and-true}
use Rattle.meaning.specs.Quantifiers.{all, any}

-- two truth values of which each follows from the other are equal
pub both_ways : (a b : Bool) → (a ≡ true → b ≡ true) → (b ≡ true → a ≡ true) → a ≡ b
both_ways true b f g = sym (f refl)
both_ways false true f g = g refl
both_ways false false f g = refl

module _ {A : Type 0} (test : A → Bool) where
  pub all_in : (xs : List A) → all test xs ≡ true → (x : A) → In x xs → test x ≡ true
  unfolding all
  all_in [] e x m = absurd m
  all_in (y ∷ xs) e x (inl p) = subst (λ (z : A). test z ≡ true) (sym p) (and-true (test y) (all test xs) e).0
  all_in (y ∷ xs) e x (inr m) = all_in xs (and-true (test y) (all test xs) e).1 x m

  pub in_all : (xs : List A) → ((x : A) → In x xs → test x ≡ true) → all test xs ≡ true
  unfolding all
  in_all [] f = refl
  in_all (y ∷ xs) f = rw (f y (inl refl)) (in_all xs (λ x m. f x (inr m)))

  pub any_in : (xs : List A) → any test xs ≡ true → (x : A) × In x xs × (test x ≡ true)
  unfolding any
  any_in [] e = absurd (false≢true e)
  any_in (y ∷ xs) e = ⊎_elim (λ p. (y, inl refl, p)) (λ q. let r = any_in xs q in (r.0, inr r.1, r.2)) (or-true (test y) (any test xs) e)

  pub in_any : (xs : List A) (x : A) → In x xs → test x ≡ true → any test xs ≡ true
  unfolding any
  in_any [] x m e = absurd m
  in_any (y ∷ xs) x (inl p) e = or_left (any test xs) (subst (λ (z : A). test z ≡ true) p e)
  in_any (y ∷ xs) x (inr m) e = or_right (test y) (in_any xs x m e)

  -- order and repeats do not matter
  module _ (xs ys : List A) (same : (x : A) → In x xs ↔ In x ys) where
    pub all_members : all test xs ≡ all test ys
    all_members =
        both_ways (all test xs) (all test ys)
        (λ e. in_all ys (λ x m. all_in xs e x ((same x).1 m)))
        (λ e. in_all xs (λ x m. all_in ys e x ((same x).0 m)))

    pub any_members : any test xs ≡ any test ys
    any_members =
        both_ways (any test xs) (any test ys)
        (λ e. let (x, m, p) = any_in xs e in in_any ys x ((same x).0 m) p)
        (λ e. let (x, m, p) = any_in ys e in in_any xs x ((same x).1 m) p)

module _ {A B : Type 0} (test : B → Bool) (f : A → B) where
  pub all_map : (xs : List A) → all test (map f xs) ≡ all (λ x. test (f x)) xs
  unfolding all
  all_map [] = refl
  all_map (x ∷ xs) = ap (λ (b : Bool). test (f x) && b) (all_map xs)

  pub any-map : (xs : List A) → any test (map f xs) ≡ any (λ x. test (f x)) xs
  unfolding any
  any-map [] = refl
  any-map (x ∷ xs) = ap (λ (b : Bool). test (f x) || b) (any-map xs)

-- two tests that agree on the elements
module _ {A : Type 0} (test other : A → Bool) where
  pub all_agree : (xs : List A) → ((x : A) → In x xs → test x ≡ other x) → all test xs ≡ all other xs
  unfolding all
  all_agree [] h = refl
  all_agree (x ∷ xs) h = ap₂ ◌&&◌ (h x (inl refl)) (all_agree xs (λ y m. h y (inr m)))

  pub any_agree : (xs : List A) → ((x : A) → In x xs → test x ≡ other x) → any test xs ≡ any other xs
  unfolding any
  any_agree [] h = refl
  any_agree (x ∷ xs) h = ap₂ ◌||◌ (h x (inl refl)) (any_agree xs (λ y m. h y (inr m)))
