-- The elements for which a test holds. Assumes nothing.
use mathlib.Core.Path.{◌≡◌, refl, sym, ap, ap₂, ◌∙◌}
use mathlib.Core.Bool.{Bool, true, false, cond}
use mathlib.Core.List.{List, [], ◌∷◌, ◌++◌}
use mathlib.Core.Logic.{inl, inr}
use Rattle.rules.specs.Lists.{In, filter}

module _ {A : Type 0} (f : A → Bool) where
  -- each is an element
  pub filter_in : (x : A) (xs : List A) → In x (filter f xs) → In x xs
  unfolding filter
  filter_in x [] m = m
  filter_in x (y ∷ xs) m = go (λ k. filter_in x xs k) (f y) m
    where
      go : (In x (filter f xs) → In x xs) → (b : Bool) → In x (cond b (y ∷ filter f xs) (filter f xs)) → In x (y ∷ xs)
      go r true (inl e) = inl e
      go r true (inr k) = inr (r k)
      go r false k = inr (r k)

  -- the test holds of it
  pub filter_passes : (x : A) (xs : List A) → In x (filter f xs) → f x ≡ true
  unfolding filter
  filter_passes x [] m = absurd m
  filter_passes x (y ∷ xs) m = go (λ k. filter_passes x xs k) (f y) refl m
    where
      go : (In x (filter f xs) → f x ≡ true) → (b : Bool) → f y ≡ b → In x (cond b (y ∷ filter f xs) (filter f xs)) → f x ≡ true
      go r true d (inl e) = ap f e ∙ d
      go r true d (inr k) = r k
      go r false d k = r k

  -- and each element of which it holds is among them
  pub in_filter : (x : A) (xs : List A) → In x xs → f x ≡ true → In x (filter f xs)
  unfolding filter
  in_filter x [] m e = absurd m
  in_filter x (y ∷ xs) (inl i) e = rw (ap f (sym i) ∙ e) (inl i)
  in_filter x (y ∷ xs) (inr m) e = go (in_filter x xs m e) (f y)
    where
      go : In x (filter f xs) → (b : Bool) → In x (cond b (y ∷ filter f xs) (filter f xs))
      go k true = inr k
      go k false = k

  pub filter-append : (xs ys : List A) → filter f (xs ++ ys) ≡ filter f xs ++ filter f ys
  unfolding filter
  filter-append [] ys = refl
  filter-append (x ∷ xs) ys = go (f x) (filter-append xs ys)
    where
      go : (b : Bool) → filter f (xs ++ ys) ≡ filter f xs ++ filter f ys
          → cond b (x ∷ filter f (xs ++ ys)) (filter f (xs ++ ys))
          ≡ cond b (x ∷ filter f xs) (filter f xs) ++ filter f ys
      go true e = ap (λ (l : List A). x ∷ l) e
      go false e = e

-- two tests that agree on the elements
pub filter-agree : {A : Type 0} (f g : A → Bool) (xs : List A) → ((x : A) → In x xs → f x ≡ g x)
    → filter f xs ≡ filter g xs
unfolding filter
filter-agree f g [] h = refl
filter-agree {A} f g (x ∷ xs) h =
    ap₂ (λ (b : Bool) (l : List A). cond b (x ∷ l) l) (h x (inl refl)) (filter-agree f g xs (λ y m. h y (inr m)))
