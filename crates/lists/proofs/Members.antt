-- Membership, positions, and lists in which no two elements are alike. Assumes nothing; where a test of two elements is
-- used, that it is equality is a parameter.
use mathlib.Core.Path.{◌≡◌, refl, sym, ap, ◌∙◌, subst}
use mathlib.Core.Bool.{Bool, true, false, cond, false≢true, true≢false}
use mathlib.Core.List.{List, [], ◌∷◌, ◌++◌, map}
use mathlib.Core.Logic.{◌⊎◌, inl, inr, ⊎_elim}
use Prim.Native.Nat.{ℕ, zero, suc, ◌≤◌, ◌<◌}
use native.Mathlib.Nat.{not-suc-le-zero, le_of_suc-le-suc}
use native.Mathlib.Omega.{arith}
use lib.ListN.{length, get_or}
use Rattle.rules.specs.Lists.{In, Distinct, has, position}
use Rattle.lists.specs.Shapes.{Equality, Begins}
use Rattle.lists.proofs.Tests.{or_right, or-true}

-- ---- membership

module _ {A : Type 0} where
  pub in_left : (x : A) (xs ys : List A) → In x xs → In x (xs ++ ys)
  in_left x [] ys m = absurd m
  in_left x (y ∷ xs) ys (inl e) = inl e
  in_left x (y ∷ xs) ys (inr m) = inr (in_left x xs ys m)

  pub in_right : (x : A) (xs ys : List A) → In x ys → In x (xs ++ ys)
  in_right x [] ys m = m
  in_right x (y ∷ xs) ys m = inr (in_right x xs ys m)

  pub in_either : (x : A) (xs ys : List A) → In x (xs ++ ys) → In x xs ⊎ In x ys
  in_either x [] ys m = inr m
  in_either x (y ∷ xs) ys (inl e) = inl (inl e)
  in_either x (y ∷ xs) ys (inr m) = ⊎_elim (λ l. inl (inr l)) (λ r. inr r) (in_either x xs ys m)

  pub in_last : (x : A) (xs : List A) → In x (xs ++ (x ∷ []))
  in_last x xs = in_right x xs (x ∷ []) (inl refl)

  pub in_at : (xs : List A) (v : ℕ) (d : A) → v < length xs → In (get_or xs v d) xs
  in_at [] v d h = absurd (not-suc-le-zero h)
  in_at (x ∷ xs) zero d h = inl refl
  in_at (x ∷ xs) (suc v) d h = inr (in_at xs v d (le_of_suc-le-suc h))

  -- a position within the list does not need the default
  pub at-any : (xs : List A) (v : ℕ) (d e : A) → v < length xs → get_or xs v d ≡ get_or xs v e
  at-any [] v d e h = absurd (not-suc-le-zero h)
  at-any (x ∷ xs) zero d e h = refl
  at-any (x ∷ xs) (suc v) d e h = at-any xs v d e (le_of_suc-le-suc h)

-- ---- under a map

module _ {A B : Type 0} (f : A → B) where
  pub map_at : (xs : List A) (v : ℕ) (d : A) (e : B) → v < length xs → get_or (map f xs) v e ≡ f (get_or xs v d)
  map_at [] v d e h = absurd (not-suc-le-zero h)
  map_at (x ∷ xs) zero d e h = refl
  map_at (x ∷ xs) (suc v) d e h = map_at xs v d e (le_of_suc-le-suc h)

  -- and where the defaults agree, any position
  pub map_default : (xs : List A) (v : ℕ) (d : A) → get_or (map f xs) v (f d) ≡ f (get_or xs v d)
  map_default [] v d = refl
  map_default (x ∷ xs) zero d = refl
  map_default (x ∷ xs) (suc v) d = map_default xs v d

  pub map-append : (xs ys : List A) → map f (xs ++ ys) ≡ map f xs ++ map f ys
  map-append [] ys = refl
  map-append (x ∷ xs) ys = ap (λ (l : List B). f x ∷ l) (map-append xs ys)

  pub map_in : (x : A) (xs : List A) → In x xs → In (f x) (map f xs)
  map_in x [] m = absurd m
  map_in x (y ∷ xs) (inl e) = inl (ap f e)
  map_in x (y ∷ xs) (inr m) = inr (map_in x xs m)

  pub in_map : (b : B) (xs : List A) → In b (map f xs) → (y : A) × In y xs × (b ≡ f y)
  in_map b [] m = absurd m
  in_map b (y ∷ xs) (inl e) = (y, inl refl, e)
  in_map b (y ∷ xs) (inr m) = let r = in_map b xs m in (r.0, inr r.1, r.2)

-- ---- no two alike

module _ {A : Type 0} where
  pub distinct_snoc : (xs : List A) (t : A) → Distinct xs → (¬ In t xs) → Distinct (xs ++ (t ∷ []))
  distinct_snoc [] t d n = (λ m. m, tt)
  distinct_snoc (x ∷ xs) t d n = (fresh, distinct_snoc xs t d.1 (λ m. n (inr m)))
    where
      fresh : ¬ In x (xs ++ (t ∷ []))
      fresh m = ⊎_elim d.0 (λ l. ⊎_elim (λ e. n (inl (sym e))) (λ z. z) l) (in_either x xs (t ∷ []) m)

  pub distinct_append : (xs ys : List A) → Distinct xs → Distinct ys → ((x : A) → In x xs → ¬ In x ys) → Distinct (xs ++ ys)
  distinct_append [] ys d e n = e
  distinct_append (x ∷ xs) ys d e n =
      (λ m. ⊎_elim d.0 (n x (inl refl)) (in_either x xs ys m), distinct_append xs ys d.1 e (λ y m. n y (inr m)))

  pub distinct_positions : (xs : List A) (d : A) → Distinct xs → (v w : ℕ) → v < length xs → w < length xs → get_or xs v d ≡ get_or xs w d → v ≡ w
  distinct_positions [] o d v w hv hw e = absurd (not-suc-le-zero hv)
  distinct_positions (x ∷ xs) o d zero zero hv hw e = refl
  distinct_positions (x ∷ xs) o d zero (suc w) hv hw e = absurd (d.0 (subst (λ (y : A). In y xs) (sym e) (in_at xs w o (le_of_suc-le-suc hw))))
  distinct_positions (x ∷ xs) o d (suc v) zero hv hw e = absurd (d.0 (subst (λ (y : A). In y xs) e (in_at xs v o (le_of_suc-le-suc hv))))
  distinct_positions (x ∷ xs) o d (suc v) (suc w) hv hw e =
      ap suc (distinct_positions xs o d.1 v w (le_of_suc-le-suc hv) (le_of_suc-le-suc hw) e)

  -- the list without the one occurrence of x that the proof points at
  unfoldable pub without : (x : A) (xs : List A) → In x xs → List A
  without x [] m = []
  without x (y ∷ xs) (inl e) = xs
  without x (y ∷ xs) (inr m) = y ∷ without x xs m

  pub without_length : (x : A) (xs : List A) (m : In x xs) → suc (length (without x xs m)) ≡ length xs
  unfolding without
  without_length x [] m = absurd m
  without_length x (y ∷ xs) (inl e) = refl
  without_length x (y ∷ xs) (inr m) = ap suc (without_length x xs m)

  without_in : (x : A) (xs : List A) (m : In x xs) (y : A) → (¬ (y ≡ x)) → In y xs → In y (without x xs m)
  unfolding without
  without_in x [] m y n i = absurd m
  without_in x (z ∷ xs) (inl e) y n (inl p) = absurd (n (p ∙ sym e))
  without_in x (z ∷ xs) (inl e) y n (inr i) = i
  without_in x (z ∷ xs) (inr m) y n (inl p) = inl p
  without_in x (z ∷ xs) (inr m) y n (inr i) = inr (without_in x xs m y n i)

  -- distinct elements that all stand in ys are no more than ys has
  pub no_more : (xs ys : List A) → Distinct xs → ((x : A) → In x xs → In x ys) → length xs ≤ length ys
  no_more [] ys d f = omega arith
  no_more (x ∷ xs) ys d f =
      let m : In x ys = f x (inl refl) in
      let ih = no_more xs (without x ys m) d.1
      (λ y i. without_in x ys m y (λ e. d.0 (subst (λ (z : A). In z xs) e i)) (f y (inr i))) in
      omega (arith, ih, without_length x ys m)

-- ---- by a test that is equality

module _ {A : Type 0} {same : A → A → Bool} (eq : Equality same) where
  pub same_of : (a b : A) → a ≡ b → same a b ≡ true
  same_of a b e = subst (λ (c : A). same a c ≡ true) e (eq.self a)

  pub same_not : (a b : A) → same a b ≡ false → ¬ (a ≡ b)
  same_not a b f e = true≢false (sym (same_of a b e) ∙ f)

  pub has_in : (x : A) (xs : List A) → has same x xs ≡ true → In x xs
  unfolding has
  has_in x [] e = absurd (false≢true e)
  has_in x (y ∷ xs) e = ⊎_elim (λ p. inl (eq.sound x y p)) (λ q. inr (has_in x xs q)) (or-true (same x y) (has same x xs) e)

  pub in_has : (x : A) (xs : List A) → In x xs → has same x xs ≡ true
  unfolding has
  in_has x [] m = absurd m
  in_has x (y ∷ xs) (inl e) = rw (same_of x y e) refl
  in_has x (y ∷ xs) (inr m) = rw (in_has x xs m) (or_right (same x y) refl)

  pub no_in : (x : A) (xs : List A) → has same x xs ≡ false → ¬ In x xs
  no_in x xs e m = true≢false (sym (in_has x xs m) ∙ e)

  pub not_in : (x : A) (xs : List A) → (¬ In x xs) → has same x xs ≡ false
  not_in x xs n = go (has same x xs) refl
    where
      go : (b : Bool) → has same x xs ≡ b → has same x xs ≡ false
      go true e = absurd (n (has_in x xs e))
      go false e = e

  -- it stands there or it does not
  pub in_or : (x : A) (xs : List A) → In x xs ⊎ (¬ In x xs)
  in_or x xs = go (has same x xs) refl
    where
      go : (b : Bool) → has same x xs ≡ b → In x xs ⊎ (¬ In x xs)
      go true e = inl (has_in x xs e)
      go false e = inr (no_in x xs e)

  -- ---- positions

  position_cases : (x y : A) (ys : List A) (P : ℕ → Type 0) → (x ≡ y → P 0) → ((¬ (x ≡ y)) → P (suc (position same x ys))) → P (position same x (y ∷ ys))
  unfolding position
  position_cases x y ys P found later = go (same x y) refl
    where
      go : (b : Bool) → same x y ≡ b → P (cond b 0 (suc (position same x ys)))
      go true e = found (eq.sound x y e)
      go false e = later (same_not x y e)

  pub position_below : (x : A) (xs : List A) → In x xs → position same x xs < length xs
  position_below x [] m = absurd m
  position_below x (y ∷ xs) (inl e) = position_cases x y xs (λ n. n < suc (length xs)) (λ p. omega arith) (λ n. absurd (n e))
  position_below x (y ∷ xs) (inr m) =
      let ih = position_below x xs m in
      position_cases x y xs (λ n. n < suc (length xs)) (λ p. omega arith) (λ n. omega arith)

  pub position_most : (x : A) (xs : List A) → position same x xs ≤ length xs
  unfolding position
  position_most x [] = omega arith
  position_most x (y ∷ xs) =
      let ih = position_most x xs in
      position_cases x y xs (λ n. n ≤ suc (length xs)) (λ p. omega arith) (λ n. omega arith)

  pub position_at : (x : A) (xs : List A) (d : A) → In x xs → get_or xs (position same x xs) d ≡ x
  position_at x [] d m = absurd m
  position_at x (y ∷ xs) d (inl e) = position_cases x y xs (λ n. get_or (y ∷ xs) n d ≡ x) (λ p. sym p) (λ n. absurd (n e))
  position_at x (y ∷ xs) d (inr m) =
      let ih = position_at x xs d m in
      position_cases x y xs (λ n. get_or (y ∷ xs) n d ≡ x) (λ p. sym p) (λ n. ih)

  -- what is not there has the length for its position
  pub position-none : (x : A) (xs : List A) → (¬ In x xs) → position same x xs ≡ length xs
  unfolding position
  position-none x [] n = refl
  position-none x (y ∷ xs) n =
      let ih = position-none x xs (λ m. n (inr m)) in
      position_cases x y xs (λ i. i ≡ suc (length xs)) (λ p. absurd (n (inl p))) (λ q. ap suc ih)

  -- the position of the element at v is v, if no two are alike
  pub position-of : (xs : List A) (v : ℕ) (d : A) → Distinct xs → v < length xs → position same (get_or xs v d) xs ≡ v
  position-of xs v d k h =
      let m = in_at xs v d h in
      distinct_positions xs d k (position same (get_or xs v d) xs) v (position_below (get_or xs v d) xs m) h (position_at (get_or xs v d) xs d m)

  pub position_append : (x : A) (xs r : List A) → In x xs → position same x (xs ++ r) ≡ position same x xs
  position_append x [] r m = absurd m
  position_append x (y ∷ xs) r m = go (same x y) refl m (position_append x xs r)
    where
      unfolded : position same x (y ∷ (xs ++ r)) ≡ cond (same x y) 0 (suc (position same x (xs ++ r)))
      unfolded = unfold position in refl

      folded : position same x (y ∷ xs) ≡ cond (same x y) 0 (suc (position same x xs))
      folded = unfold position in refl

      go : (b : Bool) → same x y ≡ b → In x (y ∷ xs) → (In x xs → position same x (xs ++ r) ≡ position same x xs) → position same x (y ∷ (xs ++ r)) ≡ position same x (y ∷ xs)
      go true e m ih = unfolded ∙ rw e refl ∙ sym folded
      go false e (inl p) ih = absurd (same_not x y e p)
      go false e (inr m) ih = unfolded ∙ ap (λ n. cond (same x y) 0 (suc n)) (ih m) ∙ sym folded

  -- a member keeps its position where the list only grows at its end
  pub position_begins : (x : A) (xs ys : List A) → In x xs → Begins xs ys → position same x ys ≡ position same x xs
  position_begins x xs ys m (r, e) = ap (position same x) e ∙ position_append x xs r m

  -- a new element's position is how many stood before it
  pub position_out : (x : A) (xs ys : List A) → (¬ In x xs) → position same x (xs ++ (x ∷ ys)) ≡ length xs
  position_out x [] ys n = position_cases x x ys (λ i. i ≡ 0) (λ p. refl) (λ q. absurd (q refl))
  position_out x (y ∷ xs) ys n =
      let ih = position_out x xs ys (λ m. n (inr m)) in
      position_cases x y (xs ++ (x ∷ ys)) (λ i. i ≡ suc (length xs)) (λ p. absurd (n (inl p))) (λ q. ap suc ih)

-- ---- positions under a map

module _ {A B : Type 0} {same : A → A → Bool} {same' : B → B → Bool} (eq : Equality same) (eq' : Equality same') (f : A → B) where
  -- where no other element has the same image, the position is the same
  pub position_map : (xs : List A) (t : A) → ((x : A) → In x xs → f t ≡ f x → t ≡ x) → position same' (f t) (map f xs) ≡ position same t xs
  unfolding position
  position_map [] t alike = refl
  position_map (x ∷ xs) t alike =
      let ih = position_map xs t (λ y m. alike y (inr m)) in
      position_cases eq t x xs (λ n. position same' (f t) (f x ∷ map f xs) ≡ n)
      (λ e. position_cases eq' (f t) (f x) (map f xs) (λ n. n ≡ 0) (λ p. refl) (λ q. absurd (q (ap f e))))
      (λ n. position_cases eq' (f t) (f x) (map f xs) (λ i. i ≡ suc (position same t xs)) (λ p. absurd (n (alike x (inl refl) p))) (λ q. ap suc ih))
