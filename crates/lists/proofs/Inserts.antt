-- Inserting: the list only grows at its end, holds what is inserted and nothing else, and no two elements become alike.
-- Assumes nothing; that the test is equality is a parameter.
use mathlib.Core.Path.{◌≡◌, refl, sym, ap, ap₂, ◌∙◌, subst}
use mathlib.Core.Bool.{Bool, true, false, cond}
use mathlib.Core.List.{List, [], ◌∷◌, ◌++◌, map, append-nil, append_assoc}
use mathlib.Core.Logic.{◌⊎◌, inl, inr, ⊎_elim, ◌↔◌}
use Prim.Native.Nat.{suc, ◌+◌, ◌≤◌}
use native.Mathlib.Omega.{arith}
use lib.ListN.{length, length-append, length-map}
use Rattle.rules.specs.Lists.{In, Distinct, has, position, insert, insert_all, once}
use Rattle.lists.specs.Shapes.{Equality, Begins, positions}
use Rattle.lists.proofs.Members.{in_either, in_last, in_map, map_in, map-append, distinct_snoc, has_in, no_in, position_begins}
use Rattle.lists.proofs.Shapes.{begins_refl, begins_trans, begins_in}

module _ {A : Type 0} (same : A → A → Bool) where
  pub inserts_none : (xs : List A) → insert_all same xs [] ≡ xs
  unfolding insert_all
  inserts_none xs = refl

  pub inserts_cons : (xs : List A) (y : A) (ys : List A) → insert_all same xs (y ∷ ys) ≡ insert_all same (insert same xs y) ys
  unfolding insert_all
  inserts_cons xs y ys = refl

  pub inserts_append : (xs ys zs : List A) → insert_all same xs (ys ++ zs) ≡ insert_all same (insert_all same xs ys) zs
  unfolding insert_all
  inserts_append xs [] zs = refl
  inserts_append xs (y ∷ ys) zs = inserts_append (insert same xs y) ys zs

  pub inserts_snoc : (xs ys : List A) (y : A) → insert_all same xs (ys ++ (y ∷ [])) ≡ insert same (insert_all same xs ys) y
  unfolding insert_all
  inserts_snoc xs ys y = inserts_append xs ys (y ∷ [])

module _ {A : Type 0} {same : A → A → Bool} (eq : Equality same) where
  -- the one way to take `insert` apart
  pub insert_cases : (P : List A → Type 0) (xs : List A) (x : A) → (In x xs → P xs) → ((¬ In x xs) → P (xs ++ (x ∷ []))) → P (insert same xs x)
  unfolding insert
  insert_cases P xs x old new = go (has same x xs) refl
    where
      go : (b : Bool) → has same x xs ≡ b → P (cond b xs (xs ++ (x ∷ [])))
      go true e = old (has_in eq x xs e)
      go false e = new (no_in eq x xs e)

  pub insert_old : (xs : List A) (x : A) → In x xs → insert same xs x ≡ xs
  insert_old xs x m = insert_cases (λ l. l ≡ xs) xs x (λ i. refl) (λ n. absurd (n m))

  pub insert_new : (xs : List A) (x : A) → (¬ In x xs) → insert same xs x ≡ xs ++ (x ∷ [])
  insert_new xs x n = insert_cases (λ l. l ≡ xs ++ (x ∷ [])) xs x (λ i. absurd (n i)) (λ m. refl)

  pub insert_begins : (xs : List A) (x : A) → Begins xs (insert same xs x)
  insert_begins xs x = insert_cases (Begins xs) xs x (λ m. begins_refl xs) (λ n. (x ∷ [], refl))

  pub insert_holds : (xs : List A) (x : A) → In x (insert same xs x)
  insert_holds xs x = insert_cases (In x) xs x (λ m. m) (λ n. in_last x xs)

  pub insert_only : (xs : List A) (x y : A) → In y (insert same xs x) → In y xs ⊎ (y ≡ x)
  insert_only xs x y =
      insert_cases (λ l. In y l → In y xs ⊎ (y ≡ x)) xs x
      (λ m i. inl i)
      (λ n i. ⊎_elim (λ l. inl l) (λ r. ⊎_elim (λ e. inr e) (λ z. absurd z) r) (in_either y xs (x ∷ []) i))

  pub insert_distinct : (xs : List A) (x : A) → Distinct xs → Distinct (insert same xs x)
  insert_distinct xs x d = insert_cases Distinct xs x (λ m. d) (λ n. distinct_snoc xs x d n)

  pub insert_length : (xs : List A) (x : A) → length (insert same xs x) ≤ suc (length xs)
  insert_length xs x = insert_cases (λ l. length l ≤ suc (length xs)) xs x (λ m. omega arith) (λ n. omega (arith, length-append xs (x ∷ [])))

  -- ---- all of a list

  pub inserts_begins : (xs ys : List A) → Begins xs (insert_all same xs ys)
  unfolding insert_all
  inserts_begins xs [] = begins_refl xs
  inserts_begins xs (y ∷ ys) = begins_trans xs (insert same xs y) (insert_all same (insert same xs y) ys) (insert_begins xs y) (inserts_begins (insert same xs y) ys)

  pub inserts_keeps : (xs ys : List A) (x : A) → In x xs → In x (insert_all same xs ys)
  inserts_keeps xs ys x m = begins_in xs (insert_all same xs ys) (inserts_begins xs ys) x m

  pub inserts_holds : (xs ys : List A) (x : A) → In x ys → In x (insert_all same xs ys)
  unfolding insert_all
  inserts_holds xs [] x m = absurd m
  inserts_holds xs (y ∷ ys) x (inl e) = inserts_keeps (insert same xs y) ys x (subst (λ (z : A). In z (insert same xs y)) (sym e) (insert_holds xs y))
  inserts_holds xs (y ∷ ys) x (inr m) = inserts_holds (insert same xs y) ys x m

  pub inserts_only : (xs ys : List A) (x : A) → In x (insert_all same xs ys) → In x xs ⊎ In x ys
  unfolding insert_all
  inserts_only xs [] x m = inl m
  inserts_only xs (y ∷ ys) x m =
      ⊎_elim (λ l. ⊎_elim (λ i. inl i) (λ e. inr (inl e)) (insert_only xs y x l)) (λ r. inr (inr r)) (inserts_only (insert same xs y) ys x m)

  pub inserts_distinct : (xs ys : List A) → Distinct xs → Distinct (insert_all same xs ys)
  unfolding insert_all
  inserts_distinct xs [] d = d
  inserts_distinct xs (y ∷ ys) d = inserts_distinct (insert same xs y) ys (insert_distinct xs y d)

  -- and all are put at the end if none is there and no two are alike
  pub inserts_new : (xs ys : List A) → Distinct ys → ((y : A) → In y ys → ¬ In y xs) → insert_all same xs ys ≡ xs ++ ys
  unfolding insert_all
  inserts_new xs [] d f = sym (append-nil xs)
  inserts_new xs (y ∷ ys) d f =
      ap (λ (l : List A). insert_all same l ys) (insert_new xs y (f y (inl refl)))
      ∙ inserts_new (xs ++ (y ∷ [])) ys d.1 (λ z m i. ⊎_elim (f z (inr m)) (λ r. ⊎_elim (λ e. d.0 (subst (λ (u : A). In u ys) e m)) (λ n. n) r) (in_either z xs (y ∷ []) i))
      ∙ append_assoc xs (y ∷ []) ys

  pub inserts_length : (xs ys : List A) → length (insert_all same xs ys) ≤ length xs + length ys
  unfolding insert_all
  inserts_length xs [] = omega arith
  inserts_length xs (y ∷ ys) = omega (arith, inserts_length (insert same xs y) ys, insert_length xs y)

  -- ---- each once

  pub once_in : (ys : List A) (x : A) → In x (once same ys) ↔ In x ys
  unfolding once
  once_in ys x = (λ m. ⊎_elim (λ z. absurd z) (λ r. r) (inserts_only [] ys x m), inserts_holds [] ys x)

  pub once_distinct : (ys : List A) → Distinct (once same ys)
  unfolding once
  once_distinct ys = inserts_distinct [] ys tt

  pub once_length : (ys : List A) → length (once same ys) ≤ length ys
  unfolding once
  once_length ys = omega (arith, inserts_length [] ys)

  pub once_append : (xs ys : List A) → once same (xs ++ ys) ≡ insert_all same (once same xs) ys
  unfolding once
  once_append xs ys = inserts_append same [] xs ys

  -- ---- the positions of several elements

  pub positions-append : (xs ts us : List A) → positions same xs (ts ++ us) ≡ positions same xs ts ++ positions same xs us
  unfolding positions
  positions-append xs ts us = map-append (λ t. position same t xs) ts us

  pub positions-length : (xs ts : List A) → length (positions same xs ts) ≡ length ts
  unfolding positions
  positions-length xs ts = length-map ts (λ t. position same t xs)

  -- members keep their positions where the list only grows at its end
  pub positions_begins : (ts xs ys : List A) → ((t : A) → In t ts → In t xs) → Begins xs ys → positions same ys ts ≡ positions same xs ts
  unfolding positions
  positions_begins [] xs ys h b = refl
  positions_begins (t ∷ ts) xs ys h b = ap₂ ◌∷◌ (position_begins eq t xs ys (h t (inl refl)) b) (positions_begins ts xs ys (λ u m. h u (inr m)) b)

-- ---- under a map: where different elements have different images, inserting does not look at the elements

module _ {A B : Type 0} {same : A → A → Bool} {same' : B → B → Bool} (eq : Equality same) (eq' : Equality same') (f : A → B) where
  in_back : (xs : List A) (t : A) → ((x : A) → In x xs → f t ≡ f x → t ≡ x) → In (f t) (map f xs) → In t xs
  in_back xs t alike m = let r = in_map f (f t) xs m in subst (λ (x : A). In x xs) (sym (alike r.0 r.1 r.2)) r.1

  pub insert_map : (xs : List A) (t : A) → ((x : A) → In x xs → f t ≡ f x → t ≡ x) → insert same' (map f xs) (f t) ≡ map f (insert same xs t)
  insert_map xs t alike =
      insert_cases eq (λ l. insert same' (map f xs) (f t) ≡ map f l) xs t
      (λ m. insert_old eq' (map f xs) (f t) (map_in f t xs m))
      (λ n. insert_new eq' (map f xs) (f t) (λ m. n (in_back xs t alike m)) ∙ sym (map-append f xs (t ∷ [])))

  -- P holds of the elements, and elements of which P holds have different images if they differ
  module _ (P : A → Type 0) (alike : (x y : A) → P x → P y → f x ≡ f y → x ≡ y) where
    pub inserts_map : (xs ys : List A) → ((x : A) → In x xs → P x) → ((y : A) → In y ys → P y) → insert_all same' (map f xs) (map f ys) ≡ map f (insert_all same xs ys)
    unfolding insert_all
    inserts_map xs [] p q = refl
    inserts_map xs (y ∷ ys) p q =
        ap (λ (l : List B). insert_all same' l (map f ys)) (insert_map xs y (λ x m e. alike y x (q y (inl refl)) (p x m) e))
        ∙ inserts_map (insert same xs y) ys
        (λ x m. ⊎_elim (p x) (λ e. subst P (sym e) (q y (inl refl))) (insert_only eq xs y x m))
        (λ z m. q z (inr m))

    pub once_map : (ys : List A) → ((y : A) → In y ys → P y) → once same' (map f ys) ≡ map f (once same ys)
    unfolding once
    once_map ys q = inserts_map [] ys (λ x m. absurd m) q
