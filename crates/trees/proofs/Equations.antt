-- The equations in table order: how the list grows from node to node, the number of a fixpoint's equation, and the
-- equation of a number. Assumes nothing.
use mathlib.Core.Path.{◌≡◌, refl, sym, ap, ◌∙◌}
use mathlib.Core.Logic.{◌⊎◌, inl, inr}
use mathlib.Core.Bool.{Bool, true, false, true≢false, false≢true}
use mathlib.Core.List.{List, [], ◌∷◌, ◌++◌, append-nil}
use mathlib.Core.Option.{Option, none, some}
use Prim.Native.Nat.{ℕ, zero, suc, ◌+◌, ◌-◌, ◌≤◌, ◌<◌}
use native.Mathlib.Decide.{dec_lt, ℕ_discrete}
use native.Mathlib.Omega.{arith}
use lib.ListN.{length, get_or, length-append, get_or-append}
use lib.Seq.{get_or-append_seam}
use Rattle.rules.specs.Table.{size, kind, operand, FormulaNode, decode_formula, formula_node, is_some, fixpoint_of}
use Rattle.rules.specs.Formula.{Operator, least, greatest, Equation, equation_at, is_fixpoint, placeholder, equations_before, equations, equation_count, equation_of, equation_number}
use Rattle.tables.specs.Good.{GoodFormula}
use Rattle.tables.proofs.Decode.{formula_of_kind}
use Rattle.trees.proofs.Fixpoints.{fixpoint_at, no_fixpoint_below, no_fixpoint_above, fixpoint_inside, fixpoint_kind}

-- ---- the equation of one node

none-at : (v : ℕ) (o : Option Operator) → is_some o ≡ false → equation_at v o ≡ []
unfolding equation_at
none-at v none e = refl
none-at v (some o) e = absurd (true≢false e)

one_at : (v : ℕ) (o : Option Operator) → is_some o ≡ true
    → (p : Operator) × (equation_at v o ≡ record { operator = p; body = suc v } ∷ [])
unfolding equation_at
one_at v none e = absurd (false≢true e)
one_at v (some o) e = (o, refl)

module _ (f : List ℕ) where
  -- ---- the list grows from node to node

  pub start_fixpoint : is_fixpoint (formula_node f 0) ≡ true → equations_before f 0 ≡ []
  unfolding equations_before placeholder
  start_fixpoint e = rw e

  pub start_placeholder : is_fixpoint (formula_node f 0) ≡ false → equations_before f 0 ≡ record { operator = least; body = 0 } ∷ []
  unfolding equations_before placeholder
  start_placeholder e = rw e

  pub equations_same : (v : ℕ) → is_fixpoint (formula_node f v) ≡ false → equations_before f (suc v) ≡ equations_before f v
  unfolding equations_before is_fixpoint
  equations_same v e =
      ap (λ (l : List Equation). equations_before f v ++ l) (none-at v (fixpoint_of (formula_node f v)) e)
      ∙ append-nil (equations_before f v)

  pub equations_more : (v : ℕ) → is_fixpoint (formula_node f v) ≡ true
      → (o : Operator) × (equations_before f (suc v) ≡ equations_before f v ++ (record { operator = o; body = suc v } ∷ []))
  unfolding equations_before is_fixpoint
  equations_more v e =
      let (o, q) = one_at v (fixpoint_of (formula_node f v)) e in
      (o, ap (λ (l : List Equation). equations_before f v ++ l) q)

  -- the same by kinds
  pub equations_below : (v : ℕ) → v < size f → kind f v ≤ 5 → equations_before f (suc v) ≡ equations_before f v
  equations_below v h p = equations_same v (no_fixpoint_below f v h p)

  pub equations_above : (v : ℕ) → v < size f → 8 ≤ kind f v → equations_before f (suc v) ≡ equations_before f v
  equations_above v h p = equations_same v (no_fixpoint_above f v h p)

  pub equations_least : (v : ℕ) → v < size f → kind f v ≡ 6 → equations_before f (suc v) ≡ equations_before f v ++ (record { operator = least; body = suc v } ∷ [])
  unfolding equations_before equation_at fixpoint_of decode_formula
  equations_least v h e =
      ap (λ (n : FormulaNode). equations_before f v ++ equation_at v (fixpoint_of n)) (formula_of_kind f v h 6 e)

  pub equations_greatest : (v : ℕ) → v < size f → kind f v ≡ 7
      → equations_before f (suc v) ≡ equations_before f v ++ (record { operator = greatest; body = suc v } ∷ [])
  unfolding equations_before equation_at fixpoint_of decode_formula
  equations_greatest v h e =
      ap (λ (n : FormulaNode). equations_before f v ++ equation_at v (fixpoint_of n)) (formula_of_kind f v h 7 e)

  -- ---- numbers

  pub number_same : (v : ℕ) → is_fixpoint (formula_node f v) ≡ false → equation_number f (suc v) ≡ equation_number f v
  unfolding equation_number
  number_same v e = ap length (equations_same v e)

  pub number_more : (v : ℕ) → is_fixpoint (formula_node f v) ≡ true → equation_number f (suc v) ≡ suc (equation_number f v)
  unfolding equation_number
  number_more v e = let (o, q) = equations_more v e in ap length q ∙ length-append (equations_before f v) (record { operator = o; body = suc v } ∷ []) ∙ omega arith

  pub number_start : is_fixpoint (formula_node f 0) ≡ true → equation_number f 0 ≡ 0
  unfolding equation_number
  number_start e = ap length (start_fixpoint e)

  pub number_start_placeholder : is_fixpoint (formula_node f 0) ≡ false → equation_number f 0 ≡ 1
  unfolding equation_number
  number_start_placeholder e = ap length (start_placeholder e)

  pub count_number : equation_count f ≡ equation_number f (size f)
  unfolding equation_count equations equation_number
  count_number = refl

  -- the number grows by at most 1 from node to node
  pub number_step : (v : ℕ) → (equation_number f v ≤ equation_number f (suc v)) × (equation_number f (suc v) ≤ suc (equation_number f v))
  number_step v = go (is_fixpoint (formula_node f v)) refl
    where
      go : (b : Bool) → is_fixpoint (formula_node f v) ≡ b → (equation_number f v ≤ equation_number f (suc v)) × (equation_number f (suc v) ≤ suc (equation_number f v))
      go true e = (omega (arith, number_more v e), omega (arith, number_more v e))
      go false e = (omega (arith, number_same v e), omega (arith, number_same v e))

  number_grows : (v u : ℕ) → u ≤ v → equation_number f u ≤ equation_number f v
  number_grows zero u h = let e : u ≡ 0 = omega arith in rw e (omega arith)
  number_grows (suc v) u h = go (λ p. number_grows v u p) (ℕ_discrete u (suc v))
    where
      go : (u ≤ v → equation_number f u ≤ equation_number f v) → Dec (u ≡ suc v) → equation_number f u ≤ equation_number f (suc v)
      go r (yes e) = rw e (omega arith)
      go r (no d) = omega (arith, r (omega arith), (number_step v).0)

  pub number_monotone : (u v : ℕ) → u ≤ v → equation_number f u ≤ equation_number f v
  number_monotone u v h = number_grows v u h

  -- a later node's number is larger than a fixpoint's
  pub number_later : (u v : ℕ) → is_fixpoint (formula_node f u) ≡ true → u < v → equation_number f u < equation_number f v
  number_later u v t h = omega (arith, number_monotone (suc u) v h, number_more u t)

  pub number_order : (u v : ℕ) → is_fixpoint (formula_node f v) ≡ true → equation_number f u < equation_number f v → u < v
  number_order u v t h = go (dec_lt u v)
    where
      go : Dec (u < v) → u < v
      go (yes l) = l
      go (no l) = absurd (omega (arith, number_monotone v u (omega arith)))

  -- different fixpoints have different numbers
  pub number_apart : (u v : ℕ) → is_fixpoint (formula_node f u) ≡ true → is_fixpoint (formula_node f v) ≡ true → equation_number f u ≡ equation_number f v → u ≡ v
  number_apart u v s t e = go (dec_lt u v) (dec_lt v u)
    where
      go : Dec (u < v) → Dec (v < u) → u ≡ v
      go (yes l) d = absurd (omega (arith, number_later u v s l))
      go (no l) (yes m) = absurd (omega (arith, number_later v u t m))
      go (no l) (no m) = omega arith

  -- a fixpoint's number is an equation's
  pub number_below : (v : ℕ) → is_fixpoint (formula_node f v) ≡ true → equation_number f v < equation_count f
  number_below v t = omega (arith, count_number, number_later v (size f) t (fixpoint_inside f v t))

  -- ---- how many

  pub number_most : (v : ℕ) → equation_number f v ≤ v + equation_number f 0
  number_most zero = omega arith
  number_most (suc v) = omega (arith, number_most v, (number_step v).1)

  number_start_most : equation_number f 0 ≤ 1
  number_start_most = go (is_fixpoint (formula_node f 0)) refl
    where
      go : (b : Bool) → is_fixpoint (formula_node f 0) ≡ b → equation_number f 0 ≤ 1
      go true e = omega (arith, number_start e)
      go false e = omega (arith, number_start_placeholder e)

  pub count_most : equation_count f ≤ size f + 1
  count_most = omega (arith, count_number, number_most (size f), number_start_most)

  -- at least one equation
  pub some_equation : 1 ≤ size f → 1 ≤ equation_count f
  some_equation h = go (is_fixpoint (formula_node f 0)) refl
    where
      go : (b : Bool) → is_fixpoint (formula_node f 0) ≡ b → 1 ≤ equation_count f
      go true e = omega (arith, number_below 0 e)
      go false e = omega (arith, count_number, number_monotone 0 (size f) (omega arith), number_start_placeholder e)

  -- ---- the equation of a number

  -- what the list holds stays as it grows
  equations_kept : (i : ℕ) (d : Equation) (v : ℕ) → i < equation_number f v → get_or (equations_before f (suc v)) i d ≡ get_or (equations_before f v) i d
  unfolding equations_before equation_number
  equations_kept i d v h = get_or-append (equations_before f v) (equation_at v (fixpoint_of (formula_node f v))) d i h

  equations_hold : (v u i : ℕ) (d : Equation) → u ≤ v → i < equation_number f u → get_or (equations_before f v) i d ≡ get_or (equations_before f u) i d
  equations_hold zero u i d h p = let e : u ≡ 0 = omega arith in rw e
  equations_hold (suc v) u i d h p = go (λ q. equations_hold v u i d q p) (ℕ_discrete u (suc v))
    where
      go : (u ≤ v → get_or (equations_before f v) i d ≡ get_or (equations_before f u) i d) → Dec (u ≡ suc v)
          → get_or (equations_before f (suc v)) i d ≡ get_or (equations_before f u) i d
      go r (yes e) = rw e
      go r (no n) = equations_kept i d v (omega (arith, number_monotone u v (omega arith))) ∙ r (omega arith)

  pub equations_prefix : (u v i : ℕ) (d : Equation) → u ≤ v → i < equation_number f u → get_or (equations_before f v) i d ≡ get_or (equations_before f u) i d
  equations_prefix u v i d h p = equations_hold v u i d h p

  -- the equation that node v adds
  added : (v : ℕ) (q : Equation) → is_fixpoint (formula_node f v) ≡ true → equations_before f (suc v) ≡ equations_before f v ++ (q ∷ []) → equation_of f (equation_number f v) ≡ q
  unfolding equation_of equations equation_number
  added v q t e =
      let d : Equation = record { operator = least; body = 0 } in
      equations_prefix (suc v) (size f) (equation_number f v) d (fixpoint_inside f v t) (omega (arith, number_more v t))
      ∙ ap (λ (l : List Equation). get_or l (equation_number f v) d) e
      ∙ get_or-append_seam (equations_before f v) q [] d

  pub least_equation : (v : ℕ) → v < size f → kind f v ≡ 6 → equation_of f (equation_number f v) ≡ record { operator = least; body = suc v }
  least_equation v h e = added v (record { operator = least; body = suc v }) (fixpoint_at f v h (omega arith) (omega arith)) (equations_least v h e)

  pub greatest_equation : (v : ℕ) → v < size f → kind f v ≡ 7 → equation_of f (equation_number f v) ≡ record { operator = greatest; body = suc v }
  greatest_equation v h e = added v (record { operator = greatest; body = suc v }) (fixpoint_at f v h (omega arith) (omega arith)) (equations_greatest v h e)

  pub fixpoint_body : (v : ℕ) → is_fixpoint (formula_node f v) ≡ true → (equation_of f (equation_number f v)).body ≡ suc v
  fixpoint_body v t = let (o, e) = equations_more v t in ap (λ (q : Equation). q.body) (added v (record { operator = o; body = suc v }) t e)

  pub placeholder_equation : is_fixpoint (formula_node f 0) ≡ false → equation_of f 0 ≡ record { operator = least; body = 0 }
  unfolding equation_of equations
  placeholder_equation t =
      let d : Equation = record { operator = least; body = 0 } in
      equations_prefix 0 (size f) 0 d (omega arith) (omega (arith, number_start_placeholder t))
      ∙ ap (λ (l : List Equation). get_or l 0 d) (start_placeholder t)

  -- each number below that of node v is the placeholder's or that of an earlier fixpoint
  abbrev Numbered : ℕ → ℕ → Type 0
  Numbered v i =
      ((i ≡ 0) × (is_fixpoint (formula_node f 0) ≡ false))
      ⊎ ((u : ℕ) × (u < v) × (is_fixpoint (formula_node f u) ≡ true) × (equation_number f u ≡ i))

  numbered : (v i : ℕ) → i < equation_number f v → Numbered v i
  numbered zero i h = go (is_fixpoint (formula_node f 0)) refl
    where
      go : (b : Bool) → is_fixpoint (formula_node f 0) ≡ b → Numbered 0 i
      go true e = absurd (omega (arith, number_start e))
      go false e = inl (omega (arith, number_start_placeholder e), e)
  numbered (suc v) i h = go (λ p. numbered v i p) (is_fixpoint (formula_node f v)) refl (dec_lt i (equation_number f v))
    where
      later : Numbered v i → Numbered (suc v) i
      later (inl p) = inl p
      later (inr (u, a, t, e)) = inr (u, omega arith, t, e)

      go : (i < equation_number f v → Numbered v i) → (b : Bool) → is_fixpoint (formula_node f v) ≡ b → Dec (i < equation_number f v) → Numbered (suc v) i
      go r b e (yes l) = later (r l)
      go r true e (no l) = inr (v, omega arith, e, omega (arith, number_more v e))
      go r false e (no l) = absurd (omega (arith, number_same v e))

  -- each equation is the placeholder, or that of a fixpoint
  pub equation_node : (i : ℕ) → i < equation_count f
      → ((i ≡ 0) × (is_fixpoint (formula_node f 0) ≡ false)) ⊎ ((v : ℕ) × (v < size f) × (is_fixpoint (formula_node f v) ≡ true) × (equation_number f v ≡ i))
  equation_node i h = numbered (size f) i (omega (arith, count_number))

-- ---- of a good formula

module _ (m : ℕ) (f : List ℕ) (good : GoodFormula m f) where
  fixpoint_next : (v : ℕ) → is_fixpoint (formula_node f v) ≡ true → suc v < size f
  fixpoint_next v t = let (p, q) = fixpoint_kind f v t in (good.nodes v (fixpoint_inside f v t)).next (omega arith) q

  -- the body of an equation is a node
  pub body_below : (i : ℕ) → i < equation_count f → (equation_of f i).body < size f
  body_below i h = go (equation_node f i h)
    where
      go : ((i ≡ 0) × (is_fixpoint (formula_node f 0) ≡ false)) ⊎ ((v : ℕ) × (v < size f) × (is_fixpoint (formula_node f v) ≡ true) × (equation_number f v ≡ i))
          → (equation_of f i).body < size f
      go (inl (e, t)) =
          let b : (equation_of f i).body ≡ 0 = ap (λ (j : ℕ). (equation_of f j).body) e ∙ ap (λ (q : Equation). q.body) (placeholder_equation f t) in
          omega (arith, good.some)
      go (inr (v, a, t, e)) =
          let b : (equation_of f i).body ≡ suc v = ap (λ (j : ℕ). (equation_of f j).body) (sym e) ∙ fixpoint_body f v t in
          omega (arith, fixpoint_next v t)

  -- the last node is no fixpoint, so there are no more equations than nodes
  pub count_few : equation_count f ≤ size f
  count_few = go (is_fixpoint (formula_node f (size f - 1))) refl
    where
      last : suc (size f - 1) ≡ size f
      last = omega (arith, good.some)

      same : equation_number f (suc (size f - 1)) ≡ equation_number f (size f)
      same = ap (equation_number f) last

      go : (b : Bool) → is_fixpoint (formula_node f (size f - 1)) ≡ b → equation_count f ≤ size f
      go true e = absurd (omega (arith, last, fixpoint_next (size f - 1) e))
      go false e = omega (arith, last, same, count_number f, number_same f (size f - 1) e, number_most f (size f - 1), number_start_most f)

  pub count_limit : equation_count f ≤ 1_024
  count_limit = omega (arith, count_few, good.few)

  pub good_some_equation : 1 ≤ equation_count f
  good_some_equation = some_equation f good.some

  -- a reference is to an equation of an earlier node
  pub referred_below : (v : ℕ) → v < size f → 8 ≤ kind f v → equation_number f (operand f v) < equation_count f
  referred_below v h p = number_below f (operand f v) ((good.nodes v h).refers p).1
