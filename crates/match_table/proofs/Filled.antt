-- The table of matching labels: a row more leaves the others as they were. Assumes nothing.
use Rattle.std.proofs.Common.{◌≡◌, ◌++◌, Bool, false, Option, None, Some, ℕ, ◌+◌, ◌-◌, ◌*◌, ◌≤◌, ◌<◌, List, length, get_or, take, drop, set, sym, ap, ◌∙◌, arith}
use mathlib.Core.Path.{subst}
use native.Mathlib.Nat.{mul-le-mul_right, suc-mul}
use native.Mathlib.Decide.{ℕ_discrete}
use lib.ListN.{get_or-append}
use lib.Seq.{length-take-le, get_or-take, get_or-set_same, get_or-set_other}
use borrow.Rule.Slice.PartMut.{put_mid}
use Rattle.std.proofs.lemmas.List.{get_or-append_right}
use Rattle.std.proofs.lemmas.Option.{none-some}
use Rattle.rules.specs.Labels.{label_count}
use Rattle.rules.specs.Table.{size}
use Rattle.match_table.specs.declared.MatchRows.{MatchRows}
use Rattle.match_table.specs.Rows.{row_start, RowAt, Row, NoRows, FirstRows}

-- ---- numbers that some have

number_in : Option ℕ → ℕ
number_in None = 0
number_in (Some r) = r

one_number : (q r : ℕ) → Some q ≡ Some r → q ≡ r
unfolding number_in
one_number q r e = ap number_in e

-- before the first row is given
pub rows_none : (ls acts : List ℕ) (m : MatchRows) → NoRows m → size acts ≤ 1_024 → FirstRows ls acts m
rows_none ls acts m none few =
    record {
      table = record { row = λ a r h p. absurd (never a r h p) };
      given = λ a r h p. absurd (never a r h p);
    }
  where
    never : (a r : ℕ) → a < size acts → get_or m.numbers a None ≡ Some r → ⊥
    never a r h p = none-some r (sym (none a (omega arith)) ∙ p)

-- ---- a part of the rows, lent and come back

module _ (rows row : List Bool) (start n k : ℕ) (room : start + n ≤ length rows) (sized : length row ≡ n) where
  front : length (take start rows) ≡ start
  front = length-take-le start rows (omega arith)

  pub lent_before : (i : ℕ) → i < start → get_or (put_mid start k rows row) i false ≡ get_or rows i false
  lent_before i h =
      get_or-append (take start rows) (row ++ drop k (drop start rows)) false i (omega (arith, front))
      ∙ get_or-take start rows i false h

  pub lent_inside : (l : ℕ) → l < n → get_or (put_mid start k rows row) (start + l) false ≡ get_or row l false
  lent_inside l h =
      let e : start + l - start ≡ l = omega arith in
      get_or-append_right (take start rows) (row ++ drop k (drop start rows)) start (start + l) false front (omega arith)
      ∙ ap (λ i. get_or (row ++ drop k (drop start rows)) i false) e
      ∙ get_or-append row (drop k (drop start rows)) false l (omega (arith, sized))

-- ---- a node gets the next row

before_next : (r s n : ℕ) → r < s → r * n + n ≤ s * n
before_next r s n h = subst (λ (x : ℕ). x ≤ s * n) (suc-mul r n) (mul-le-mul_right n h)

module _ (ls acts : List ℕ) (before : MatchRows) (filled : List Bool) (node : ℕ) (f : FirstRows ls acts before) (h : node < size acts)
    (sized : node < length before.numbers) (new : RowAt ls acts filled node (row_start ls before.given))
    (same : (i : ℕ) → i < row_start ls before.given → get_or filled i false ≡ get_or before.rows i false) where
  own_number : get_or (set before.numbers node (Some before.given)) node None ≡ Some before.given
  own_number = get_or-set_same before.numbers node (Some before.given) None sized

  other_number : (a : ℕ) → (¬ (a ≡ node)) → get_or (set before.numbers node (Some before.given)) a None ≡ get_or before.numbers a None
  other_number a z = get_or-set_other before.numbers node a (Some before.given) None z

  -- the rows given before end where the new one begins
  old_row : (a r : ℕ) → r < before.given → RowAt ls acts before.rows a (row_start ls r) → RowAt ls acts filled a (row_start ls r)
  old_row a r p old =
      record {
        within = old.within;
        answer = λ l q. same (row_start ls r + l) (omega (arith, before_next r before.given (label_count ls) p)) ∙ old.answer l q;
      }

  pub rows_more : FirstRows ls acts (record { numbers = set before.numbers node (Some before.given); given = before.given + 1; rows = filled })
  rows_more =
      record {
        table = record { row = λ a r u p. row_of a r u p (ℕ_discrete a node) };
        given = λ a r u p. given_of a r u p (ℕ_discrete a node);
      }
    where
      given_of : (a r : ℕ) → a < size acts → get_or (set before.numbers node (Some before.given)) a None ≡ Some r → Dec (a ≡ node) → r < before.given + 1
      given_of a r u p (yes z) = omega (arith, one_number before.given r (sym own_number ∙ rw z at p))
      given_of a r u p (no z) = omega (arith, f.given a r u (sym (other_number a z) ∙ p))

      row_of : (a r : ℕ) → a < size acts → get_or (set before.numbers node (Some before.given)) a None ≡ Some r → Dec (a ≡ node) → RowAt ls acts filled a (row_start ls r)
      row_of a r u p (yes z) = rw (z, sym (one_number before.given r (sym own_number ∙ rw z at p))) new
      row_of a r u p (no z) =
          let q = sym (other_number a z) ∙ p in
          old_row a r (f.given a r u q) (f.table.row a r u q)

-- the same, where the row was filled in a part of the rows that was lent
pub row_given : (ls acts : List ℕ) (before : MatchRows) (row : List Bool) (node start n k : ℕ)
    → FirstRows ls acts before → node < size acts → node < length before.numbers → start ≡ before.given * n → n ≡ label_count ls
    → start + n ≤ 16_384 → length before.rows ≡ 16_384 → Row ls acts node row
    → FirstRows ls acts (record { numbers = set before.numbers node (Some before.given); given = before.given + 1; rows = put_mid start k before.rows row })
row_given ls acts before row node start n k f h sized s e room long new =
    let begins : start ≡ row_start ls before.given = s ∙ ap (λ m. before.given * m) e in
    let filled : RowAt ls acts (put_mid start k before.rows row) node start =
    record {
      within = omega (arith, e);
      answer = λ l q. lent_inside before.rows row start (label_count ls) k (omega (arith, e)) new.sized l q ∙ new.answer l q;
    } in
    rows_more ls acts before (put_mid start k before.rows row) node f h sized
    (subst (RowAt ls acts (put_mid start k before.rows row) node) begins filled)
    (λ i q. lent_before before.rows row start n k (omega arith) (new.sized ∙ sym e) i (omega (arith, begins)))
