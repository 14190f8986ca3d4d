-- Reading numbers and bytes at a place of the text. Assumes nothing.
use Prim.Native.Nat.{ℕ, ◌+◌, ◌*◌, ◌-◌, ◌≤◌, ◌<◌}
use native.Mathlib.Omega.{arith}
use native.Mathlib.Decide.{dec_lt}
use native.Mathlib.Numerals.{add-one}
use mathlib.Core.Path.{◌≡◌, refl, sym, ap, ◌∙◌, subst}
use mathlib.Core.Bool.{Bool, true, false, cond, not, false≢true}
use mathlib.Core.List.{List, [], ◌∷◌}
use mathlib.Core.Option.{none, some, some-ne-none}
use lib.ListN.{length, drop, drop_of_length-le}
use lib.Seq.{drop-cons}
use lib.Dec.{eqb}
use borrow.Author.Tests.{eq-eqb, ne_eqb, eqb-true}
use Rattle.rules.specs.Lists.{word}
use Rattle.rules.specs.TextReading.{is_digit, digits_at, past_digits, value_on, no_numeral}
use Rattle.rules.specs.TextReading.{Front, front, then_read, read_byte, read_number, read_field}
use Rattle.game_texts.proofs.Decimals.{digit_small}
use Rattle.std.specs.Prelude.{Some, None}
use Rattle.std.specs.declared.option.Option.{Option as Answer}
use Rattle.pgsolver_scan.specs.declared.Number.{Number}
use Rattle.pgsolver_scan.specs.Told.{saturated, since, Stopped, Told, ToldDigit}

-- ---- places

pub since-cons : (text : List ℕ) (p : ℕ) → p < length text → since text p ≡ word text p ∷ since text (p + 1)
since-cons text p h = drop-cons text p 0 h ∙ ap (λ (k : ℕ). word text p ∷ drop k text) (sym (add-one p))

pub since_end : (text : List ℕ) (p : ℕ) → length text ≤ p → since text p ≡ []
since_end text p h = drop_of_length-le text h

-- ---- saturated numbers

pub push_saturated : (v d : ℕ) → 1844674407370955161 ≤ v → 18446744073709551610 ≡ saturated (10 * v + d)
unfolding saturated
push_saturated v d h = omega arith

pub push_exact : (v d : ℕ) → d ≤ 9 → v < 1844674407370955161 → d + 10 * v ≡ saturated (10 * v + d)
unfolding saturated
push_exact v d h k = omega arith

-- ---- whether the number is known to stand there

pub is_known : (k : ℕ) → ¬ (k ≡ 0) → not (eqb k 0) ≡ true
is_known k n = ap not (ne_eqb k 0 n)

pub value_small : (known : Bool) (v : ℕ) → v ≤ cond known 4294967295 18446744073709551610 → known ≡ true
    → v < 1844674407370955161
value_small true v h e = omega arith
value_small false v h e = absurd (false≢true e)

pub value_most : (known : Bool) (v : ℕ) → (known ≡ true → v < 4294967296) → v ≤ 18446744073709551610
    → v ≤ cond known 4294967295 18446744073709551610
value_most true v f h = omega (arith, f refl)
value_most false v f h = h

push_again : (n d : ℕ) → d ≤ 9 → saturated (10 * saturated n + d) ≡ saturated (10 * n + d)
unfolding saturated
push_again n d h = omega arith

saturated_most : (n : ℕ) → saturated n ≤ 18446744073709551610
unfolding saturated
saturated_most n = omega arith

-- ---- digits

pub digit_told : (text : List ℕ) (p : ℕ) (r : Answer ℕ) → p < length text
    → r ≡ cond (is_digit (word text p)) (Some (word text p - 48)) None → ToldDigit r text p
digit_told text p r h e = go (is_digit (word text p)) refl e
  where
    go : (b : Bool) → is_digit (word text p) ≡ b → r ≡ cond b (Some (word text p - 48)) None → ToldDigit r text p
    go true t f = rw f (h, t, refl)
    go false t f = rw f (λ l. t)

pub digit_most : (text : List ℕ) (q : ℕ) {d : ℕ} → ToldDigit (Some d) text q → d ≤ 9
digit_most text q (h, t, e) =
    let (a, b) = digit_small _ t in
    omega arith

-- ---- the loop over digits

-- digits from p up to q were read
pub record Scan (text : List ℕ) (p q value : ℕ) : Type 0 where
  pub ordered : p ≤ q
  pub within : q ≤ length text
  pub small : value ≤ 18446744073709551610
  pub count : p + length (digits_at (since text p)) ≡ q + length (digits_at (since text q))
  pub past : past_digits (since text p) ≡ past_digits (since text q)
  pub right : (n : ℕ) × (value ≡ saturated n)
      × (value_on (digits_at (since text p)) 0 ≡ value_on (digits_at (since text q)) n)

pub scan-start : (text : List ℕ) (p : ℕ) → p ≤ length text → Scan text p p 0
unfolding saturated
scan-start text p h =
    record {
      ordered = omega arith;
      within = h;
      small = omega arith;
      count = refl;
      past = refl;
      right = (0, omega arith, refl);
    }

module _ (text : List ℕ) (q : ℕ) where
  digits_more : q < length text → is_digit (word text q) ≡ true
      → digits_at (since text q) ≡ word text q ∷ digits_at (since text (q + 1))
  unfolding digits_at
  digits_more h e = ap digits_at (since-cons text q h) ∙ rw e refl

  past_more : q < length text → is_digit (word text q) ≡ true
      → past_digits (since text q) ≡ past_digits (since text (q + 1))
  unfolding past_digits
  past_more h e = ap past_digits (since-cons text q h) ∙ rw e refl

  digits_none : (q < length text → is_digit (word text q) ≡ false) → digits_at (since text q) ≡ []
  unfolding digits_at
  digits_none f = go (dec_lt q (length text))
    where
      go : Dec (q < length text) → digits_at (since text q) ≡ []
      go (yes h) = ap digits_at (since-cons text q h) ∙ rw (f h) refl
      go (no h) = ap digits_at (since_end text q (omega arith))

  past_none : (q < length text → is_digit (word text q) ≡ false) → past_digits (since text q) ≡ since text q
  unfolding past_digits
  past_none f = go (dec_lt q (length text))
    where
      go : Dec (q < length text) → past_digits (since text q) ≡ since text q
      go (yes h) = ap past_digits (since-cons text q h) ∙ rw (f h) (sym (since-cons text q h))
      go (no h) =
          let past = since_end text q (omega arith) in
          ap past_digits past ∙ sym past

module _ {text : List ℕ} {p q value : ℕ} (s : Scan text p q value) where
  pub scan_more : {d r : ℕ} → ToldDigit (Some d) text q → r ≡ saturated (10 * value + d) → Scan text p (q + 1) r
  unfolding value_on
  scan_more {d} {r} (h, t, g) f =
      let l = digit_most text q (h, t, g) in
      let (m, a, b) = s.right in
      let digits = digits_more text q h t in
      record {
        ordered = omega (arith, s.ordered);
        within = omega arith;
        small = subst (λ (k : ℕ). k ≤ 18446744073709551610) (sym f) (saturated_most (10 * value + d));
        count = omega (arith, s.count, ap length digits);
        past = s.past ∙ past_more text q h t;
        right = (
          10 * m + (word text q - 48),
          f ∙ ap (λ (k : ℕ). saturated (10 * k + d)) a ∙ push_again m d l
              ∙ ap (λ (k : ℕ). saturated (10 * m + k)) g,
          b ∙ ap (λ (ds : List ℕ). value_on ds m) digits,
        );
      }

  pub stopped : (q < length text → is_digit (word text q) ≡ false) → Stopped text p q value
  unfolding value_on
  stopped f =
      let (m, a, b) = s.right in
      let none_left = digits_none text q f in
      record {
        ordered = s.ordered;
        within = s.within;
        count = omega (arith, s.count, ap length none_left);
        past = s.past ∙ past_none text q f;
        right = a ∙ ap saturated (sym (b ∙ ap (λ (ds : List ℕ). value_on ds m) none_left));
      }

-- ---- the number

front-word : (ts : List ℕ) → 1 ≤ length (digits_at ts) → word (digits_at ts) 0 ≡ word ts 0
unfolding digits_at
front-word [] k = refl
front-word (c ∷ cs) k = at (is_digit c) k
  where
    at : (b : Bool) → 1 ≤ length (cond b (c ∷ digits_at cs) []) → word (cond b (c ∷ digits_at cs) []) 0 ≡ c
    at true k = refl
    at false k = absurd (omega arith)

none_empty : (ds : List ℕ) → length ds ≡ 0 → no_numeral ds ≡ true
unfolding no_numeral
none_empty [] h = refl
none_empty (d ∷ ds) h = absurd (omega arith)

none_zero : (ds : List ℕ) → 2 ≤ length ds → word ds 0 ≡ 48 → no_numeral ds ≡ true
unfolding no_numeral
none_zero [] k f = absurd (omega arith)
none_zero (d ∷ []) k f = absurd (omega arith)
none_zero (d ∷ c ∷ ds) k f = eq-eqb d 48 f

some_one : (ds : List ℕ) → length ds ≡ 1 → no_numeral ds ≡ false
unfolding no_numeral
some_one [] k = absurd (omega arith)
some_one (d ∷ []) k = refl
some_one (d ∷ c ∷ ds) k = absurd (omega arith)

some_lead : (ds : List ℕ) → 1 ≤ length ds → ¬ (word ds 0 ≡ 48) → no_numeral ds ≡ false
unfolding no_numeral
some_lead [] k n = absurd (omega arith)
some_lead (d ∷ []) k n = refl
some_lead (d ∷ c ∷ ds) k n = ne_eqb d 48 n

module _ {text : List ℕ} {p : ℕ} (x : Number) (s : Stopped text p x.next x.value) where
  no_number : no_numeral (digits_at (since text p)) ≡ true → read_number (since text p) ≡ none
  unfolding read_number
  no_number e = rw e refl

  first_byte : p < x.next → word (digits_at (since text p)) 0 ≡ word text p
  first_byte h =
      front-word (since text p) (omega (arith, s.count))
      ∙ ap (λ (l : List ℕ). word l 0) (since-cons text p (omega (arith, s.within)))

  pub told_none : x.next ≡ p → read_number (since text p) ≡ none
  told_none e = no_number (none_empty (digits_at (since text p)) (omega (arith, s.count)))

  pub told_zero : p + 1 < x.next → word text p ≡ 48 → read_number (since text p) ≡ none
  told_zero h e =
      no_number (none_zero (digits_at (since text p)) (omega (arith, s.count)) (first_byte (omega arith) ∙ e))

  pub told_value : no_numeral (digits_at (since text p)) ≡ false → Told (Some x) (read_number (since text p)) text
  unfolding read_number
  told_value e = (value_on (digits_at (since text p)) 0, rw (e, s.past) refl, s.right, s.within)

  pub told_one : ¬ (x.next ≡ p) → x.next ≤ p + 1 → Told (Some x) (read_number (since text p)) text
  told_one n h = told_value (some_one (digits_at (since text p)) (omega (arith, s.count, s.ordered)))

  pub told_more : p + 1 < x.next → ¬ (word text p ≡ 48) → Told (Some x) (read_number (since text p)) text
  told_more h n =
      told_value
      (some_lead (digits_at (since text p)) (omega (arith, s.count)) (λ e. n (sym (first_byte (omega arith)) ∙ e)))

  pub told_nonzero : ¬ (x.next ≡ p) → ¬ (word text p ≡ 48) → Told (Some x) (read_number (since text p)) text
  told_nonzero n z = go (native.Mathlib.Decide.dec_lt (p + 1) x.next)
    where
      go : Dec (p + 1 < x.next) → Told (Some x) (read_number (since text p)) text
      go (yes h) = told_more h z
      go (no h) = told_one n (omega arith)

-- ---- a byte

pub byte_here : (text : List ℕ) (p c : ℕ) (b : Bool) → p < length text → eqb (word text p) c ≡ b
    → read_byte c (since text p) ≡ cond b (some (since text (p + 1))) none
unfolding read_byte
byte_here text p c b h e =
    ap (read_byte c) (since-cons text p h) ∙ ap (λ (t : Bool). cond t (some (since text (p + 1))) none) e

pub byte_end : (text : List ℕ) (p c : ℕ) → length text ≤ p → read_byte c (since text p) ≡ none
unfolding read_byte
byte_end text p c h = ap (read_byte c) (since_end text p h)

-- what an answer about the byte at a place says of it
module _ (text : List ℕ) (p c : ℕ) {b : Bool}
    (t : read_byte c (since text p) ≡ cond b (some (since text (p + 1))) none) (h : p < length text) where
  pub byte_stands : b ≡ true → word text p ≡ c
  byte_stands e = go (eqb (word text p) c) refl
    where
      go : (a : Bool) → eqb (word text p) c ≡ a → word text p ≡ c
      go true f = eqb-true (word text p) c f
      go false f =
          absurd (some-ne-none _ (sym (t ∙ ap (λ (d : Bool). cond d (some (since text (p + 1))) none) e)
          ∙ byte_here text p c false h f))

  pub byte_lacking : b ≡ false → ¬ (word text p ≡ c)
  byte_lacking e f =
      some-ne-none _ (sym (byte_here text p c true h (eq-eqb (word text p) c f))
      ∙ t ∙ ap (λ (d : Bool). cond d (some (since text (p + 1))) none) e)

-- ---- a number and a byte

module _ (c : ℕ) (ts : List ℕ) where
  pub field-none : read_number ts ≡ none → read_field c ts ≡ none
  unfolding read_field then_read
  field-none e = rw e refl

  pub field_other : (n : Front ℕ) → read_number ts ≡ some n → read_byte c n.rest ≡ none → read_field c ts ≡ none
  unfolding read_field then_read
  field_other n e f = rw (e, f) refl

  pub field_some : (n : Front ℕ) (r : List ℕ) → read_number ts ≡ some n → read_byte c n.rest ≡ some r
      → read_field c ts ≡ some (front n.value r)
  unfolding read_field then_read
  field_some n r e f = rw (e, f) refl
