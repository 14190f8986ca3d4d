-- Numbers in decimal: the equation without fuel, how many digits there are, and the number of some digits. Assumes
-- nothing.
use mathlib.Core.Path.{◌≡◌, refl, sym, ap, ◌∙◌, subst}
use mathlib.Core.Bool.{Bool, true, false, cond, true≢false}
use mathlib.Core.List.{List, [], ◌∷◌, ◌++◌, append_assoc, append-nil}
use mathlib.Core.Logic.{inl, inr}
use Prim.Native.Nat.{ℕ, zero, suc, ◌+◌, ◌*◌, ◌-◌, ◌/◌, ◌%◌, ◌≤◌, ◌<◌}
use native.Mathlib.Nat.{mul-suc}
use native.Mathlib.Omega.{arith}
use native.Mathlib.Decide.{dec_lt}
use lib.ListN.{length, length-append}
use lib.Dec.{leb, ltb}
use borrow.Author.Tests.{ltb-true, ltb-false, lt-ltb, le-ltb, le-leb, leb-true, eqb-false, ne_eqb}
use Rattle.rules.specs.Lists.{In}
use Rattle.rules.specs.Texts.{digits_to, decimal, DecimalEquation, spaced, line}
use Rattle.rules.specs.TextReading.{is_digit, value_on, digits_at, past_digits, no_numeral}
use Rattle.lists.proofs.Tests.{and-true}

-- ---- any fuel above n gives the digits of n

digits_fuel : (f g n : ℕ) → n < f → n < g → digits_to f n ≡ digits_to g n
unfolding digits_to
digits_fuel zero g n h k = absurd (omega arith)
digits_fuel (suc f) zero n h k = absurd (omega arith)
digits_fuel (suc f) (suc g) n h k = go (digits_fuel f g (n / 10)) (ltb n 10) refl
  where
    go : (n / 10 < f → n / 10 < g → digits_to f (n / 10) ≡ digits_to g (n / 10)) → (t : Bool) → ltb n 10 ≡ t
        → cond t ((48 + n) ∷ []) (digits_to f (n / 10) ++ ((48 + n % 10) ∷ []))
        ≡ cond t ((48 + n) ∷ []) (digits_to g (n / 10) ++ ((48 + n % 10) ∷ []))
    go r true e = refl
    go r false e =
        let l = ltb-false n 10 e in
        ap (λ (ds : List ℕ). ds ++ ((48 + n % 10) ∷ [])) (r (omega arith) (omega arith))

pub decimal-one : (n : ℕ) → n < 10 → decimal n ≡ (48 + n) ∷ []
unfolding decimal digits_to
decimal-one n h = rw (lt-ltb n 10 h) refl

pub decimal_more : (n : ℕ) → 10 ≤ n → decimal n ≡ decimal (n / 10) ++ ((48 + n % 10) ∷ [])
unfolding decimal digits_to
decimal_more n h =
    let e = digits_fuel n (suc (n / 10)) (n / 10) (omega arith) (omega arith) in
    rw (le-ltb n 10 h) (ap (λ (ds : List ℕ). ds ++ ((48 + n % 10) ∷ [])) e)

pub decimal_equation : (n : ℕ) → DecimalEquation n
decimal_equation n = go (ltb n 10) refl
  where
    go : (t : Bool) → ltb n 10 ≡ t → decimal n ≡ cond t ((48 + n) ∷ []) (decimal (n / 10) ++ ((48 + n % 10) ∷ []))
    go true e = decimal-one n (ltb-true n 10 e)
    go false e = decimal_more n (ltb-false n 10 e)

-- what holds of a single digit, and of a number if of the one without its last digit, holds of every number
pub decimal-all : (P : ℕ → List ℕ → Type 0) → ((n : ℕ) → n < 10 → P n ((48 + n) ∷ []))
    → ((n : ℕ) → 10 ≤ n → P (n / 10) (decimal (n / 10)) → P n (decimal (n / 10) ++ ((48 + n % 10) ∷ [])))
    → (n : ℕ) → P n (decimal n)
decimal-all P one more n = below (suc n) n (omega arith)
  where
    below : (f n : ℕ) → n < f → P n (decimal n)
    below zero n h = absurd (omega arith)
    below (suc f) n h = go (λ l. below f (n / 10) l) (dec_lt n 10)
      where
        go : (n / 10 < f → P (n / 10) (decimal (n / 10))) → Dec (n < 10) → P n (decimal n)
        go r (yes l) = subst (P n) (sym (decimal-one n l)) (one n l)
        go r (no l) = subst (P n) (sym (decimal_more n (omega arith))) (more n (omega arith) (r (omega arith)))

-- ---- how many digits

unfoldable pub tens : ℕ → ℕ
tens zero = 1
tens (suc p) = 10 * tens p

pub decimal-length : (p n : ℕ) → n < tens (suc p) → length (decimal n) ≤ suc p
unfolding tens
decimal-length zero n h = omega (arith, ap length (decimal-one n (omega arith)))
decimal-length (suc p) n h = go (decimal-length p (n / 10)) (dec_lt n 10)
  where
    go : (n / 10 < tens (suc p) → length (decimal (n / 10)) ≤ suc p) → Dec (n < 10) → length (decimal n) ≤ suc (suc p)
    go r (yes l) = omega (arith, ap length (decimal-one n l))
    go r (no l) =
        let last = (48 + n % 10) ∷ [] in
        omega (arith, r (omega arith), ap length (decimal_more n (omega arith)), length-append (decimal (n / 10)) last)

-- a word has ten digits at most
pub decimal-word : (n : ℕ) → n < 4_294_967_296 → length (decimal n) ≤ 10
unfolding tens
decimal-word n h = decimal-length 9 n (omega arith)

-- ---- how long a line is

-- numbers that take up to b bytes each, with the space
pub spaced-length : (b : ℕ) (ns : List ℕ) → ((n : ℕ) → In n ns → suc (length (decimal n)) ≤ b)
    → length (spaced ns) ≤ b * length ns
unfolding spaced
spaced-length b [] h = omega arith
spaced-length b (n ∷ ns) h =
    let rest = spaced-length b ns (λ m i. h m (inr i)) in
    omega (arith, length-append (decimal n) (spaced ns), h n (inl refl), rest, mul-suc b (length ns))

pub line-length : (text ns : List ℕ) → ((n : ℕ) → In n ns → n < 4_294_967_296)
    → length (line text ns) ≤ length text + 11 * length ns + 1
unfolding line
line-length text ns small =
    omega (
      arith,
      length-append text (spaced ns ++ (10 ∷ [])),
      length-append (spaced ns) (10 ∷ []),
      spaced-length 11 ns (λ n i. omega (arith, decimal-word n (small n i))),
    )

-- ---- the bytes of a number

-- all bytes are digits
abbrev pub Digits : List ℕ → Type 0
Digits [] = Unit {0}
Digits (c ∷ cs) = (is_digit c ≡ true) × Digits cs

-- the first byte, if there is one, is no digit
abbrev pub NoDigit : List ℕ → Type 0
NoDigit [] = Unit {0}
NoDigit (c ∷ cs) = is_digit c ≡ false

-- there is a first byte, and it is not the digit 0
abbrev Leads : List ℕ → Type 0
Leads [] = ⊥
Leads (c ∷ cs) = ¬ (c ≡ 48)

-- ---- a digit

pub digit-is : (d : ℕ) → d < 10 → is_digit (48 + d) ≡ true
unfolding is_digit
digit-is d h = rw (le-leb 48 (48 + d) (omega arith), le-leb (48 + d) 57 (omega arith)) refl

pub digit_small : (c : ℕ) → is_digit c ≡ true → (48 ≤ c) × (c ≤ 57)
unfolding is_digit
digit_small c e =
    let (a, b) = and-true (leb 48 c) (leb c 57) e in
    (leb-true 48 c a, leb-true c 57 b)

digits_append : (xs ys : List ℕ) → Digits xs → Digits ys → Digits (xs ++ ys)
digits_append [] ys h k = k
digits_append (x ∷ xs) ys h k = (h.0, digits_append xs ys h.1 k)

leads_append : (xs ys : List ℕ) → Leads xs → Leads (xs ++ ys)
leads_append [] ys h = absurd h
leads_append (x ∷ xs) ys h = h

-- ---- one digit more

pub decimal_push : (a d : ℕ) → 1 ≤ a → d < 10 → decimal (10 * a + d) ≡ decimal a ++ ((48 + d) ∷ [])
decimal_push a d h k =
    let q : (10 * a + d) / 10 ≡ a = omega arith in
    let r : (10 * a + d) % 10 ≡ d = omega arith in
    decimal_more (10 * a + d) (omega arith) ∙ ap (λ (m : ℕ). decimal m ++ ((48 + (10 * a + d) % 10) ∷ [])) q
    ∙ ap (λ (m : ℕ). decimal a ++ ((48 + m) ∷ [])) r

-- ---- what the bytes of a number are

pub decimal-digits : (n : ℕ) → Digits (decimal n)
decimal-digits =
    decimal-all (λ n ds. Digits ds) (λ n h. (digit-is n h, tt))
    (λ n h r. digits_append (decimal (n / 10)) ((48 + n % 10) ∷ []) r (digit-is (n % 10) (omega arith), tt))

decimal_leads : (n : ℕ) → 1 ≤ n → Leads (decimal n)
decimal_leads =
    decimal-all (λ n ds. 1 ≤ n → Leads ds) (λ n h l e. omega arith)
    (λ n h r l. leads_append (decimal (n / 10)) ((48 + n % 10) ∷ []) (r (omega arith)))

leads_proper : (xs : List ℕ) (d : ℕ) → Leads xs → no_numeral (xs ++ (d ∷ [])) ≡ false
unfolding no_numeral
leads_proper [] d h = absurd h
leads_proper (x ∷ []) d h = ne_eqb x 48 h
leads_proper (x ∷ y ∷ xs) d h = ne_eqb x 48 h

pub decimal_proper : (n : ℕ) → no_numeral (decimal n) ≡ false
unfolding no_numeral
decimal_proper n = go (dec_lt n 10)
  where
    go : Dec (n < 10) → no_numeral (decimal n) ≡ false
    go (yes s) = rw (decimal-one n s) refl
    go (no s) =
        rw (decimal_more n (omega arith))
        (leads_proper (decimal (n / 10)) (48 + n % 10) (decimal_leads (n / 10) (omega arith)))

-- there is a digit
pub decimal_some : (n : ℕ) → 1 ≤ length (decimal n)
decimal_some n = go (dec_lt n 10)
  where
    go : Dec (n < 10) → 1 ≤ length (decimal n)
    go (yes s) = rw (decimal-one n s) (omega arith)
    go (no s) = rw (decimal_more n (omega arith), length-append) (omega arith)

-- ---- the number of some digits

pub value_append : (xs ys : List ℕ) (a : ℕ) → value_on (xs ++ ys) a ≡ value_on ys (value_on xs a)
unfolding value_on
value_append [] ys a = refl
value_append (x ∷ xs) ys a = value_append xs ys (10 * a + (x - 48))

pub decimal_value : (n : ℕ) → value_on (decimal n) 0 ≡ n
unfolding value_on
decimal_value =
    decimal-all (λ n ds. value_on ds 0 ≡ n) (λ n h. omega arith)
    (λ n h r. rw (value_append (decimal (n / 10)) ((48 + n % 10) ∷ []) 0, r) (omega arith))

pub value_decimal : (ds : List ℕ) (a : ℕ) → Digits ds → 1 ≤ a → decimal (value_on ds a) ≡ decimal a ++ ds
unfolding value_on
value_decimal [] a h k = sym (append-nil (decimal a))
value_decimal (d ∷ ds) a h k =
    let (l, m) = digit_small d h.0 in
    let e : 48 + (d - 48) ≡ d = omega arith in
    value_decimal ds (10 * a + (d - 48)) h.1 (omega arith)
    ∙ ap (λ (xs : List ℕ). xs ++ ds) (decimal_push a (d - 48) k (omega arith))
    ∙ append_assoc (decimal a) ((48 + (d - 48)) ∷ []) ds
    ∙ ap (λ (c : ℕ). decimal a ++ (c ∷ ds)) e

-- digits without a leading zero are the decimal of their number
pub decimal_back : (ds : List ℕ) → Digits ds → no_numeral ds ≡ false → decimal (value_on ds 0) ≡ ds
unfolding value_on no_numeral
decimal_back [] h e = let z : true ≡ false = e in absurd (true≢false z)
decimal_back (d ∷ []) h e =
    let (l, m) = digit_small d h.0 in
    let q : 10 * 0 + (d - 48) ≡ d - 48 = omega arith in
    let r : 48 + (d - 48) ≡ d = omega arith in
    ap decimal q ∙ decimal-one (d - 48) (omega arith) ∙ ap (λ (c : ℕ). c ∷ []) r
decimal_back (d ∷ c ∷ ds) h e =
    let (l, m) = digit_small d h.0 in
    let n : ¬ (d ≡ 48) = eqb-false d 48 e in
    let q : 10 * 0 + (d - 48) ≡ d - 48 = omega arith in
    let r : 48 + (d - 48) ≡ d = omega arith in
    ap (λ (a : ℕ). decimal (value_on (c ∷ ds) a)) q ∙ value_decimal (c ∷ ds) (d - 48) h.1 (omega arith)
    ∙ ap (λ (xs : List ℕ). xs ++ (c ∷ ds)) (decimal-one (d - 48) (omega arith)) ∙ ap (λ (a : ℕ). a ∷ c ∷ ds) r

-- ---- the digits at the front

pub front_digits : (ts : List ℕ) → Digits (digits_at ts)
unfolding digits_at
front_digits [] = tt
front_digits (c ∷ cs) = go (is_digit c) refl (front_digits cs)
  where
    go : (b : Bool) → is_digit c ≡ b → Digits (digits_at cs) → Digits (cond b (c ∷ digits_at cs) [])
    go true e r = (e, r)
    go false e r = tt

pub front-split : (ts : List ℕ) → ts ≡ digits_at ts ++ past_digits ts
unfolding digits_at past_digits
front-split [] = refl
front-split (c ∷ cs) = go (is_digit c) (front-split cs)
  where
    go : (b : Bool) → cs ≡ digits_at cs ++ past_digits cs
        → c ∷ cs ≡ cond b (c ∷ digits_at cs) [] ++ cond b (past_digits cs) (c ∷ cs)
    go true r = ap (λ (l : List ℕ). c ∷ l) r
    go false r = refl

pub past_no_digit : (ts : List ℕ) → NoDigit (past_digits ts)
unfolding past_digits
past_no_digit [] = tt
past_no_digit (c ∷ cs) = go (is_digit c) refl (past_no_digit cs)
  where
    go : (b : Bool) → is_digit c ≡ b → NoDigit (past_digits cs) → NoDigit (cond b (past_digits cs) (c ∷ cs))
    go true e r = r
    go false e r = e

pub front_of : (ds ts : List ℕ) → Digits ds → NoDigit ts → digits_at (ds ++ ts) ≡ ds
unfolding digits_at
front_of [] [] h k = refl
front_of [] (c ∷ ts) h k = rw k refl
front_of (d ∷ ds) ts h k = rw h.0 (ap (λ (l : List ℕ). d ∷ l) (front_of ds ts h.1 k))

pub past_of : (ds ts : List ℕ) → Digits ds → NoDigit ts → past_digits (ds ++ ts) ≡ ts
unfolding past_digits
past_of [] [] h k = refl
past_of [] (c ∷ ts) h k = rw k refl
past_of (d ∷ ds) ts h k = rw h.0 (past_of ds ts h.1 k)
