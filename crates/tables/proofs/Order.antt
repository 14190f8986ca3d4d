-- Of checks whose turns rise the first fault is the one whose number has the first turn; within a number a check finds
-- the smallest place. So checks that find each fault and no other give the first fault, exactly. Assumes nothing.
use Prim.Native.Nat.{ℕ, suc, ◌≤◌, ◌<◌, min}
use native.Mathlib.Omega.{arith}
use native.Mathlib.Decide.{dec_le}
use mathlib.Core.Path.{◌≡◌, refl, sym, ap, ◌∙◌}
use mathlib.Core.Bool.{Bool, true, false, true≢false}
use mathlib.Core.List.{List, [], ◌∷◌, ◌++◌}
use mathlib.Core.Logic.{◌⊎◌, inl, inr, ◌↔◌}
use Rattle.rules.specs.Answers.{Check}
use Rattle.std.specs.declared.result.Result.TheVariants.{Ok, Err}
use Rattle.rules.specs.Answers.{fault}
use Rattle.rules.specs.Answers.{fault_if, and_then, first_fault}
use Rattle.rules.specs.Refusal.{fault_from, lower_fault}
use Rattle.rules.specs.Faulty.{NoLater, First}
use Rattle.tables.proofs.Faults.{passed_not_fault, fault_number, fault_place, if-true, if_fault, from_cases, from_fault}

-- the check has only faults of number n
abbrev pub Numbered : ℕ → Check → Type 0
Numbered n c = (m p : ℕ) → c ≡ fault m p → n ≡ m

-- the check finds a fault of number n, at place q or before
abbrev pub Finds : (n q : ℕ) → Check → Type 0
Finds n q c = (p : ℕ) × (c ≡ fault n p) × (p ≤ q)

-- every fault of the check is one of these
abbrev pub Sound : (ℕ → ℕ → Type 0) → Check → Type 0
Sound F c = (n p : ℕ) → c ≡ fault n p → F n p

abbrev pub Each : (Check → Type 0) → List Check → Type 0
Each P [] = Unit {0}
Each P (c ∷ cs) = P c × Each P cs

abbrev pub Some : (Check → Type 0) → List Check → Type 0
Some P [] = ⊥
Some P (c ∷ cs) = P c ⊎ Some P cs

-- the turns of the numbers rise, from b on
abbrev pub Rising : (turn : ℕ → ℕ) → ℕ → List Check → Type 0
Rising turn b [] = Unit {0}
Rising turn b (c ∷ cs) = (n : ℕ) × (b ≤ turn n) × Numbered n c × Rising turn (suc (turn n)) cs

-- ---- lists

pub each_map : (P Q : Check → Type 0) → ((c : Check) → P c → Q c) → (cs : List Check) → Each P cs → Each Q cs
each_map P Q f [] h = tt
each_map P Q f (c ∷ cs) h = (f c h.0, each_map P Q f cs h.1)

pub each_append : (P : Check → Type 0) (cs ds : List Check) → Each P cs → Each P ds → Each P (cs ++ ds)
each_append P [] ds g h = h
each_append P (c ∷ cs) ds g h = (g.0, each_append P cs ds g.1 h)

pub some_left : (P : Check → Type 0) (cs ds : List Check) → Some P cs → Some P (cs ++ ds)
some_left P [] ds h = absurd h
some_left P (c ∷ cs) ds (inl h) = inl h
some_left P (c ∷ cs) ds (inr h) = inr (some_left P cs ds h)

pub some_right : (P : Check → Type 0) (cs ds : List Check) → Some P ds → Some P (cs ++ ds)
some_right P [] ds h = h
some_right P (c ∷ cs) ds h = inr (some_right P cs ds h)

-- ---- the first fault

-- it is one of them
pub first_sound : (F : ℕ → ℕ → Type 0) (cs : List Check) → Each (Sound F) cs → Sound F (first_fault cs)
unfolding first_fault and_then
first_sound F [] h = λ n p e. absurd (passed_not_fault e)
first_sound F (Ok u ∷ cs) h = first_sound F cs h.1
first_sound F (Err f ∷ cs) h = h.0

-- if there is none, no check finds any
pub first-none : (cs : List Check) → first_fault cs ≡ Ok tt → (n q : ℕ) → Some (Finds n q) cs → ⊥
unfolding first_fault and_then
first-none [] e n q h = h
first-none (Ok u ∷ cs) e n q (inl (p, i, l)) = passed_not_fault i
first-none (Ok u ∷ cs) e n q (inr h) = first-none cs e n q h
first-none (Err f ∷ cs) e n q h = passed_not_fault (sym e)

module _ (turn : ℕ → ℕ) where
  above : (b : ℕ) (cs : List Check) → Rising turn b cs → (m q : ℕ) → Some (Finds m q) cs → b ≤ turn m
  above b [] h m q s = absurd s
  above b (c ∷ cs) (n, l, d, h) m q (inl (p, i, k)) = omega (arith, l, ap turn (d m p i))
  above b (c ∷ cs) (n, l, d, h) m q (inr s) = omega (arith, l, above (suc (turn n)) cs h m q s)

  pub first-least : (b : ℕ) (cs : List Check) → Rising turn b cs → (n p : ℕ) → first_fault cs ≡ fault n p
      → (m q : ℕ) → Some (Finds m q) cs → NoLater turn n p m q
  unfolding first_fault and_then
  first-least b [] h n p e m q s = absurd s
  first-least b (Ok u ∷ cs) (k, l, d, h) n p e m q (inl (r, i, j)) = absurd (passed_not_fault i)
  first-least b (Ok u ∷ cs) (k, l, d, h) n p e m q (inr s) = first-least (suc (turn k)) cs h n p e m q s
  first-least b (Err f ∷ cs) (k, l, d, h) n p e m q (inl (r, i, j)) =
      let x = fault_number e in
      let y = fault_place e in
      let z = fault_number i in
      let w = fault_place i in
      inr (omega arith, omega arith)
  first-least b (Err f ∷ cs) (k, l, d, h) n p e m q (inr s) =
      inl (omega (arith, ap turn (fault_number e), ap turn (d f.number f.place refl), above (suc (turn k)) cs h m q s))

  -- two faults of which neither is later are one
  one_first : (n p m q : ℕ) → NoLater turn n p m q → NoLater turn m q n p → fault n p ≡ fault m q
  one_first n p m q (inl a) (inl b) = absurd (omega arith)
  one_first n p m q (inl a) (inr (b, c)) = absurd (omega (arith, a, ap turn b))
  one_first n p m q (inr (a, c)) (inl b) = absurd (omega (arith, b, ap turn a))
  one_first n p m q (inr (a, c)) (inr (b, d)) =
      let e : p ≡ q = omega arith in
      ap (λ k. fault k p) a ∙ ap (fault m) e

  -- ---- checks whose turns rise, that find each fault and no other: the first fault, exactly

  module _ (F : ℕ → ℕ → Type 0) (cs : List Check) (sound : Each (Sound F) cs)
      (finds : (n q : ℕ) → F n q → Some (Finds n q) cs) (rising : Rising turn 0 cs) where
    is-fault : (n p : ℕ) → first_fault cs ≡ fault n p → First turn F n p
    is-fault n p e = (first_sound F cs sound n p e, λ m q h. first-least 0 cs rising n p e m q (finds m q h))

    no_fault : first_fault cs ≡ Ok tt → (n p : ℕ) → ¬ F n p
    no_fault e n p h = first-none cs e n p (finds n p h)

    fault-is : (n p : ℕ) → First turn F n p → first_fault cs ≡ fault n p
    fault-is n p (here, least) = go (first_fault cs) refl
      where
        go : (c : Check) → first_fault cs ≡ c → c ≡ fault n p
        go (Ok u) e = absurd (no_fault e n p here)
        go (Err f) e =
            let (a, b) = is-fault f.number f.place e in
            one_first f.number f.place n p (b n p here) (least f.number f.place a)

    pub first_exact : (n p : ℕ) → first_fault cs ≡ fault n p ↔ First turn F n p
    first_exact n p = (is-fault n p, fault-is n p)

    pub passed_exact : first_fault cs ≡ Ok tt ↔ ((n p : ℕ) → ¬ F n p)
    passed_exact = (no_fault, λ h. go h (first_fault cs) refl)
      where
        go : ((n p : ℕ) → ¬ F n p) → (c : Check) → first_fault cs ≡ c → c ≡ Ok tt
        go h (Ok u) e = refl
        go h (Err f) e = absurd (h f.number f.place (is-fault f.number f.place e).0)

    -- there is no fault or a first one
    pub none_or_first : ((n p : ℕ) → ¬ F n p) ⊎ ((n : ℕ) × (p : ℕ) × First turn F n p)
    none_or_first = go (first_fault cs) refl
      where
        go : (c : Check) → first_fault cs ≡ c → ((n p : ℕ) → ¬ F n p) ⊎ ((n : ℕ) × (p : ℕ) × First turn F n p)
        go (Ok u) e = inl (no_fault e)
        go (Err f) e = inr (f.number, f.place, is-fault f.number f.place e)

-- ---- numbers

pub if_numbered : (n p : ℕ) (t : Bool) → Numbered n (fault_if n p t)
if_numbered n p t m q e = (if_fault n p t e).1

pub from_numbered : (n p e : ℕ) (bad : ℕ → Bool) → Numbered n (fault_from n p e bad)
from_numbered n p e bad m q i = (from_fault n p e bad i).0

pub lower_numbered : (n : ℕ) (c d : Check) → Numbered n c → Numbered n d → Numbered n (lower_fault c d)
unfolding lower_fault
lower_numbered n (Ok u) d f g = g
lower_numbered n (Err d) (Ok u) f g = f
lower_numbered n (Err d) (Err e) f g = λ m p e. f d.number d.place refl ∙ fault_number e

-- ---- what a check finds

pub if_finds : (n p : ℕ) (t : Bool) → t ≡ true → Finds n p (fault_if n p t)
if_finds n p t e = (p, if-true n p e, omega arith)

pub from_finds : (n p e : ℕ) (bad : ℕ → Bool) (q : ℕ) → p ≤ q → q < e → bad q ≡ true → Finds n q (fault_from n p e bad)
from_finds n p e bad q a l t =
    from_cases n p e bad (λ c. Finds n q c) (λ all. absurd (true≢false (sym t ∙ all q a l))) (λ r b k s before. (r, refl, at r before (dec_le r q)))
  where
    at : (r : ℕ) → ((v : ℕ) → p ≤ v → v < r → bad v ≡ false) → Dec (r ≤ q) → r ≤ q
    at r before (yes i) = i
    at r before (no i) = absurd (true≢false (sym t ∙ before q a (omega arith)))

pub lower_finds_left : (n q : ℕ) (c d : Check) → Finds n q c → Finds n q (lower_fault c d)
unfolding lower_fault
lower_finds_left n q (Ok u) d (p, e, l) = absurd (passed_not_fault e)
lower_finds_left n q (Err f) (Ok u) h = h
lower_finds_left n q (Err f) (Err g) (p, e, l) =
    let i = fault_place e in
    (min f.place g.place, ap (λ k. fault k (min f.place g.place)) (fault_number e), omega arith)

pub lower_finds_right : (n q : ℕ) (c d : Check) → Numbered n c → Finds n q d → Finds n q (lower_fault c d)
unfolding lower_fault
lower_finds_right n q (Ok u) d f h = h
lower_finds_right n q (Err g) (Ok u) f (p, e, l) = absurd (passed_not_fault e)
lower_finds_right n q (Err g) (Err d) f (p, e, l) =
    let i = fault_place e in
    (min g.place d.place, ap (λ k. fault k (min g.place d.place)) (sym (f g.number g.place refl)), omega arith)

-- ---- every fault of a check is one of F: it is enough that its own number and places are

at_fault : (F : ℕ → ℕ → Type 0) (n p m q : ℕ) → F n p → n ≡ m → p ≡ q → F m q
at_fault F n p m q f i j = rw (← i, ← j) f

pub if_sound : (F : ℕ → ℕ → Type 0) (n p : ℕ) (t : Bool) → (t ≡ true → F n p) → Sound F (fault_if n p t)
if_sound F n p t f m q e =
    let (a, b, c) = if_fault n p t e in
    at_fault F n p m q (f a) b c

pub from_sound : (F : ℕ → ℕ → Type 0) (n p e : ℕ) (bad : ℕ → Bool) → ((q : ℕ) → p ≤ q → q < e → bad q ≡ true → F n q) → Sound F (fault_from n p e bad)
from_sound F n p e bad f m q i =
    let (a, b, c, d, g) = from_fault n p e bad i in
    at_fault F n q m q (f q b c d) a refl

pub lower_sound : (F : ℕ → ℕ → Type 0) (n : ℕ) (c d : Check) → Numbered n c → Numbered n d → Sound F c → Sound F d → Sound F (lower_fault c d)
unfolding lower_fault
lower_sound F n (Ok u) d f g h k = k
lower_sound F n (Err d) (Ok u) f g h k = h
lower_sound F n (Err d) (Err o) f g h k = λ m p e. go m p e (dec_le d.place o.place)
  where
    go : (m p : ℕ) → fault d.number (min d.place o.place) ≡ fault m p → Dec (d.place ≤ o.place) → F m p
    go m p e (yes l) =
        let i = fault_place e in
        let j : d.place ≡ p = omega arith in
        at_fault F d.number d.place m p (h d.number d.place refl) (fault_number e) j
    go m p e (no l) =
        let i = fault_place e in
        let j : o.place ≡ p = omega arith in
        at_fault F o.number o.place m p (k o.number o.place refl) (sym (g o.number o.place refl) ∙ f d.number d.place refl ∙ fault_number e) j
