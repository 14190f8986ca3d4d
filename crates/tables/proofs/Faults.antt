-- Laws of checks: a scan of places gives its fault at the first bad one, several checks that of the first that has one.
-- Assumes nothing.
use Prim.Native.Nat.{ℕ, zero, suc, ◌+◌, ◌-◌, ◌≤◌, ◌<◌, min}
use native.Mathlib.Omega.{arith}
use native.Mathlib.Numerals.{add-one}
use native.Mathlib.Decide.{dec_lt, dec_le, ℕ_discrete}
use mathlib.Core.Path.{◌≡◌, refl, sym, ap, ◌∙◌}
use mathlib.Core.Bool.{Bool, true, false, ◌||◌, true≢false}
use mathlib.Core.List.{List, [], ◌∷◌, ◌++◌}
use lib.ListN.{get_or}
use lib.Dec.{eqb}
use borrow.Author.Tests.{lt-ltb, le-ltb, eq-eqb, ne_eqb}
use Rattle.rules.specs.Answers.{Check}
use Rattle.std.specs.declared.result.Result.TheVariants.{Ok, Err}
use Rattle.rules.specs.Answers.{fault}
use Rattle.rules.specs.Lists.{seek}
use Rattle.rules.specs.Answers.{fault_if, and_then, first_fault}
use Rattle.rules.specs.Refusal.{fault_from, lower_fault}
use Rattle.lists.proofs.Places.{seek-from, seek_holds, seek_before}
use Rattle.lists.proofs.Tests.{or_left, or_right, or-none}

-- ---- what a check says

number_of : Check → ℕ
number_of (Ok u) = 0
number_of (Err f) = f.number

place_of : Check → ℕ
place_of (Ok u) = 0
place_of (Err f) = f.place

pub passed_not_fault : {n p : ℕ} → (Ok tt) ≡ fault n p → ⊥
passed_not_fault e =
    let z : ◌≡◌ {A = ℕ} 0 1 = cc in
    absurd (omega arith)

pub fault_number : {n p m q : ℕ} → fault n p ≡ fault m q → n ≡ m
unfolding number_of
fault_number e = ap number_of e

pub fault_place : {n p m q : ℕ} → fault n p ≡ fault m q → p ≡ q
unfolding place_of
fault_place e = ap place_of e

-- ---- one test

pub if-true : (n p : ℕ) {t : Bool} → t ≡ true → fault_if n p t ≡ fault n p
unfolding fault_if
if-true n p e = rw e

pub if-false : (n p : ℕ) {t : Bool} → t ≡ false → fault_if n p t ≡ Ok tt
unfolding fault_if
if-false n p e = rw e

pub if_passed : (n p : ℕ) (t : Bool) → fault_if n p t ≡ Ok tt → t ≡ false
unfolding fault_if
if_passed n p true e = absurd (passed_not_fault (sym e))
if_passed n p false e = refl

pub if_fault : (n p : ℕ) (t : Bool) {m q : ℕ} → fault_if n p t ≡ fault m q → (t ≡ true) × (n ≡ m) × (p ≡ q)
unfolding fault_if
if_fault n p true e = (refl, fault_number e, fault_place e)
if_fault n p false e = absurd (passed_not_fault e)

-- ---- a scan of the places p up to e

-- the one way to take it apart: every place passes, or there is a first bad one
pub from_cases : (n p e : ℕ) (bad : ℕ → Bool) (P : Check → Type 0)
    → (((v : ℕ) → p ≤ v → v < e → bad v ≡ false) → P (Ok tt))
    → ((q : ℕ) → p ≤ q → q < e → bad q ≡ true → ((v : ℕ) → p ≤ v → v < q → bad v ≡ false) → P (fault n q))
    → P (fault_from n p e bad)
unfolding fault_from fault_if
from_cases n p e bad P all first = go (dec_lt (seek bad p (e - p)) e)
  where
    go : Dec (seek bad p (e - p) < e) → P (fault_from n p e bad)
    go (yes l) =
        let a = seek-from bad p (e - p) in
        rw (lt-ltb (seek bad p (e - p)) e l)
        (first (seek bad p (e - p)) a l (seek_holds bad p (e - p) (omega arith)) (λ v b c. seek_before bad p (e - p) v b c))
    go (no l) = rw (le-ltb (seek bad p (e - p)) e (omega arith)) (all (λ v b c. seek_before bad p (e - p) v b (omega arith)))

-- at a bad place it stops; past a place that passes it goes on; at the end it passes
pub from_stop : (n p e : ℕ) (bad : ℕ → Bool) → p < e → bad p ≡ true → fault_from n p e bad ≡ fault n p
from_stop n p e bad l t =
    from_cases n p e bad (λ c. c ≡ fault n p) (λ all. absurd (true≢false (sym t ∙ all p (omega arith) l))) (λ q a b s before. at q a s before (ℕ_discrete q p))
  where
    at : (q : ℕ) → p ≤ q → bad q ≡ true → ((v : ℕ) → p ≤ v → v < q → bad v ≡ false) → Dec (q ≡ p) → fault n q ≡ fault n p
    at q a s before (yes i) = ap (fault n) i
    at q a s before (no i) = absurd (true≢false (sym t ∙ before p (omega arith) (omega arith)))

pub from_done : (n p e : ℕ) (bad : ℕ → Bool) → e ≤ p → fault_from n p e bad ≡ Ok tt
from_done n p e bad h = from_cases n p e bad (λ c. c ≡ Ok tt) (λ all. refl) (λ q a b s before. absurd (omega arith))

-- where the fault is
pub from_fault : (n p e : ℕ) (bad : ℕ → Bool) {m q : ℕ} → fault_from n p e bad ≡ fault m q
    → (n ≡ m) × (p ≤ q) × (q < e) × (bad q ≡ true) × ((v : ℕ) → p ≤ v → v < q → bad v ≡ false)
from_fault n p e bad {m} {q} =
    from_cases n p e bad (λ c. c ≡ fault m q → (n ≡ m) × (p ≤ q) × (q < e) × (bad q ≡ true) × ((v : ℕ) → p ≤ v → v < q → bad v ≡ false))
    (λ all i. absurd (passed_not_fault i)) (λ r a b s before i. at r a b s before (fault_number i) (fault_place i))
  where
    at : (r : ℕ) → p ≤ r → r < e → bad r ≡ true → ((v : ℕ) → p ≤ v → v < r → bad v ≡ false) → n ≡ m → r ≡ q
        → (n ≡ m) × (p ≤ q) × (q < e) × (bad q ≡ true) × ((v : ℕ) → p ≤ v → v < q → bad v ≡ false)
    at r a b s before i j = (i, omega arith, omega arith, ap bad (sym j) ∙ s, λ v c d. before v c (omega arith))

pub from_passed : (n p e : ℕ) (bad : ℕ → Bool) → fault_from n p e bad ≡ Ok tt → (v : ℕ) → p ≤ v → v < e → bad v ≡ false
from_passed n p e bad =
    from_cases n p e bad (λ c. c ≡ Ok tt → (v : ℕ) → p ≤ v → v < e → bad v ≡ false) (λ all i. all) (λ q a b s before i. absurd (passed_not_fault (sym i)))

-- and these two say what it gives
pub from_none : (n p e : ℕ) (bad : ℕ → Bool) → ((v : ℕ) → p ≤ v → v < e → bad v ≡ false) → fault_from n p e bad ≡ Ok tt
from_none n p e bad none-bad =
    from_cases n p e bad (λ c. c ≡ Ok tt) (λ all. refl) (λ q a b s before. absurd (true≢false (sym s ∙ none-bad q a b)))

pub from_first : (n p e q : ℕ) (bad : ℕ → Bool) → p ≤ q → q < e → bad q ≡ true → ((v : ℕ) → p ≤ v → v < q → bad v ≡ false) → fault_from n p e bad ≡ fault n q
from_first n p e q bad a l t before =
    from_cases n p e bad (λ c. c ≡ fault n q) (λ all. absurd (true≢false (sym t ∙ all q a l))) (λ r b k s earlier. at r b s earlier (dec_lt r q) (ℕ_discrete r q))
  where
    at : (r : ℕ) → p ≤ r → bad r ≡ true → ((v : ℕ) → p ≤ v → v < r → bad v ≡ false) → Dec (r < q) → Dec (r ≡ q) → fault n r ≡ fault n q
    at r b s earlier d (yes i) = ap (fault n) i
    at r b s earlier (yes d) (no i) = absurd (true≢false (sym s ∙ before r b d))
    at r b s earlier (no d) (no i) = absurd (true≢false (sym t ∙ earlier q a (omega arith)))

-- two tests that agree at the places give the same
pub from_same : (n p e : ℕ) (bad worse : ℕ → Bool) → ((v : ℕ) → p ≤ v → v < e → bad v ≡ worse v) → fault_from n p e bad ≡ fault_from n p e worse
from_same n p e bad worse same =
    from_cases n p e worse (λ c. fault_from n p e bad ≡ c)
    (λ all. from_none n p e bad (λ v a b. same v a b ∙ all v a b))
    (λ q a l s before. from_first n p e q bad a l (same q a l ∙ s) (λ v b c. same v b (omega arith) ∙ before v b c))

pub from_step : (n p e : ℕ) (bad : ℕ → Bool) → bad p ≡ false → fault_from n p e bad ≡ fault_from n (suc p) e bad
from_step n p e bad t =
    from_cases n (suc p) e bad (λ c. fault_from n p e bad ≡ c)
    (λ all. from_none n p e bad (λ v a b. at v e a b all (ℕ_discrete v p)))
    (λ q a l s before. from_first n p e q bad (omega arith) l s (λ v b c. at v q b c before (ℕ_discrete v p)))
  where
    at : (v z : ℕ) → p ≤ v → v < z → ((w : ℕ) → suc p ≤ w → w < z → bad w ≡ false) → Dec (v ≡ p) → bad v ≡ false
    at v z a b later (yes i) = ap bad i ∙ t
    at v z a b later (no i) = later v (omega arith) b

-- the same for a loop that adds 1
pub from_next : (n p e : ℕ) (bad : ℕ → Bool) → bad p ≡ false → fault_from n p e bad ≡ fault_from n (p + 1) e bad
from_next n p e bad t = rw add-one (from_step n p e bad t)

-- ---- one check after another

pub then_fault : {c : Check} {n p : ℕ} (next : Check) → c ≡ fault n p → and_then c next ≡ fault n p
unfolding and_then
then_fault next e = rw e

pub then_passed : {c : Check} (next : Check) → c ≡ Ok tt → and_then c next ≡ next
unfolding and_then
then_passed next e = rw e

pub then_same : {c d : Check} (next : Check) → c ≡ d → and_then c next ≡ and_then d next
then_same next e = ap (λ x. and_then x next) e

pub then_both : (c next : Check) → and_then c next ≡ Ok tt → (c ≡ Ok tt) × (next ≡ Ok tt)
unfolding and_then
then_both (Ok u) next e = (refl, e)
then_both (Err f) next e = absurd (passed_not_fault (sym e))

pub then_last : (c : Check) → and_then c (Ok tt) ≡ c
unfolding and_then
then_last (Ok u) = refl
then_last (Err f) = refl

pub then_assoc : (c d next : Check) → and_then (and_then c d) next ≡ and_then c (and_then d next)
unfolding and_then
then_assoc (Ok u) d next = refl
then_assoc (Err f) d next = refl

pub first-none : first_fault [] ≡ Ok tt
unfolding first_fault
first-none = refl

pub first_one : (c : Check) → first_fault (c ∷ []) ≡ c
unfolding first_fault
first_one c = then_last c

pub first-fault : {c : Check} {n p : ℕ} (cs : List Check) → c ≡ fault n p → first_fault (c ∷ cs) ≡ fault n p
unfolding first_fault
first-fault cs e = then_fault (first_fault cs) e

pub first_next : {c : Check} (cs : List Check) → c ≡ Ok tt → first_fault (c ∷ cs) ≡ first_fault cs
unfolding first_fault
first_next cs e = then_passed (first_fault cs) e

-- each of them passes
-- where some of the checks stand in a function of their own
pub first_fault_of : {n p : ℕ} (cs ds : List Check) → first_fault cs ≡ fault n p → first_fault (cs ++ ds) ≡ fault n p
unfolding first_fault and_then
first_fault_of [] ds e = absurd (passed_not_fault e)
first_fault_of (Ok u ∷ cs) ds e = first_fault_of cs ds e
first_fault_of (Err f ∷ cs) ds e = e

pub first_next_of : (cs ds : List Check) → first_fault cs ≡ Ok tt → first_fault (cs ++ ds) ≡ first_fault ds
unfolding first_fault and_then
first_next_of [] ds e = refl
first_next_of (Ok u ∷ cs) ds e = first_next_of cs ds e
first_next_of (Err f ∷ cs) ds e = absurd (passed_not_fault (sym e))

pub first_both : (cs ds : List Check) → first_fault (cs ++ ds) ≡ Ok tt → (first_fault cs ≡ Ok tt) × (first_fault ds ≡ Ok tt)
unfolding first_fault
first_both [] ds h = (refl, h)
first_both (c ∷ cs) ds h =
    let (a, b) = then_both c (first_fault (cs ++ ds)) h in
    let (p, q) = first_both cs ds b in
    (then_passed (first_fault cs) a ∙ p, q)

pub first_passed : (cs : List Check) → first_fault cs ≡ Ok tt → (i : ℕ) → get_or cs i (Ok tt) ≡ Ok tt
unfolding first_fault
first_passed [] h i = refl
first_passed (c ∷ cs) h zero = (then_both c (first_fault cs) h).0
first_passed (c ∷ cs) h (suc i) = first_passed cs (then_both c (first_fault cs) h).1 i

-- ---- two checks of one number: the smaller place

pub lower_passed : {c : Check} (d : Check) → c ≡ Ok tt → lower_fault c d ≡ d
unfolding lower_fault
lower_passed d e = rw e

pub lower_alone : (c : Check) {d : Check} → d ≡ Ok tt → lower_fault c d ≡ c
unfolding lower_fault
lower_alone (Ok u) e = e
lower_alone (Err f) e = rw e

pub lower_both : (c d : Check) → lower_fault c d ≡ Ok tt → (c ≡ Ok tt) × (d ≡ Ok tt)
unfolding lower_fault
lower_both (Ok u) d e = (refl, e)
lower_both (Err f) (Ok u) e = absurd (passed_not_fault (sym e))
lower_both (Err f) (Err g) e = absurd (passed_not_fault (sym e))

pub lower_left : (n p m q : ℕ) → p ≤ q → lower_fault (fault n p) (fault m q) ≡ fault n p
unfolding lower_fault
lower_left n p m q h = let e : min p q ≡ p = omega arith in ap (fault n) e

pub lower_right : (n p q : ℕ) → q ≤ p → lower_fault (fault n p) (fault n q) ≡ fault n q
unfolding lower_fault
lower_right n p q h = let e : min p q ≡ q = omega arith in ap (fault n) e

-- a test at a place that no place of the scan is past: the scan, then the test
pub lower_then : (n p e : ℕ) (bad : ℕ → Bool) (m q : ℕ) (t : Bool) → e ≤ q
    → lower_fault (fault_from n p e bad) (fault_if m q t) ≡ and_then (fault_from n p e bad) (fault_if m q t)
unfolding lower_fault and_then fault_if
lower_then n p e bad m q t h = from_cases n p e bad (λ c. lower_fault c (fault_if m q t) ≡ and_then c (fault_if m q t)) (λ all. refl) (λ r a l s before. at t r l)
  where
    at : (u : Bool) (r : ℕ) → r < e → lower_fault (fault n r) (fault_if m q u) ≡ fault n r
    at true r l = lower_left n r m q (omega arith)
    at false r l = refl

-- a fault at one of the scan's places: it is bad too
pub lower_place : (n p e q : ℕ) (bad : ℕ → Bool) → p ≤ q → q < e
    → lower_fault (fault_from n p e bad) (fault n q) ≡ fault_from n p e (λ v. bad v || eqb v q)
unfolding lower_fault
lower_place n p e q bad a l =
    from_cases n p e bad (λ c. lower_fault c (fault n q) ≡ fault_from n p e (λ v. bad v || eqb v q))
    (λ all. sym (here (λ v b c. all v b (omega arith))))
    (λ r b k s before. at r b k s before (dec_le q r))
  where
    here : ((v : ℕ) → p ≤ v → v < q → bad v ≡ false) → fault_from n p e (λ v. bad v || eqb v q) ≡ fault n q
    here before =
        from_first n p e q (λ v. bad v || eqb v q) a l (ap (λ y. bad q || y) (eq-eqb q q refl) ∙ or_right (bad q) refl)
        (λ v b c. or-none (before v b c) (ne_eqb v q (λ i. omega arith)))

    at : (r : ℕ) → p ≤ r → r < e → bad r ≡ true → ((v : ℕ) → p ≤ v → v < r → bad v ≡ false) → Dec (q ≤ r)
        → lower_fault (fault n r) (fault n q) ≡ fault_from n p e (λ v. bad v || eqb v q)
    at r b k s before (yes d) = lower_right n r q d ∙ sym (here (λ v c f. before v c (omega arith)))
    at r b k s before (no d) =
        lower_left n r n q (omega arith)
        ∙ sym (from_first n p e r (λ v. bad v || eqb v q) b k (or_left (eqb r q) s) (λ v c f. or-none (before v c f) (ne_eqb v q (λ i. omega arith))))
