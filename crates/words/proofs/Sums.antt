-- Sums of words: a sum as a library's iterator makes it, and the sum over a slice of words. Assumes nothing.
use mathlib.Core.Path.{◌≡◌, refl, ap, ◌∙◌}
use mathlib.Core.List.{List, [], ◌∷◌}
use Prim.Native.Nat.{ℕ, zero, suc, ◌+◌, ◌≤◌}
use native.Mathlib.Omega.{arith}
use lib.ListN.{length, take, drop, length-drop}
use lib.Seq.{get_or-take, get_or-drop, length-take-le}
use Rattle.std.specs.List.{sum_by}
use Rattle.std.proofs.lemmas.List.Sums.{sum_by-cons}
use Rattle.rules.specs.Lists.{word, sum_words}

none_before : (n : ℕ) → 0 + n ≡ n
none_before n = omega arith

-- the first word and the others
front : (x : ℕ) (xs : List ℕ) (n : ℕ) → sum_words (x ∷ xs) 0 (suc n) ≡ x + sum_words xs 0 n
unfolding sum_words
front x xs zero = omega arith
front x xs (suc n) =
    let here : word (x ∷ xs) (0 + suc n) ≡ word xs n = ap (word (x ∷ xs)) (none_before (suc n)) in
    omega (arith, front x xs n, here, ap (word xs) (none_before n))

pub sum_summed : (xs : List ℕ) → sum_by (λ x. x) xs ≡ sum_words xs 0 (length xs)
unfolding sum_words
sum_summed [] = refl
sum_summed (x ∷ xs) = omega (arith, sum_by-cons (λ y. y) x xs, sum_summed xs, front x xs (length xs))

-- the first of the words from a place on, as they are lent
sum_lent : (ws : List ℕ) (p c n : ℕ) → n ≤ c → sum_words (take c (drop p ws)) 0 n ≡ sum_words ws p n
unfolding sum_words
sum_lent ws p c zero h = refl
sum_lent ws p c (suc n) h =
    let here : word (take c (drop p ws)) (0 + n) ≡ word ws (p + n) =
    ap (word (take c (drop p ws))) (none_before n) ∙ get_or-take c (drop p ws) n 0 (omega arith) ∙ get_or-drop p ws n 0 in
    omega (arith, sum_lent ws p c n (omega arith), here)

-- all of them
pub sum_of_slice : (ws : List ℕ) (p c : ℕ) → p + c ≤ length ws
    → sum_words (take c (drop p ws)) 0 (length (take c (drop p ws))) ≡ sum_words ws p c
sum_of_slice ws p c h =
    let e : length (take c (drop p ws)) ≡ c = length-take-le c (drop p ws) (omega (arith, length-drop p ws)) in
    ap (sum_words (take c (drop p ws)) 0) e ∙ sum_lent ws p c c (omega arith)
