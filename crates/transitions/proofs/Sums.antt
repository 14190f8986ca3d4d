-- Sums of out-degrees: one state more, never more than there are transitions, and the samples as a loop writes them.
-- Assumes nothing.
use mathlib.Core.Path.{◌≡◌, refl, ap, ◌∙◌}
use mathlib.Core.List.{List}
use Prim.Native.Nat.{ℕ, zero, suc, ◌+◌, ◌-◌, ◌*◌, ◌/◌, ◌%◌, ◌≤◌, ◌<◌}
use native.Mathlib.Decide.{ℕ_discrete}
use native.Mathlib.Numerals.{add-one}
use native.Mathlib.Omega.{arith}
use lib.ListN.{length, take, drop, set}
use lib.Seq.{get_or-set_same, get_or-set_other}
use Rattle.rules.specs.Lists.{word, sum_words}
use Rattle.rules.specs.System.{state_count, transition_count, degree, first_transition}
use Rattle.tables.specs.Good.{GoodSystem}
use Rattle.words.proofs.Sums.{sum_of_slice}
use Rattle.transitions.specs.Samples.{System, Samples, stride}
use Rattle.lists.proofs.Sums.{sum_grows}

pub first-none : (ss : List ℕ) → first_transition ss 0 ≡ 0
unfolding first_transition sum_words
first-none ss = refl

pub first_more : (ss : List ℕ) (s : ℕ) → first_transition ss (s + 1) ≡ first_transition ss s + degree ss s
unfolding first_transition sum_words
first_more ss s = rw add-one

first_most : (l : ℕ) (ss : List ℕ) → GoodSystem l ss → (s : ℕ) → s ≤ state_count ss → first_transition ss s ≤ transition_count ss
unfolding first_transition
first_most l ss good s h = let a = sum_grows ss 3 s (state_count ss) h in let b = good.total in omega arith

-- so a sum of out-degrees is a small number
pub sum_small : (ss : List ℕ) → System ss → (s sum : ℕ) → s ≤ state_count ss → sum ≡ first_transition ss s → sum ≤ 262_144
sum_small ss good s sum h e = omega (arith, first_most good.0 ss good.1 s h, good.1.moves)

-- the samples of the states below s: at a multiple of the stride there is one more
pub sample_more : (ss samples : List ℕ) (s sum : ℕ) → s / stride < length samples → s % stride ≡ 0 → sum ≡ first_transition ss s
    → ((i : ℕ) → i * stride < s → word samples i ≡ first_transition ss (i * stride))
    → (i : ℕ) → i * stride < s + 1 → word (set samples (s / stride) sum) i ≡ first_transition ss (i * stride)
sample_more ss samples s sum room whole e below i h = go (ℕ_discrete i (s / stride))
  where
    go : Dec (i ≡ s / stride) → word (set samples (s / stride) sum) i ≡ first_transition ss (i * stride)
    go (yes q) = let z : i * stride ≡ s = omega arith in rw (z, q) (get_or-set_same {A = ℕ} samples (s / stride) sum 0 room ∙ e)
    go (no q) = get_or-set_other {A = ℕ} samples (s / stride) i sum 0 (omega arith) ∙ below i (omega arith)

-- and elsewhere the same
pub sample_between : (ss samples : List ℕ) (s : ℕ) → (s % stride ≡ 0 → ⊥)
    → ((i : ℕ) → i * stride < s → word samples i ≡ first_transition ss (i * stride))
    → (i : ℕ) → i * stride < s + 1 → word samples i ≡ first_transition ss (i * stride)
sample_between ss samples s part below i h = below i (omega arith)

-- a sum over some words and over those behind them
sum_both : (ws : List ℕ) (p m n : ℕ) → sum_words ws p m + sum_words ws (p + m) n ≡ sum_words ws p (m + n)
unfolding sum_words
sum_both ws p m zero = let e : m + zero ≡ m = omega arith in rw e (omega arith)
sum_both ws p m (suc n) =
    let e : m + suc n ≡ suc (m + n) = omega arith in
    let place : p + m + n ≡ p + (m + n) = omega arith in
    rw e (omega (arith, sum_both ws p m n, ap (word ws) place))

-- the sample before a state, and the out-degrees from there on, as they are lent
pub first_from_sample : (ss samples : List ℕ) → System ss → Samples ss samples → (s sum : ℕ) → s < state_count ss
    → (let p = 3 + s / stride * stride in
    sum ≡ sum_words (take (3 + s - p) (drop p ss)) 0 (length (take (3 + s - p) (drop p ss))))
    → word samples (s / stride) + sum ≡ first_transition ss s
unfolding first_transition
first_from_sample ss samples good known s sum h e =
    let a = s / stride * stride in
    let below : a ≤ s = omega arith in
    let lent : sum ≡ sum_words ss (3 + a) (s - a) =
    let n : 3 + s - (3 + a) ≡ s - a = omega arith in
    e ∙ sum_of_slice ss (3 + a) (3 + s - (3 + a)) (omega (arith, good.1.sized)) ∙ ap (sum_words ss (3 + a)) n in
    let all : a + (s - a) ≡ s = omega arith in
    omega (arith, known.entry (s / stride) (omega arith), lent, sum_both ss 3 a (s - a), ap (sum_words ss 3) all)
