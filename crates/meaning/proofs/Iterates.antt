-- Sets of states that only grow, or only shrink, from step to step are at rest after as many steps as there are states.
-- Assumes nothing.
use mathlib.Core.Path.{◌≡◌, refl, sym, ap, ◌∙◌}
use mathlib.Core.Bool.{Bool, true, false, not, true≢false, false≢true}
use mathlib.Core.Logic.{◌⊎◌, inl, inr}
use Prim.Native.Nat.{ℕ, zero, suc, ◌+◌, ◌≤◌, ◌<◌}
use native.Mathlib.Omega.{arith}
use native.Mathlib.Decide.{ℕ_discrete}
use Rattle.rules.specs.Lists.{one}
use Rattle.meaning.specs.Satisfies.{StateSet, nowhere}
use Rattle.meaning.specs.Evaluation.{everywhere, iterate}
use Rattle.meaning.proofs.Tests.{against, back}

-- of the first n states, those of the first set are in the second
abbrev pub Sub : ℕ → StateSet → StateSet → Type 0
Sub n D E = (s : ℕ) → s < n → D s ≡ true → E s ≡ true

-- how many of the first n states are in the set
unfoldable size : StateSet → ℕ → ℕ
size E zero = 0
size E (suc n) = size E n + one (E n)

size_most : (E : StateSet) (n : ℕ) → size E n ≤ n
unfolding size
size_most E zero = omega arith
size_most E (suc n) = go (E n) (size_most E n)
  where
    go : (b : Bool) → size E n ≤ n → size E n + one b ≤ suc n
    go true h = omega arith
    go false h = omega arith

-- a larger set is the same or has more states
compare : (D E : StateSet) (n : ℕ) → Sub n D E → (Sub n E D × (size D n ≤ size E n)) ⊎ (size D n < size E n)
unfolding size
compare D E zero h = inl (λ s l. absurd (omega arith), omega arith)
compare D E (suc n) h = go (D n) (E n) refl refl (compare D E n (λ s l. h s (omega arith)))
  where
    more : Sub n E D → (E n ≡ true → D n ≡ true) → Sub (suc n) E D
    more r a s l e = at (ℕ_discrete s n)
      where
        at : Dec (s ≡ n) → D s ≡ true
        at (yes i) = ap D i ∙ a (ap E (sym i) ∙ e)
        at (no i) = r s (omega arith) e

    go : (a b : Bool) → D n ≡ a → E n ≡ b → (Sub n E D × (size D n ≤ size E n)) ⊎ (size D n < size E n)
        → (Sub (suc n) E D × (size D n + one (D n) ≤ size E n + one (E n))) ⊎ (size D n + one (D n) < size E n + one (E n))
    go true true p q (inl (r, l)) = inl (more r (λ e. p), rw (p, q) (omega arith))
    go true true p q (inr l) = inr (rw (p, q) (omega arith))
    go false false p q (inl (r, l)) = inl (more r (λ e. absurd (true≢false (sym e ∙ q))), rw (p, q) (omega arith))
    go false false p q (inr l) = inr (rw (p, q) (omega arith))
    go false true p q (inl (r, l)) = inr (rw (p, q) (omega arith))
    go false true p q (inr l) = inr (rw (p, q) (omega arith))
    go true false p q r = absurd (true≢false (sym (h n (omega arith) p) ∙ q))

-- sets that grow from step to step, and where a step adds nothing the next one adds nothing either
module _ (n : ℕ) (X : ℕ → StateSet) (grows : (k : ℕ) → Sub n (X k) (X (suc k))) (rests : (k : ℕ) → Sub n (X (suc k)) (X k) → Sub n (X (suc (suc k))) (X (suc k))) where
  stage : (k : ℕ) → Sub n (X (suc k)) (X k) ⊎ (k < size (X (suc k)) n)
  stage zero = go (compare (X 0) (X 1) n (grows 0))
    where
      go : (Sub n (X 1) (X 0) × (size (X 0) n ≤ size (X 1) n)) ⊎ (size (X 0) n < size (X 1) n) → Sub n (X 1) (X 0) ⊎ (0 < size (X 1) n)
      go (inl (r, l)) = inl r
      go (inr l) = inr (omega arith)
  stage (suc k) = go (stage k) (compare (X (suc k)) (X (suc (suc k))) n (grows (suc k)))
    where
      go : Sub n (X (suc k)) (X k) ⊎ (k < size (X (suc k)) n)
          → (Sub n (X (suc (suc k))) (X (suc k)) × (size (X (suc k)) n ≤ size (X (suc (suc k))) n)) ⊎ (size (X (suc k)) n < size (X (suc (suc k))) n)
          → Sub n (X (suc (suc k))) (X (suc k)) ⊎ (suc k < size (X (suc (suc k))) n)
      go (inl r) c = inl (rests k r)
      go (inr l) (inl (r, m)) = inl r
      go (inr l) (inr m) = inr (omega arith)

  at_rest : Sub n (X (suc n)) (X n)
  at_rest = go (stage n)
    where
      go : Sub n (X (suc n)) (X n) ⊎ (n < size (X (suc n)) n) → Sub n (X (suc n)) (X n)
      go (inl r) = r
      go (inr l) = absurd (omega (arith, size_most (X (suc n)) n))

-- ---- iterating a step that grows with its set

module _ (n : ℕ) where
  pub iterate_grows : (k : ℕ) (F G : StateSet → StateSet) (E : StateSet) → ((C D : StateSet) → Sub n C D → Sub n (F C) (G D)) → Sub n (iterate k F E) (iterate k G E)
  unfolding iterate
  iterate_grows zero F G E h s l e = e
  iterate_grows (suc k) F G E h s l e = h (iterate k F E) (iterate k G E) (iterate_grows k F G E h) s l e

  module _ (F : StateSet → StateSet) (monotone : (C D : StateSet) → Sub n C D → Sub n (F C) (F D)) where
    from-nowhere : (k : ℕ) → Sub n (iterate k F nowhere) (iterate (suc k) F nowhere)
    unfolding iterate nowhere
    from-nowhere zero s l e = absurd (false≢true e)
    from-nowhere (suc k) s l e = monotone (iterate k F nowhere) (iterate (suc k) F nowhere) (from-nowhere k) s l e

    -- from nowhere one comes to a set that contains its step
    pub least_closed : Sub n (F (iterate n F nowhere)) (iterate n F nowhere)
    unfolding iterate
    least_closed = at_rest n (λ k. iterate k F nowhere) from-nowhere (λ k h. monotone (iterate (suc k) F nowhere) (iterate k F nowhere) h)

    -- in every set that contains its step
    pub least_below : (E : StateSet) → Sub n (F E) E → (k : ℕ) → Sub n (iterate k F nowhere) E
    unfolding iterate nowhere
    least_below E h zero s l e = absurd (false≢true e)
    least_below E h (suc k) s l e = h s l (monotone (iterate k F nowhere) E (least_below E h k) s l e)

    from-everywhere : (k : ℕ) → Sub n (iterate (suc k) F everywhere) (iterate k F everywhere)
    unfolding iterate everywhere
    from-everywhere zero s l e = refl
    from-everywhere (suc k) s l e = monotone (iterate (suc k) F everywhere) (iterate k F everywhere) (from-everywhere k) s l e

    -- from everywhere one comes to a set that its step contains
    pub greatest_supported : Sub n (iterate n F everywhere) (F (iterate n F everywhere))
    unfolding iterate
    greatest_supported s l =
        back (iterate n F everywhere s) (iterate (suc n) F everywhere s)
        (at_rest n (λ k t. not (iterate k F everywhere t))
        (λ k t m. against (iterate (suc k) F everywhere t) (iterate k F everywhere t) (from-everywhere k t m))
        (λ k h t m. against (iterate (suc k) F everywhere t) (iterate (suc (suc k)) F everywhere t)
        (monotone (iterate k F everywhere) (iterate (suc k) F everywhere) (λ u i. back (iterate k F everywhere u) (iterate (suc k) F everywhere u) (h u i)) t m))
        s l)

    -- and every set that its step contains is in it
    pub greatest_above : (E : StateSet) → Sub n E (F E) → (k : ℕ) → Sub n E (iterate k F everywhere)
    unfolding iterate everywhere
    greatest_above E h zero s l e = refl
    greatest_above E h (suc k) s l e = monotone E (iterate k F everywhere) (greatest_above E h k) s l (h s l e)
