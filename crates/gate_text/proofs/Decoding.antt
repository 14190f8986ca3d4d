-- Words are read from bytes one after the other, and the bytes that the program refuses are those whose words disagree
-- or are not whole. Assumes nothing.
use mathlib.Core.Path.{◌≡◌, refl, sym, ap, ◌∙◌}
use mathlib.Core.Bool.{Bool, true, false, cond}
use mathlib.Core.List.{List, [], ◌∷◌, ◌++◌, append-nil}
use mathlib.Core.Option.{Option, none, some}
use Prim.Native.Nat.{ℕ, zero, suc, ◌+◌, ◌-◌, ◌*◌, ◌%◌, ◌≤◌, ◌<◌}
use native.Mathlib.Decide.{ℕ_discrete}
use native.Mathlib.Omega.{arith}
use lib.ListN.{length, take, drop, drop_of_length-le}
use lib.Seq.{drop-cons, append_snoc}
use lib.Dec.{eqb}
use borrow.Author.Tests.{lt-ltb, le-ltb, eq-eqb, ne_eqb}
use Rattle.std.specs.List.{sum_by}
use Rattle.std.proofs.lemmas.List.Sums.{sum_by-cons}
use Rattle.rules.specs.Lists.{word, sum, sum_words}
use Rattle.rules.specs.Refusal.{differ}
use Rattle.rules.specs.Program.{word_of, joined, words_of, gate_words, disagree}
use Rattle.gate_text.specs.Reading.{agreeing, accepted}
use Rattle.words.specs.Bytes.{word_at, words_at}
use Rattle.words.proofs.Sums.{sum_summed}

-- ---- one word after the other

-- these words, then those
unfoldable pub followed : List ℕ → Option (List ℕ) → Option (List ℕ)
followed ws none = none
followed ws (some vs) = some (ws ++ vs)

followed_joined : (ws : List ℕ) (w : ℕ) (o : Option (List ℕ)) → followed ws (joined w o) ≡ followed (ws ++ (w ∷ [])) o
unfolding followed joined
followed_joined ws w none = refl
followed_joined ws w (some vs) = ap some (sym (append_snoc ws w vs))

byte : (bytes : List ℕ) (p q : ℕ) → q ≡ suc p → p < length bytes → drop p bytes ≡ word bytes p ∷ drop q bytes
byte bytes p q e h = drop-cons bytes p 0 h ∙ ap (λ (n : ℕ). word bytes p ∷ drop n bytes) (sym e)

four : (bytes : List ℕ) (p : ℕ) → p + 4 ≤ length bytes → words_of (drop p bytes) ≡ joined (word_at bytes p) (words_of (drop (p + 4) bytes))
unfolding words_of word_at
four bytes p h =
    let a : drop p bytes ≡ word bytes p ∷ drop (p + 1) bytes = byte bytes p (p + 1) (omega arith) (omega arith) in
    let b : drop (p + 1) bytes ≡ word bytes (p + 1) ∷ drop (p + 2) bytes = byte bytes (p + 1) (p + 2) (omega arith) (omega arith) in
    let c : drop (p + 2) bytes ≡ word bytes (p + 2) ∷ drop (p + 3) bytes = byte bytes (p + 2) (p + 3) (omega arith) (omega arith) in
    let d : drop (p + 3) bytes ≡ word bytes (p + 3) ∷ drop (p + 4) bytes = byte bytes (p + 3) (p + 4) (omega arith) (omega arith) in
    ap words_of
    (a
    ∙ ap (λ (l : List ℕ). word bytes p ∷ l) b
    ∙ ap (λ (l : List ℕ). word bytes p ∷ word bytes (p + 1) ∷ l) c
    ∙ ap (λ (l : List ℕ). word bytes p ∷ word bytes (p + 1) ∷ word bytes (p + 2) ∷ l) d)

followed_none : (o : Option (List ℕ)) → o ≡ followed [] o
unfolding followed
followed_none none = refl
followed_none (some vs) = refl

-- n words are read, and those of the bytes behind them are left
read_front : (bytes : List ℕ) (n : ℕ) → 4 * n ≤ length bytes
    → words_of bytes ≡ followed (words_at n bytes) (words_of (drop (4 * n) bytes))
unfolding words_at
read_front bytes zero h = followed_none (words_of bytes)
read_front bytes (suc n) h =
    let e : 4 * n + 4 ≡ 4 * suc n = omega arith in
    read_front bytes n (omega arith)
    ∙ ap (followed (words_at n bytes)) (four bytes (4 * n) (omega arith))
    ∙ followed_joined (words_at n bytes) (word_at bytes (4 * n)) (words_of (drop (4 * n + 4) bytes))
    ∙ ap (λ (m : ℕ). followed (words_at n bytes ++ (word_at bytes (4 * n) ∷ [])) (words_of (drop m bytes))) e

pub read_whole : (bytes : List ℕ) (n : ℕ) → 4 * n ≡ length bytes → words_of bytes ≡ some (words_at n bytes)
unfolding followed words_of
read_whole bytes n h =
    read_front bytes n (omega arith)
    ∙ ap (λ (l : List ℕ). followed (words_at n bytes) (words_of l)) (drop_of_length-le bytes (omega arith))
    ∙ ap some (append-nil (words_at n bytes))

-- ---- how many words there are

-- n bytes have these words
abbrev Sized : ℕ → Option (List ℕ) → Type 0
Sized n none = ¬ (n % 4 ≡ 0)
Sized n (some ws) = 4 * length ws ≡ n

sized_joined : (w n : ℕ) (o : Option (List ℕ)) → Sized n o → Sized (suc (suc (suc (suc n)))) (joined w o)
unfolding joined
sized_joined w n none s = λ e. s (omega arith)
sized_joined w n (some ws) s = omega arith

sized : (bytes : List ℕ) → Sized (length bytes) (words_of bytes)
unfolding words_of
sized [] = refl
sized (a ∷ []) = λ e. absurd (omega arith)
sized (a ∷ b ∷ []) = λ e. absurd (omega arith)
sized (a ∷ b ∷ c ∷ []) = λ e. absurd (omega arith)
sized (a ∷ b ∷ c ∷ d ∷ rest) = sized_joined (word_of a b c d) (length rest) (words_of rest) (sized rest)

-- ---- the bytes that are refused

module _ (bytes : List ℕ) where
  refused_if : ((ws : List ℕ) → 4 * length ws ≡ length bytes → disagree ws ≡ true) → accepted bytes ≡ none
  unfolding accepted agreeing
  refused_if f = go (words_of bytes) (sized bytes)
    where
      go : (o : Option (List ℕ)) → Sized (length bytes) o → agreeing o ≡ none
      go none s = refl
      go (some ws) s = rw (f ws s) refl

  pub refused_broken : (¬ (length bytes % 4 ≡ 0)) → accepted bytes ≡ none
  refused_broken h = refused_if (λ ws e. absurd (h (omega arith)))

  pub refused_long : 8_192 < length bytes → accepted bytes ≡ none
  unfolding disagree gate_words
  refused_long h = refused_if (λ ws e. rw (lt-ltb 2_048 (length ws) (omega arith)) refl)

  pub refused_short : length bytes < 16 → accepted bytes ≡ none
  unfolding disagree gate_words
  refused_short h = refused_if (λ ws e. rw (le-ltb 2_048 (length ws) (omega arith), lt-ltb (length ws) 4 (omega arith)) refl)

  -- what is read, where there are neither too many words nor too few
  accepted_words : (ws : List ℕ) → words_of bytes ≡ some ws → length ws ≤ 2_048 → 4 ≤ length ws → (t : Bool) → eqb (length ws) (4 + sum (take 4 ws)) ≡ t
      → accepted bytes ≡ cond t (some ws) none
  unfolding accepted agreeing disagree gate_words differ
  accepted_words ws e k l true f = rw (e, le-ltb 2_048 (length ws) k, le-ltb (length ws) 4 l, f) refl
  accepted_words ws e k l false f = rw (e, le-ltb 2_048 (length ws) k, le-ltb (length ws) 4 l, f) refl

  -- they are taken where the four lengths agree with them
  pub agreed : (ws : List ℕ) → 4 * length ws ≡ length bytes → length bytes ≤ 8_192 → 16 ≤ length bytes
      → ws ≡ words_at (length ws) bytes → (t : Bool) → t ≡ eqb (length ws) (4 + sum (take 4 ws)) → (u : Bool)
      → t ≡ u → accepted bytes ≡ cond u (some ws) none
  agreed ws whole few some_words read t f u h =
      let e : words_of bytes ≡ some ws = read_whole bytes (length ws) whole ∙ ap some (sym read) in
      accepted_words ws e (omega arith) (omega arith) u (sym f ∙ h)

-- ---- the four lengths

pub sum_four : (ws : List ℕ) → 4 ≤ length ws → sum (take 4 ws) ≡ word ws 0 + word ws 1 + word ws 2 + word ws 3
unfolding sum
sum_four [] h = absurd (omega arith)
sum_four (a ∷ []) h = absurd (omega arith)
sum_four (a ∷ b ∷ []) h = absurd (omega arith)
sum_four (a ∷ b ∷ c ∷ []) h = absurd (omega arith)
sum_four (a ∷ b ∷ c ∷ d ∷ rest) h = omega arith

-- the sum of words is the one that the rules name
summed : (ws : List ℕ) → sum_by (λ x. x) ws ≡ sum ws
unfolding sum
summed [] = refl
summed (w ∷ ws) = omega (arith, sum_by-cons (λ x. x) w ws, summed ws)

-- the words behind the first four are as many as these say
pub agree_by : (ws : List ℕ) (total : ℕ) → total ≡ sum_words (take 4 ws) 0 (length (take 4 ws)) → 4 ≤ length ws
    → eqb (length ws - 4) total ≡ eqb (length ws) (4 + sum (take 4 ws))
agree_by ws total e h = go (ℕ_discrete (length ws - 4) total)
  where
    same : total ≡ sum (take 4 ws)
    same = e ∙ sym (sum_summed (take 4 ws)) ∙ summed (take 4 ws)

    go : Dec (length ws - 4 ≡ total) → eqb (length ws - 4) total ≡ eqb (length ws) (4 + sum (take 4 ws))
    go (yes q) = eq-eqb _ _ q ∙ sym (eq-eqb _ _ (omega (arith, same)))
    go (no q) = ne_eqb _ _ q ∙ sym (ne_eqb _ _ (λ r. q (omega (arith, same))))
