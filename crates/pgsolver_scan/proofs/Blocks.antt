-- Bytes that lack two given ones, counted hit by hit in a block and joined block by block. Assumes nothing.
use Prim.Native.Nat.{ℕ, zero, suc, ◌+◌, ◌-◌, ◌*◌, ◌≤◌, ◌<◌}
use native.Mathlib.Omega.{arith}
use native.Mathlib.Decide.{dec_lt}
use mathlib.Core.Path.{◌≡◌, refl, sym, ap, ◌∙◌, subst}
use mathlib.Core.Bool.{Bool, true, false, cond, not, ◌||◌, false≢true, true≢false}
use mathlib.Core.List.{List, [], ◌∷◌}
use mathlib.Core.Logic.{◌⊎◌, inl, inr}
use lib.ListN.{length, take, drop, length-drop}
use Rattle.std.proofs.Math.Seq.{take-length}
use Rattle.std.proofs.lemmas.List.{get_or-drop, get_or-take, drop-drop}
use borrow.Author.Tests.{eq-eqb, eqb-true, lt-ltb}
use Rattle.std.specs.Prelude.{◌==◌, Some, None, Option}
use Rattle.std.specs.Option.{IfSome, IsSomeAnd, option_map, is_some}
use denote.Ref.{Bor}
use Rattle.std.specs.List.{position, position_or_len, IsSubsliceAt}
use Rattle.std.proofs.lemmas.List.Quantifiers.{position-Some}
use Rattle.rules.specs.Lists.{word}
use Rattle.pgsolver_scan.specs.Told.{Lacks, ToldFirst, first_of}

-- a word behind a place, counted from there
word_drop : (xs : List ℕ) (q i : ℕ) → q ≤ i → word (drop q xs) (i - q) ≡ word xs i
word_drop xs q i h =
    let e : q + (i - q) ≡ i = omega arith in
    get_or-drop q xs (i - q) 0 ∙ ap (word xs) e

module _ {text : List ℕ} {one other : ℕ} where
  pub lacks_join : {p q r : ℕ} → Lacks text p q one other → Lacks text q r one other → Lacks text p r one other
  lacks_join {p} {q} {r} k l =
      record {
        ordered = omega (arith, k.ordered, l.ordered);
        within = l.within;
        free = λ i a b. go i (dec_lt i q) a b;
      }
    where
      go : (i : ℕ) → Dec (i < q) → p ≤ i → i < r → (¬ (word text i ≡ one)) × (¬ (word text i ≡ other))
      go i (yes h) a b = k.free i a h
      go i (no h) a b = l.free i (omega arith) b

  -- fewer of them
  pub lacks_less : {p q r : ℕ} → Lacks text p r one other → p ≤ q → q ≤ r → Lacks text p q one other
  lacks_less l h k =
      record { ordered = h; within = omega (arith, l.within); free = λ i a b. l.free i a (omega arith) }

-- a block of the text
pub lacks_block : (text : List ℕ) (q : ℕ) {n one other : ℕ} → 64 ≤ n → q + 64 ≤ length text
    → Lacks (take n (drop q text)) 0 64 one other → Lacks text q (q + 64) one other
lacks_block text q {n = n} k h l =
    record {
      ordered = omega arith;
      within = h;
      free = λ i a b.
          let e : word (take n (drop q text)) (i - q) ≡ word text i
          = get_or-take n (drop q text) (i - q) 0 (omega arith) ∙ word_drop text q i a in
          let f = l.free (i - q) (omega arith) (omega arith) in
          (λ g. f.0 (e ∙ g), λ g. f.1 (e ∙ g));
    }

-- so many blocks of what the text has behind a place
pub lacks_blocks : (text xs : List ℕ) (p : ℕ) {one other : ℕ} → xs ≡ drop p text → (n : ℕ) → p + n * 64 ≤ length text
    → ((k : ℕ) → k < n → Lacks (take 64 (drop (k * 64) xs)) 0 64 one other) → Lacks text p (p + 64 * n) one other
lacks_blocks text xs p e zero h f =
    record { ordered = omega arith; within = omega arith; free = λ i a b. absurd (omega arith) }
lacks_blocks text xs p {one} {other} e (suc n) h f =
    let a : p + 64 * n + 64 ≡ p + 64 * suc n = omega arith in
    let b : p + n * 64 ≡ p + 64 * n = omega arith in
    let d = ap (λ (ys : List ℕ). take 64 (drop (n * 64) ys)) e ∙ ap (take 64) (drop-drop (n * 64) p text)
    ∙ ap (λ (k : ℕ). take 64 (drop k text)) b in
    subst (λ (r : ℕ). Lacks text p r one other) a
    (lacks_join (lacks_blocks text xs p e n (omega arith) (λ k l. f k (omega arith)))
    (lacks_block text (p + 64 * n) {n = 64} (omega arith) (omega arith)
    (subst (λ (ys : List ℕ). Lacks ys 0 64 one other) d (f n (omega arith)))))

-- the blocks that a run of `take_while` over `chunks_exact` gave
pub lacks_run : (text : List ℕ) (p n m : ℕ) {size : ℕ} {rest : List ℕ} {one other : ℕ}
    {at at' : ℕ → Option (Bor (List ℕ))}
    → size ≡ 64 → rest ≡ drop p text → p ≤ length text → n ≤ m → m * size ≤ length rest
    → ((k : ℕ) → k < n → at k ≡ at' k)
    → ((k : ℕ) → IfSome (at k)
    (λ x. (length x.now ≡ size) × (k * size + size ≤ length rest) × IsSubsliceAt size rest (k * size) x.now))
    → ((k : ℕ) → k < n → IsSomeAnd (at' k) (λ x. Lacks x.now 0 64 one other)) → Lacks text p (p + 64 * n) one other
lacks_run text p n m {size} {rest} {one} {other} {at} {at'} z y h l w same parts lack =
    lacks_blocks text rest p y n fits
    (λ k b. go k (at k) (parts k)
    (subst (λ o. IsSomeAnd o (λ x. Lacks x.now 0 64 one other)) (sym (same k b)) (lack k b)))
  where
    w' : m * 64 ≤ length rest
    w' = subst (λ (s : ℕ). m * s ≤ length rest) z w

    fits : p + n * 64 ≤ length text
    fits = omega (arith, w', l, h, ap length y, length-drop p text)

    go : (k : ℕ) (o : Option (Bor (List ℕ)))
        → IfSome o
        (λ x. (length x.now ≡ size) × (k * size + size ≤ length rest) × IsSubsliceAt size rest (k * size) x.now)
        → IsSomeAnd o (λ x. Lacks x.now 0 64 one other) → Lacks (take 64 (drop (k * 64) rest)) 0 64 one other
    go k (Some x) f g =
        subst (λ (ys : List ℕ). Lacks ys 0 64 one other)
        (f.2.0 ∙ ap (λ (s : ℕ). take s (drop (k * s) rest)) z) g
    go k None f g = absurd g

-- what is known of an item, if there is one, where there is one
pub item_at : {A : Type 0} {P Q : A → Type 0} (o : Option A) {v : A} → option_map (λ y. y) o ≡ Some v → IfSome o P
    → ((x : A) → P x → Q x) → IsSomeAnd o Q
item_at None e p f = absurd (true≢false (sym (ap is_some e)))
item_at (Some x) e p f = f x p

-- so many hits among the first bytes of a block
pub record Counted (text : List ℕ) (p count hits one other : ℕ) : Type 0 where
  pub within : count ≤ 64
  pub few : hits ≤ count
  pub free : hits ≡ 0 → Lacks text p (p + count) one other

-- ---- the first of the two bytes

abbrev either : (one other : ℕ) → ℕ → Bool
either one other c = (c == one) || (c == other)

lacking : (p : ℕ → Bool) (xs : List ℕ) (i : ℕ) → i < position_or_len p xs → p (word xs i) ≡ false
lacking p [] i h = absurd (omega arith)
lacking p (x ∷ xs) i h = go (λ j l. lacking p xs j l) (p x) refl i h
  where
    go : ((j : ℕ) → j < position_or_len p xs → p (word xs j) ≡ false) → (b : Bool) → p x ≡ b → (i : ℕ)
        → i < cond (not b) (1 + position_or_len p xs) 0 → p (word (x ∷ xs) i) ≡ false
    go r true e i h = absurd (omega arith)
    go r false e zero h = e
    go r false e (suc i) h = r i (omega arith)

none_left : (p : ℕ → Bool) (xs : List ℕ) → position p xs ≡ None → (i : ℕ) → i < length xs → p (word xs i) ≡ false
none_left p xs e i h = go (dec_lt (position_or_len p xs) (length xs))
  where
    go : Dec (position_or_len p xs < length xs) → p (word xs i) ≡ false
    go (yes l) =
        let f : Some (position_or_len p xs) ≡ None
        = sym (ap (λ (b : Bool). cond b (Some (position_or_len p xs)) None) (lt-ltb _ _ l)) ∙ e in
        absurd (let z : ◌≡◌ {A = ℕ} 0 1 = cc in omega arith)
    go (no l) = lacking p xs i (omega arith)

neither : (one other c : ℕ) → either one other c ≡ false → (¬ (c ≡ one)) × (¬ (c ≡ other))
neither one other c e = (
  λ f. absurd (false≢true (sym e ∙ ap (λ (b : Bool). b || (c == other)) (eq-eqb c one f))),
  λ f. absurd (false≢true (sym e ∙ ap (λ (b : Bool). (c == one) || b) (eq-eqb c other f) ∙ or_true (c == one))),
)
  where
    or_true : (b : Bool) → (b || true) ≡ true
    or_true true = refl
    or_true false = refl

one_of : (one other c : ℕ) → either one other c ≡ true → (c ≡ one) ⊎ (c ≡ other)
one_of one other c e = go (c == one) refl
  where
    go : (b : Bool) → (c == one) ≡ b → (c ≡ one) ⊎ (c ≡ other)
    go true f = inl (eqb-true c one f)
    go false f = inr (eqb-true c other (sym (ap (λ (b : Bool). b || (c == other)) f) ∙ e))

-- behind a place from which on there is neither
module _ {text : List ℕ} {p q one other : ℕ} (l : Lacks text p q one other) where
  shifted : (n : ℕ) → q + n ≤ length text → ((i : ℕ) → i < n → either one other (word (drop q text) i) ≡ false)
      → Lacks text p (q + n) one other
  shifted n h f =
      lacks_join l (record {
        ordered = omega arith;
        within = h;
        free = λ i a b.
            let e : word (drop q text) (i - q) ≡ word text i = word_drop text q i a in
            neither one other (word text i)
            (sym (ap (either one other) e) ∙ f (i - q) (omega arith));
      })

  -- the bytes from there on
  behind : take (length text - q) (drop q text) ≡ drop q text
  behind = ap (λ (n : ℕ). take n (drop q text)) (sym (length-drop q text)) ∙ take-length (drop q text)

  pub find_none : first_of one other (take (length text - q) (drop q text)) ≡ None
      → Lacks text p (length text) one other
  unfolding first_of
  find_none f =
      let e = sym (ap (first_of one other) behind) ∙ f in
      let z : q + (length text - q) ≡ length text = omega (arith, l.within) in
      subst (λ (r : ℕ). Lacks text p r one other) z
      (shifted (length text - q) (omega (arith, l.within))
      (λ i h. none_left (either one other) (drop q text) e i (omega (arith, length-drop q text))))

  pub find_some : (k : ℕ) → first_of one other (take (length text - q) (drop q text)) ≡ Some k
      → ToldFirst (Some (q + k)) text p one other
  unfolding first_of
  find_some k f =
      let e = sym (ap (first_of one other) behind) ∙ f in
      let (a, b, c) = position-Some (either one other) (drop q text) k 0 e in
      let h : q + k < length text = omega (arith, a, length-drop q text, l.within) in
      let d : word (drop q text) (q + k - q) ≡ word text (q + k) = word_drop text q (q + k) (omega arith) in
      let s : q + k - q ≡ k = omega arith in (
        shifted k (omega arith) c,
        h,
        one_of one other (word text (q + k))
            (ap (either one other) (sym d ∙ ap (word (drop q text)) s) ∙ b),
      )
