-- A bit more in a word, and in the list of words; and words without bits. Assumes nothing.
use mathlib.Core.Path.{◌≡◌, refl, sym, ap, ◌∙◌}
use mathlib.Core.Bool.{Bool, true, false, cond, not, ◌||◌}
use mathlib.Core.List.{List}
use Prim.Native.Nat.{ℕ, zero, suc, ◌+◌, ◌*◌, ◌/◌, ◌%◌, ◌^◌, ◌<◌}
use native.Mathlib.Nat.{pow-succ', zero-div}
use native.Mathlib.Omega.{arith}
use native.Mathlib.Decide.{ℕ_discrete}
use lib.ListN.{length, set, replicate, length-set}
use lib.Seq.{get_or-set_same, get_or-set_other}
use lib.Pow.{shr-shr, pow-lt}
use lib.Dec.{eqb}
use borrow.Author.Tests.{eqb-true, eqb-false, eq-eqb, ne_eqb}
use Rattle.rules.specs.Lists.{word}
use Rattle.bitmap.specs.Marks.{bit_of, set_word, marked, Met, Wiped}

-- ---- one word: bit i, read by halving

half : (w i : ℕ) → w / 2 ^ suc i ≡ w / 2 / 2 ^ i
half w i = sym (shr-shr w 1 i ∙ ap (λ (k : ℕ). w / 2 ^ k) (let e : 1 + i ≡ suc i = omega arith in e))

low : (w : ℕ) → w / 2 ^ 0 ≡ w
low w = omega arith

-- bit i of the word with bit j
bit_set : (i j w : ℕ) → (w / 2 ^ j) % 2 ≡ 0
    → (i ≡ j → ((w + 2 ^ j) / 2 ^ i) % 2 ≡ 1) × ((¬ (i ≡ j)) → ((w + 2 ^ j) / 2 ^ i) % 2 ≡ (w / 2 ^ i) % 2)
bit_set zero zero w h = (λ e. omega (arith, low w), λ n. absurd (n refl))
bit_set zero (suc j) w h = (λ e. absurd (omega arith), λ n. omega (arith, pow-succ' 2 j))
bit_set (suc i) zero w h = (
  λ e. absurd (omega arith),
  λ n. let q : (w + 2 ^ 0) / 2 ≡ w / 2 = omega arith in
      ap (λ (k : ℕ). k % 2) (half (w + 2 ^ 0) i ∙ ap (λ (k : ℕ). k / 2 ^ i) q ∙ sym (half w i)),
)
bit_set (suc i) (suc j) w h =
    let q : (w + 2 ^ suc j) / 2 ≡ w / 2 + 2 ^ j = omega (arith, pow-succ' 2 j) in
    let r = bit_set i j (w / 2) (ap (λ (k : ℕ). k % 2) (sym (half w j)) ∙ h) in
    let m : ((w + 2 ^ suc j) / 2 ^ suc i) % 2 ≡ ((w / 2 + 2 ^ j) / 2 ^ i) % 2
    = ap (λ (k : ℕ). k % 2) (half (w + 2 ^ suc j) i ∙ ap (λ (k : ℕ). k / 2 ^ i) q)
    in (λ e. m ∙ r.0 (omega arith), λ n. m ∙ r.1 (λ e. n (ap suc e)) ∙ ap (λ (k : ℕ). k % 2) (sym (half w i)))

-- it fits in as many bits
bit_fits : (k j w : ℕ) → j < k → w < 2 ^ k → (w / 2 ^ j) % 2 ≡ 0 → w + 2 ^ j < 2 ^ k
bit_fits zero j w h l e = absurd (omega arith)
bit_fits (suc k) zero w h l e = omega (arith, pow-succ' 2 k, low w)
bit_fits (suc k) (suc j) w h l e =
    let a : w / 2 < 2 ^ k = omega (arith, pow-succ' 2 k) in
    let r = bit_fits k j (w / 2) (omega arith) a (ap (λ (k : ℕ). k % 2) (sym (half w j)) ∙ e) in
    omega (arith, pow-succ' 2 k, pow-succ' 2 j, r)

two_values : (n : ℕ) → ¬ (n % 2 ≡ 1) → n % 2 ≡ 0
two_values n h = omega arith

pub bit_room : (w i : ℕ) → i < 32 → w < 4_294_967_296 → ¬ (bit_of w i ≡ true) → set_word w i < 4_294_967_296
unfolding set_word bit_of
bit_room w i h l n = bit_fits 32 i w h l (two_values (w / 2 ^ i) (λ e. n (eq-eqb ((w / 2 ^ i) % 2) 1 e)))

pub bit_off : (w i : ℕ) → ¬ ((w / 2 ^ i) % 2 ≡ 1) → ¬ (bit_of w i ≡ true)
unfolding bit_of
bit_off w i n e = n (eqb-true ((w / 2 ^ i) % 2) 1 e)

no_bit : (i : ℕ) → bit_of 0 i ≡ false
unfolding bit_of
no_bit i = ne_eqb ((0 / 2 ^ i) % 2) 1 (λ e. omega (arith, zero-div (2 ^ i)))

-- a bit that is shifted in 32 bits
pub shifted : (w i : ℕ) → i < 32 → w + (1 * 2 ^ i) % 4_294_967_296 ≡ set_word w i
unfolding set_word
shifted w i h = omega (arith, pow-lt {i = i} {j = 32} h)

-- ---- the list of words

-- the same word and the same bit are the same number
same_number : (u v : ℕ) → u / 32 ≡ v / 32 → u % 32 ≡ v % 32 → u ≡ v
same_number u v a b = omega arith

-- v was marked already
pub met_old : (bits : List ℕ) (v : ℕ) → (word bits (v / 32) / 2 ^ (v % 32)) % 2 ≡ 1
    → (false ≡ not (marked bits v)) × Met bits bits v
unfolding marked bit_of
met_old bits v e = (ap not (sym on), record { long = refl; marks = λ u. go u (eqb u v) refl })
  where
    on : marked bits v ≡ true
    on = eq-eqb ((word bits (v / 32) / 2 ^ (v % 32)) % 2) 1 e

    go : (u : ℕ) (b : Bool) → eqb u v ≡ b → marked bits u ≡ (b || marked bits u)
    go u true t = ap (marked bits) (eqb-true u v t) ∙ on
    go u false t = refl

module _ (bits : List ℕ) (v : ℕ) (long : v / 32 < length bits) where
  other_word : (u x : ℕ) → ¬ (u / 32 ≡ v / 32) → marked (set bits (v / 32) x) u ≡ marked bits u
  unfolding marked
  other_word u x n = ap (λ (w : ℕ). bit_of w (u % 32)) (get_or-set_other bits (v / 32) (u / 32) x 0 n)

  same_word : (u x : ℕ) → u / 32 ≡ v / 32 → marked (set bits (v / 32) x) u ≡ bit_of x (u % 32)
  unfolding marked
  same_word u x e =
      let here = ap (λ (k : ℕ). word (set bits (v / 32) x) k) e ∙ get_or-set_same bits (v / 32) x 0 long in
      ap (λ (w : ℕ). bit_of w (u % 32)) here

  pub met_new : ¬ ((word bits (v / 32) / 2 ^ (v % 32)) % 2 ≡ 1)
      → (true ≡ not (marked bits v)) × Met bits (set bits (v / 32) (set_word (word bits (v / 32)) (v % 32))) v
  unfolding marked bit_of set_word
  met_new n = (
    ap not (sym off),
    record { long = length-set bits (v / 32) new; marks = λ u. go u (ℕ_discrete u v) (ℕ_discrete (u / 32) (v / 32)) },
  )
    where
      w : ℕ
      w = word bits (v / 32)

      new : ℕ
      new = w + 2 ^ (v % 32)

      zeroed : (w / 2 ^ (v % 32)) % 2 ≡ 0
      zeroed = two_values (w / 2 ^ (v % 32)) n

      off : marked bits v ≡ false
      off = ne_eqb ((w / 2 ^ (v % 32)) % 2) 1 n

      go : (u : ℕ) → Dec (u ≡ v) → Dec (u / 32 ≡ v / 32) → marked (set bits (v / 32) new) u ≡ (eqb u v || marked bits u)
      go u (yes e) d =
          let on = (bit_set (u % 32) (v % 32) w zeroed).0 (ap (λ (k : ℕ). k % 32) e) in
          rw (eq-eqb u v e)
          (same_word u new (ap (λ (k : ℕ). k / 32) e) ∙ eq-eqb ((new / 2 ^ (u % 32)) % 2) 1 on)
      go u (no e) (yes d) =
          let as_before = (bit_set (u % 32) (v % 32) w zeroed).1 (λ f. e (same_number u v d f)) in
          rw (ne_eqb u v e)
          (same_word u new d ∙ ap (λ (k : ℕ). eqb k 1) as_before
          ∙ ap (λ (k : ℕ). bit_of (word bits k) (u % 32)) (sym d))
      go u (no e) (no d) = rw (ne_eqb u v e) (other_word u new d)

  pub wiped : Wiped bits (set bits (v / 32) 0) v
  wiped = record { long = length-set bits (v / 32) 0; marks = λ u. go u (eqb (u / 32) (v / 32)) refl }
    where
      go : (u : ℕ) (b : Bool) → eqb (u / 32) (v / 32) ≡ b
          → marked (set bits (v / 32) 0) u ≡ cond b false (marked bits u)
      go u true t = same_word u 0 (eqb-true (u / 32) (v / 32) t) ∙ no_bit (u % 32)
      go u false t = other_word u 0 (eqb-false (u / 32) (v / 32) t)

-- ---- words that are 0

-- they mark nothing
pub none_marked : (bits : List ℕ) → ((i : ℕ) → word bits i ≡ 0) → (u : ℕ) → marked bits u ≡ false
unfolding marked
none_marked bits z u = ap (λ (w : ℕ). bit_of w (u % 32)) (z (u / 32)) ∙ no_bit (u % 32)

pub zero_word : (n i : ℕ) → word (replicate n 0) i ≡ 0
zero_word zero i = refl
zero_word (suc n) zero = refl
zero_word (suc n) (suc i) = zero_word n i
