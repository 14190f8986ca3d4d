-- Loops over the successors of a vertex: one more. Assumes nothing.
use mathlib.Core.Path.{◌≡◌, refl, sym, ap, ◌∙◌, subst}
use mathlib.Core.Bool.{cond}
use mathlib.Core.List.{List, [], ◌∷◌, ◌++◌}
use Prim.Native.Nat.{ℕ, zero, suc, ◌+◌, ◌*◌, ◌-◌, ◌≤◌, ◌<◌}
use native.Mathlib.Numerals.{add-one}
use native.Mathlib.Omega.{arith}
use lib.ListN.{length, take, length-append}
use lib.Seq.{take-suc, take_all}
use lib.Dec.{eqb}
use Rattle.rules.specs.Lists.{word, insert, insert_all, once}
use Rattle.rules.specs.Texts.{decimal}
use Rattle.lists.proofs.Inserts.{inserts_snoc, insert_begins}
use Rattle.lists.proofs.Equalities.{number_equality}
use Rattle.text_writer.specs.declared.Text.{Text}
use Rattle.text_writer.specs.Appending.{unless, Room, Appended}
use Rattle.text_writer.proofs.Appending.{appended_none, appended_as, appended_both}
use Rattle.bitmap.specs.Marks.{marked, Met, Holds, Only}
use Rattle.bitmap.proofs.Sets.{meets, only_holds}
use Rattle.pgsolver_writer.specs.Successors.{spaced_list, separator}
use Rattle.pgsolver_writer.proofs.Lists.{spaced_longer, spaced_met, separator_met, length_met}

-- ---- the first i successors, each once

unfoldable pub first : List ℕ → ℕ → List ℕ
first ts i = once eqb (take i ts)

first_none : (ts : List ℕ) → first ts 0 ≡ []
unfolding first once insert_all
first_none ts = refl

pub first_all : (ts : List ℕ) (i : ℕ) → length ts ≤ i → first ts i ≡ once eqb ts
unfolding first
first_all ts i h = ap (once eqb) (take_all i ts h)

first_more : (ts : List ℕ) (i : ℕ) → i < length ts → first ts (i + 1) ≡ insert eqb (first ts i) (word ts i)
unfolding first once
first_more ts i h =
    ap (λ (n : ℕ). once eqb (take n ts)) (add-one i)
    ∙ ap (once eqb) (take-suc ts i 0 h)
    ∙ inserts_snoc eqb [] (take i ts) (word ts i)

-- how many bytes they take
abbrev size_to : List ℕ → ℕ → ℕ
size_to ts i = length (spaced_list (first ts i))

size_later : (ts : List ℕ) (i n : ℕ) → i + n ≤ length ts → size_to ts i ≤ size_to ts (i + n)
size_later ts i zero h =
    let e : i ≡ i + 0 = omega arith in
    subst (λ (m : ℕ). size_to ts i ≤ size_to ts m) e (omega arith)
size_later ts i (suc n) h =
    let e : i + n + 1 ≡ i + suc n = omega arith in
    let shorter = size_later ts i n (omega arith) in
    let (rest, b) = insert_begins number_equality (first ts (i + n)) (word ts (i + n)) in
    let more = first_more ts (i + n) (omega arith) ∙ b in
    let longer = spaced_longer (first ts (i + n)) rest in
    subst (λ (m : ℕ). size_to ts i ≤ size_to ts m) e
    (omega (arith, shorter, longer, ap (λ (l : List ℕ). length (spaced_list l)) more))

size_within : (ts : List ℕ) (i : ℕ) → i ≤ length ts → size_to ts i ≤ length (spaced_list (once eqb ts))
size_within ts i h =
    let e : i + (length ts - i) ≡ length ts = omega arith in
    let all = ap (λ (l : List ℕ). length (spaced_list l)) (first_all ts (i + (length ts - i)) (omega arith)) in
    omega (arith, size_later ts i (length ts - i) (omega arith), all)

holds_first : (ts : List ℕ) {bits : List ℕ} → Holds bits [] → Holds bits (first ts 0)
holds_first ts {bits} h = subst (Holds bits) (sym (first_none ts)) h

holds_more : (ts : List ℕ) (i : ℕ) {bits bits' : List ℕ} → i < length ts → Met bits bits' (word ts i)
    → Holds bits (first ts i) → Holds bits' (first ts (i + 1))
holds_more ts i {bits' = bits'} k m h = subst (Holds bits') (sym (first_more ts i k)) (meets h m)

-- no others are marked
pub only_first : (ts : List ℕ) (i : ℕ) {bits : List ℕ} → length ts ≤ i → Holds bits (first ts i) → Only bits ts
only_first ts i {bits} k h = only_holds (subst (Holds bits) (first_all ts i k) h)

-- ---- counting their bytes

-- the first i successors take n bytes, and are marked
pub record Counted (ts : List ℕ) (i n : ℕ) (bits : List ℕ) : Type 0 where
  pub right : n ≡ length (spaced_list (first ts i))
  pub few : n ≤ 11 * i
  pub holds : Holds bits (first ts i)

pub counted_start : (ts : List ℕ) {bits : List ℕ} → Holds bits [] → Counted ts 0 0 bits
unfolding spaced_list
counted_start ts h =
    record {
      right = sym (ap (λ (l : List ℕ). length (spaced_list l)) (first_none ts));
      few = omega arith;
      holds = holds_first ts h;
    }

pub counted_more : (ts : List ℕ) (i : ℕ) {n r : ℕ} {bits bits' : List ℕ} → i < length ts → Counted ts i n bits
    → r ≡ length (unless (marked bits (word ts i)) (32 ∷ decimal (word ts i))) → r ≤ 11 → Met bits bits' (word ts i)
    → Counted ts (i + 1) (n + r) bits'
counted_more ts i {bits = bits} h k e l m =
    let longer = ap (λ (l : List ℕ). length (spaced_list l)) (first_more ts i h) in
    record {
      right = omega (arith, k.right, e, length_met bits (first ts i) (word ts i) k.holds, longer);
      few = omega (arith, k.few);
      holds = holds_more ts i h m k.holds;
    }

-- ---- writing them

-- the first i successors are appended, and are marked; this byte comes before the next
pub record Listing (ts : List ℕ) (i s : ℕ) (bits : List ℕ) (text text₀ : Text) : Type 0 where
  pub wrote : Appended (spaced_list (first ts i)) text₀ text
  pub next : s ≡ separator (first ts i)
  pub holds : Holds bits (first ts i)

pub listing_start : (ts : List ℕ) {bits : List ℕ} {text : Text} → Holds bits [] → Listing ts 0 32 bits text text
unfolding spaced_list separator
listing_start ts h =
    record {
      wrote = appended_as (sym (ap spaced_list (first_none ts))) appended_none;
      next = sym (ap separator (first_none ts));
      holds = holds_first ts h;
    }

module _ (ts : List ℕ) (i : ℕ) {s : ℕ} {bits : List ℕ} {text text₀ : Text} (h : i < length ts)
    (k : Listing ts i s bits text text₀) where
  listing_text : spaced_list (first ts (i + 1))
      ≡ spaced_list (first ts i) ++ unless (marked bits (word ts i)) (s ∷ decimal (word ts i))
  listing_text =
      ap spaced_list (first_more ts i h)
      ∙ spaced_met bits (first ts i) (word ts i) k.holds
      ∙ ap
      (λ (x : ℕ). spaced_list (first ts i) ++ unless (marked bits (word ts i)) (x ∷ decimal (word ts i)))
      (sym k.next)

  -- there is room for the next one
  pub listing_room : Room text₀ (spaced_list (once eqb ts))
      → Room text (unless (marked bits (word ts i)) (s ∷ decimal (word ts i)))
  listing_room r =
      let number = unless (marked bits (word ts i)) (s ∷ decimal (word ts i)) in
      omega (
        arith,
        r,
        k.wrote.long,
        k.wrote.wrote.past,
        size_within ts (i + 1) (omega arith),
        ap length listing_text,
        length-append (spaced_list (first ts i)) number,
      )

  pub listing_more : {r : ℕ} {bits' : List ℕ} {text' : Text}
      → Appended (unless (marked bits (word ts i)) (s ∷ decimal (word ts i))) text text'
      → r ≡ cond (marked bits (word ts i)) s 44 → Met bits bits' (word ts i) → Listing ts (i + 1) r bits' text' text₀
  listing_more w e m =
      let met = separator_met bits (first ts i) (word ts i) k.holds in
      record {
        wrote = appended_as (sym listing_text) (appended_both k.wrote w);
        next =
            e
            ∙ ap (λ (x : ℕ). cond (marked bits (word ts i)) x 44) k.next
            ∙ sym met
            ∙ ap separator (sym (first_more ts i h));
        holds = holds_more ts i h m k.holds;
      }
