-- Reading a name at a place of the text. Assumes nothing.
use Prim.Native.Nat.{ℕ, zero, suc, ◌+◌, ◌-◌, ◌≤◌, ◌<◌}
use native.Mathlib.Omega.{arith}
use native.Mathlib.Decide.{dec_lt}
use mathlib.Core.Path.{◌≡◌, refl, sym, ap, ◌∙◌, subst}
use mathlib.Core.Bool.{Bool, true, false, cond}
use mathlib.Core.List.{List, [], ◌∷◌, ◌++◌}
use mathlib.Core.Logic.{◌⊎◌, ⊎_elim}
use mathlib.Core.Option.{Option, none, some}
use lib.ListN.{length}
use borrow.Author.Tests.{eq-eqb, ne_eqb}
use Rattle.rules.specs.Lists.{word}
use Rattle.rules.specs.TextReading.{front, read_byte, with_first}
use Rattle.rules.specs.PgsolverParse.{read_name, read_named}
use Rattle.game_texts.proofs.Parsing.{then-read}
use Rattle.std.specs.Prelude.{Some, None}
use Rattle.std.specs.declared.option.Option.{Option as Answer}
use Rattle.pgsolver_scan.specs.Told.{since, Lacks, ToldSkip}
use Rattle.pgsolver_scan.proofs.Scanning.{since-cons, since_end}
use Rattle.pgsolver_scan.proofs.Blocks.{lacks_less}
use Rattle.pgsolver_scan.proofs.Reading.{then_none, when_true, when_false}
use Rattle.pgsolver_scan.proofs.Reading.{with_all, with_snoc, with_done, with_none}

-- ---- the bytes of a name

name_byte : (text : List ℕ) (q : ℕ) → q < length text → ¬ (word text q ≡ 34) → ¬ (word text q ≡ 10)
    → read_name (since text q) ≡ with_first (word text q) (read_name (since text (q + 1)))
unfolding read_name
name_byte text q h a b =
    ap read_name (since-cons text q h) ∙ rw (ne_eqb (word text q) 34 a, ne_eqb (word text q) 10 b) refl

name_quote : (text : List ℕ) (q : ℕ) → q < length text → word text q ≡ 34
    → read_name (since text q) ≡ some (front [] (since text (q + 1)))
unfolding read_name
name_quote text q h e = ap read_name (since-cons text q h) ∙ rw (eq-eqb (word text q) 34 e) refl

name_newline : (text : List ℕ) (q : ℕ) → q < length text → ¬ (word text q ≡ 34) → word text q ≡ 10
    → read_name (since text q) ≡ none
unfolding read_name
name_newline text q h a e =
    ap read_name (since-cons text q h) ∙ rw (ne_eqb (word text q) 34 a, eq-eqb (word text q) 10 e) refl

name_past : (text : List ℕ) (q : ℕ) → length text ≤ q → read_name (since text q) ≡ none
unfolding read_name
name_past text q h = ap read_name (since_end text q h)

-- bytes of a name from p up to q were read
pub record Naming (text : List ℕ) (p q : ℕ) : Type 0 where
  pub bytes : List ℕ
  pub within : q ≤ length text
  pub left : read_name (since text p) ≡ with_all bytes (read_name (since text q))

naming_start : (text : List ℕ) (p : ℕ) → p ≤ length text → Naming text p p
unfolding with_all
naming_start text p h = record { bytes = []; within = h; left = refl }

module _ {text : List ℕ} {p q : ℕ} (k : Naming text p q) where
  pub naming_more : q < length text → ¬ (word text q ≡ 34) → ¬ (word text q ≡ 10) → Naming text p (q + 1)
  naming_more h a b =
      record {
        bytes = k.bytes ++ (word text q ∷ []);
        within = omega arith;
        left =
            k.left ∙ ap (with_all k.bytes) (name_byte text q h a b)
            ∙ sym (with_snoc k.bytes (word text q) (read_name (since text (q + 1))));
      }

  pub naming_done : q < length text → word text q ≡ 34 → ToldSkip (Some (q + 1)) (read_name (since text p)) text
  naming_done h e = (
    k.bytes,
    k.left ∙ ap (with_all k.bytes) (name_quote text q h e) ∙ with_done k.bytes (since text (q + 1)),
    omega arith,
  )

  pub naming_line : q < length text → ¬ (word text q ≡ 34) → word text q ≡ 10 → read_name (since text p) ≡ none
  naming_line h a e = k.left ∙ ap (with_all k.bytes) (name_newline text q h a e) ∙ with_none k.bytes

  pub naming_end : length text ≤ q → read_name (since text p) ≡ none
  naming_end h = k.left ∙ ap (with_all k.bytes) (name_past text q h) ∙ with_none k.bytes

-- bytes that are neither a quote nor a newline are bytes of a name
naming_on : (n : ℕ) (text : List ℕ) (p : ℕ) → Lacks text p (p + n) 34 10 → Naming text p (p + n)
naming_on zero text p l =
    let e : p ≡ p + zero = omega arith in
    subst (Naming text p) e (naming_start text p (omega (arith, l.within)))
naming_on (suc n) text p l =
    let (a, b) = l.free (p + n) (omega arith) (omega arith) in
    let e : p + n + 1 ≡ p + suc n = omega arith in
    subst (Naming text p) e
    (naming_more (naming_on n text p (lacks_less l (omega arith) (omega arith))) (omega (arith, l.within)) a b)

pub naming_lacks : (text : List ℕ) (p q : ℕ) → Lacks text p q 34 10 → Naming text p q
naming_lacks text p q l =
    let e : p + (q - p) ≡ q = omega (arith, l.ordered) in
    subst (Naming text p) e
    (naming_on (q - p) text p (subst (λ (r : ℕ). Lacks text p r 34 10) (sym e) l))

pub newline_there : (c : ℕ) → ¬ (c ≡ 34) → (c ≡ 34) ⊎ (c ≡ 10) → c ≡ 10
newline_there c n e = ⊎_elim (λ f. absurd (n f)) (λ f. f) e

-- ---- a space and a name

-- no space, no name
pub named_end : (text : List ℕ) (p : ℕ) → p ≤ length text → (p < length text → ¬ (word text p ≡ 32))
    → ToldSkip {A = Option (List ℕ)} (Some p) (read_named (since text p)) text
unfolding read_named
named_end text p w f = (none, go (dec_lt p (length text)), w)
  where
    go : Dec (p < length text) → read_named (since text p) ≡ some (front none (since text p))
    go (yes h) =
        ap read_named (since-cons text p h)
        ∙ rw (ne_eqb (word text p) 32 (f h)) (ap (λ (ts : List ℕ). some (front none ts)) (sym (since-cons text p h)))
    go (no h) =
        let past = since_end text p (omega arith) in
        ap read_named past ∙ ap (λ (ts : List ℕ). some (front none ts)) (sym past)

quoted : (text : List ℕ) (p : ℕ) (b : Bool)
    → read_byte 34 (since text (p + 1)) ≡ cond b (some (since text (p + 1 + 1))) none
    → read_byte 34 (since text (p + 1)) ≡ cond b (some (since text (p + 2))) none
quoted text p b f =
    let z : p + 1 + 1 ≡ p + 2 = omega arith in
    subst (λ (k : ℕ). read_byte 34 (since text (p + 1)) ≡ cond b (some (since text k)) none) z f

module _ (text : List ℕ) (p : ℕ) {b : Bool} (h : p < length text) (e : word text p ≡ 32)
    (f : read_byte 34 (since text (p + 1)) ≡ cond b (some (since text (p + 1 + 1))) none) where
  pub named_bad : b ≡ false → read_named (since text p) ≡ none
  unfolding read_named
  named_bad g =
      ap read_named (since-cons text p h)
      ∙ rw (eq-eqb (word text p) 32 e) (then_none _ (when_false _ _ _ (quoted text p b f) g))

  pub named_told : (s : Answer ℕ) → b ≡ true → ToldSkip {A = List ℕ} s (read_name (since text (p + 2))) text
      → ToldSkip {A = Option (List ℕ)} s (read_named (since text p)) text
  unfolding read_named
  named_told (Some q) g (cs, a, w) = (
    some cs,
    ap read_named (since-cons text p h)
        ∙ rw (eq-eqb (word text p) 32 e)
        (then-read _ (since text (p + 2)) (when_true _ _ _ (quoted text p b f) g)
        ∙ then-read _ (front cs (since text q)) a),
    w,
  )
  named_told None g a =
      ap read_named (since-cons text p h)
      ∙ rw (eq-eqb (word text p) 32 e)
      (then-read _ (since text (p + 2)) (when_true _ _ _ (quoted text p b f) g) ∙ then_none _ a)
