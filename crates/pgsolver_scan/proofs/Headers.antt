-- Reading given bytes and the header at a place of the text. Assumes nothing.
use Prim.Native.Nat.{ℕ, ◌+◌, ◌-◌, ◌<◌}
use native.Mathlib.Omega.{arith}
use mathlib.Core.Path.{◌≡◌, refl, sym, ap, ◌∙◌, subst}
use mathlib.Core.Bool.{Bool, true, false, cond}
use mathlib.Core.List.{List, [], ◌∷◌}
use mathlib.Core.Option.{none, some}
use borrow.Author.Tests.{eqb-true, eqb-false, eq-eqb, ne_eqb}
use lib.ListN.{length, drop, take}
use Rattle.std.proofs.lemmas.List.{drop-drop, take_rest}
use lib.Dec.{eqb}
use Rattle.rules.specs.TextReading.{front, then_read, read_byte, read_bytes, read_field}
use Rattle.rules.specs.Pgsolver.{parity_word}
use Rattle.rules.specs.PgsolverParse.{read_header}
use Rattle.std.specs.Prelude.{Some, None}
use Rattle.std.specs.declared.option.Option.{Option as Answer}
use Rattle.std.specs.List.{starts_with}
use Rattle.game_texts.proofs.Parsing.{then-read}
use Rattle.pgsolver_scan.specs.declared.Number.{Number}
use Rattle.pgsolver_scan.specs.Told.{since, Told, Followed}
use Rattle.pgsolver_scan.proofs.Reading.{then_none, when_true, when_false}

-- ---- given bytes, one by one

-- the bytes at the front are these
pub bytes_front : (bytes ts : List ℕ) → read_bytes bytes ts
    ≡ cond (starts_with eqb ts bytes) (some (drop (length bytes) ts)) none
unfolding read_bytes read_byte then_read
bytes_front [] ts = refl
bytes_front (c ∷ cs) [] = refl
bytes_front (c ∷ cs) (t ∷ ts) = go (eqb t c) refl (bytes_front cs ts)
  where
    go : (b : Bool) → eqb t c ≡ b
        → read_bytes cs ts ≡ cond (starts_with eqb ts cs) (some (drop (length cs) ts)) none
        → then_read (cond (eqb t c) (some ts) none) (read_bytes cs)
        ≡ cond (starts_with eqb (t ∷ ts) (c ∷ cs)) (some (drop (length cs) ts)) none
    go true e r = rw (e, eq-eqb c t (sym (eqb-true t c e))) r
    go false e r = rw (e, ne_eqb c t (λ f. eqb-false t c e (sym f))) refl

pub bytes_told : (text : List ℕ) (p n : ℕ) (bytes : List ℕ) (b : Bool) → length bytes ≡ n
    → b ≡ starts_with eqb (take (length text - p) (drop p text)) bytes
    → read_bytes bytes (since text p) ≡ cond b (some (since text (p + n))) none
bytes_told text p n bytes b e f =
    bytes_front bytes (since text p)
    ∙ ap (λ (c : Bool). cond c (some (drop (length bytes) (since text p))) none)
    (sym (f ∙ ap (λ (ts : List ℕ). starts_with eqb ts bytes) (take_rest text p)))
    ∙ ap (λ (ts : List ℕ). cond b (some ts) none) (drop-drop (length bytes) p text ∙ ap (λ (k : ℕ). since text (p + k)) e)

-- ---- the header

module _ (text : List ℕ) {b : Bool} (e : read_bytes parity_word text ≡ cond b (some (since text 7)) none) where
  pub header_lost : b ≡ false → read_header text ≡ none
  unfolding read_header
  header_lost f = then_none _ (when_false _ _ _ e f)

  module _ (f : b ≡ true) where
    pub header_not : read_field 59 (since text 7) ≡ none → read_header text ≡ none
    unfolding read_header
    header_not t = then-read _ (since text 7) (when_true _ _ _ e f) ∙ then_none _ t

    module _ (x : Number) (t : Told (Some x) (read_field 59 (since text 7)) text) {d : Bool}
        (h : read_byte 10 (since text x.next) ≡ cond d (some (since text (x.next + 1))) none) where
      pub header_bad : d ≡ false → read_header text ≡ none
      unfolding read_header
      header_bad k =
          then-read _ (since text 7) (when_true _ _ _ e f)
          ∙ then-read _ (front t.0 (since text x.next)) t.1 ∙ then_none _ (when_false _ _ _ h k)

      pub header_told : d ≡ true → x.next < length text
          → Told (Some (record { value = x.value; next = x.next + 1 })) (read_header text) text
      unfolding read_header
      header_told k l = (
        t.0,
        then-read _ (since text 7) (when_true _ _ _ e f)
            ∙ then-read _ (front t.0 (since text x.next)) t.1
            ∙ then-read _ (since text (x.next + 1)) (when_true _ _ _ h k),
        t.2,
        omega arith,
      )

    pub header_followed : (x : Number) → Told (Some x) (read_field 59 (since text 7)) text → (r : Answer Number)
        → Followed r x 10 text → Told r (read_header text) text
    header_followed x t (Some y) (e', h, g) =
        subst (λ y. Told (Some y) (read_header text) text) (sym e') (header_told x t {d = true} g refl h)
    header_followed x t None g = header_bad x t {d = false} g refl
