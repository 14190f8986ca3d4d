-- The text of a game, line after line, and that no text is long. Assumes nothing.
use mathlib.Core.Path.{◌≡◌, refl, sym, ap, ◌∙◌}
use mathlib.Core.List.{List, [], ◌∷◌, ◌++◌, map}
use mathlib.Core.Logic.{inl, inr}
use Prim.Native.Nat.{ℕ, zero, suc, ◌+◌, ◌*◌, ◌-◌, ◌≤◌, ◌<◌}
use native.Mathlib.Numerals.{add-one}
use native.Mathlib.Omega.{arith}
use lib.ListN.{length, length-append}
use lib.Dec.{eqb}
use Rattle.rules.specs.Lists.{In, from, once}
use Rattle.rules.specs.Game.{vertex_count, edges_in, owner_in, priority_in, offset_in, targets_in}
use Rattle.rules.specs.Texts.{decimal}
use Rattle.rules.specs.Pgsolver.{parity_word, header_text, comma_text, line_text, lines_text, spelled}
use Rattle.rules.specs.PgsolverWriting.{line_in, text_in, game_text}
use Rattle.lists.proofs.Inserts.{once_in, once_length}
use Rattle.lists.proofs.Equalities.{number_equality}
use Rattle.restrictions.proofs.Accepted.{degree, target_below}
use Rattle.game_texts.proofs.Decimals.{decimal-word}
use Rattle.pgsolver_writer.specs.Successors.{Writable, spaced_list}
use Rattle.pgsolver_writer.proofs.Lines.{line_parts, line_size}

-- ---- the lines from v on

unfoldable pub lines_from : List ℕ → ℕ → List ℕ
lines_from g v = lines_text (map (line_in g) (from v (vertex_count g - v)))

pub lines_more : (g : List ℕ) (v : ℕ) → v < vertex_count g
    → lines_from g v ≡ line_text (line_in g v) ++ lines_from g (v + 1)
unfolding lines_from lines_text from
lines_more g v h =
    let rest = vertex_count g - (v + 1) in
    let e : vertex_count g - v ≡ suc rest = omega arith in
    ap (λ (k : ℕ). lines_text (map (line_in g) (from v k))) e
    ∙ ap (λ (k : ℕ). line_text (line_in g v) ++ lines_text (map (line_in g) (from k rest))) (sym (add-one v))

pub lines_none : (g : List ℕ) (v : ℕ) → vertex_count g ≤ v → lines_from g v ≡ []
unfolding lines_from lines_text from
lines_none g v h =
    let e : vertex_count g - v ≡ 0 = omega arith in
    ap (λ (k : ℕ). lines_text (map (line_in g) (from v k))) e

-- ---- the first line

pub header_stretches : (h : ℕ) → header_text h ≡ parity_word ++ (decimal h ++ (59 ∷ 10 ∷ []))
unfolding header_text
header_stretches h = refl

pub header_size : (h : ℕ) → length (header_text h) ≡ length (decimal h) + 9
unfolding header_text parity_word
header_size h = omega (arith, length-append (decimal h) (59 ∷ 10 ∷ []))

pub text_stretches : (g : List ℕ) (h : ℕ) → h ≡ vertex_count g - 1 → game_text g ≡ header_text h ++ lines_from g 0
unfolding game_text spelled text_in lines_from
text_stretches g h e =
    let z : vertex_count g ≡ vertex_count g - 0 = omega arith in
    ap (λ (k : ℕ). header_text k ++ lines_text (map (line_in g) (from 0 (vertex_count g)))) (sym e)
    ∙ ap (λ (k : ℕ). header_text h ++ lines_text (map (line_in g) (from 0 k))) z

pub text_size : (g : List ℕ) (h : ℕ) → h ≡ vertex_count g - 1
    → length (game_text g) ≡ length (header_text h) + length (lines_from g 0)
text_size g h e = ap length (text_stretches g h e) ∙ length-append (header_text h) (lines_from g 0)

-- ---- counting the bytes

pub size_start : (g : List ℕ) (n d : ℕ) → n ≡ vertex_count g → d ≡ length (decimal (n - 1))
    → d + 9 + length (lines_from g 0) ≡ length (game_text g)
size_start g n d e f =
    let h : n - 1 ≡ vertex_count g - 1 = omega arith in
    omega (arith, text_size g (n - 1) h, header_size (n - 1))

pub size_more : (g : List ℕ) (v size l : ℕ) → v < vertex_count g → l ≡ length (line_text (line_in g v))
    → size + length (lines_from g v) ≡ length (game_text g)
    → size + l + length (lines_from g (v + 1)) ≡ length (game_text g)
size_more g v size l h e f =
    omega (arith, ap length (lines_more g v h), length-append (line_text (line_in g v)) (lines_from g (v + 1)))

pub size_done : (g : List ℕ) (v size : ℕ) → vertex_count g ≤ v → size + length (lines_from g v) ≡ length (game_text g)
    → size ≡ length (game_text g)
size_done g v size h f = omega (arith, ap length (lines_none g v h))

-- ---- no text is long

commas_short : (ns : List ℕ) → ((n : ℕ) → In n ns → n < 4_294_967_296) → length (comma_text ns) ≤ 11 * length ns
unfolding comma_text
commas_short [] h = omega arith
commas_short (n ∷ ns) h =
    let rest = commas_short ns (λ m i. h m (inr i)) in
    omega (arith, length-append (decimal n) (comma_text ns), decimal-word n (h n (inl refl)), rest)

spaced_short : (ns : List ℕ) → ((n : ℕ) → In n ns → n < 4_294_967_296) → length (spaced_list ns) ≤ 11 * length ns
unfolding spaced_list
spaced_short [] h = omega arith
spaced_short (n ∷ ns) h =
    let rest = commas_short ns (λ m i. h m (inr i)) in
    omega (arith, length-append (decimal n) (comma_text ns), decimal-word n (h n (inl refl)), rest)

module _ (g : List ℕ) (w : Writable g) where
  successors_short : (v : ℕ) → v < vertex_count g
      → length (spaced_list (once eqb (targets_in g v))) ≤ 11 * length (targets_in g v)
  successors_short v h =
      omega (arith, once_length number_equality (targets_in g v), spaced_short (once eqb (targets_in g v)) small)
    where
      small : (n : ℕ) → In n (once eqb (targets_in g v)) → n < 4_294_967_296
      small n i =
          let target = (once_in number_equality (targets_in g v) n).0 i in
          omega (arith, w.good.few, target_below g w.good v h n target)

  line_short : (v : ℕ) → v < vertex_count g → length (line_text (line_in g v)) ≤ 34 + 11 * length (targets_in g v)
  line_short v h =
      omega (
        arith,
        ap length (line_parts g w v h),
        line_size v (priority_in g v) (owner_in g v) (targets_in g v),
        decimal-word v (omega (arith, w.good.few)),
        decimal-word (priority_in g v) (w.words _),
        decimal-word (owner_in g v) (w.words _),
        successors_short v h,
      )

  lines_short : (k v : ℕ) → v + k ≡ vertex_count g
      → length (lines_from g v) + 11 * offset_in g v ≤ 34 * k + 11 * edges_in g
  lines_short zero v e =
      let z : v ≡ vertex_count g = omega arith in
      omega (arith, ap length (lines_none g v (omega arith)), ap (offset_in g) z, w.good.ends)
  lines_short (suc k) v e =
      omega (
        arith,
        lines_short k (v + 1) (omega arith),
        ap length (lines_more g v (omega arith)),
        length-append (line_text (line_in g v)) (lines_from g (v + 1)),
        line_short v (omega arith),
        ap (offset_in g) (add-one v),
        degree g w.good v (omega arith),
      )

  pub text_short : length (game_text g) < 4_294_967_296
  text_short =
      let highest = vertex_count g - 1 in
      omega (
        arith,
        text_size g highest refl,
        header_size highest,
        decimal-word highest (omega (arith, w.good.few)),
        lines_short (vertex_count g) 0 (omega arith),
        w.good.few,
        w.good.light,
      )
