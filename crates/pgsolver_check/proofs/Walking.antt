-- A pass over the lines of a readable text: those up to a place were passed. Assumes nothing.
use Prim.Native.Nat.{ℕ, ◌+◌, ◌≤◌, ◌<◌}
use native.Mathlib.Omega.{arith}
use mathlib.Core.Path.{◌≡◌, refl, sym, ap, ◌∙◌, subst}
use mathlib.Core.Bool.{Bool, true, false, cond}
use mathlib.Core.List.{List, [], ◌∷◌, ◌++◌, map, append-nil, append_assoc}
use mathlib.Core.Logic.{inl}
use mathlib.Core.Option.{Option, none, some}
use lib.ListN.{length, drop, length-append, length-drop}
use lib.Seq.{drop-drop, drop-append_seam}
use lib.Dec.{ltb}
use borrow.Author.Tests.{ltb-false}
use Rattle.rules.specs.Lists.{In}
use Rattle.rules.specs.Pgsolver.{SolverLine, line_text}
use Rattle.rules.specs.TextReading.{Front, front, read_bytes, read_field}
use Rattle.rules.specs.PgsolverParse.{read_owner, read_list, read_named, read_line, with_line}
use Rattle.lists.proofs.Members.{in_right, map_in}
use Rattle.game_texts.proofs.Parsing.{some_same, then_some, line_sound}
use Rattle.pgsolver_scan.specs.declared.Number.{Number}
use Rattle.std.specs.Prelude.{Some}
use Rattle.pgsolver_scan.specs.Told.{saturated, since, past_line, Told}
use Rattle.pgsolver_scan.proofs.Lines.{end_behind}
use Rattle.pgsolver_scan.proofs.PastLines.{line_ends}
use Rattle.pgsolver_check.specs.Lines.{lines_at, lines_from, top_of, tops_of, Readable, Body}
use Rattle.pgsolver_check.proofs.Surveying.{line_later, lines_more, lines_broken, lines_end}
use Rattle.pgsolver_check.proofs.Bounding.{in_largest}

-- ---- the parts of a line that was read

none-some : {A : Type 0} {a : A} → none ≡ some a → ⊥
none-some {A} {a} e = let z : ◌≡◌ {A = ℕ} 0 1 = cc in omega arith

owner_field : (ts : List ℕ) (o : Front ℕ) → read_owner ts ≡ some o → (read_field 32 ts ≡ some o) × (o.value ≤ 1)
unfolding read_owner
owner_field ts o e =
    let (u, d, f) = then_some (read_field 32 ts) (λ o. cond (ltb 1 o.value) none (some o)) o e in
    go u d (ltb 1 u.value) refl f
  where
    go : (u : Front ℕ) → read_field 32 ts ≡ some u → (b : Bool) → ltb 1 u.value ≡ b → cond b none (some u) ≡ some o
        → (read_field 32 ts ≡ some o) × (o.value ≤ 1)
    go u d true t f = absurd (none-some f)
    go u d false t f = (d ∙ f, subst (λ (k : Front ℕ). k.value ≤ 1) (some_same f) (ltb-false 1 u.value t))

pub line_body : (ts : List ℕ) (l : Front SolverLine) → read_line ts ≡ some l
    → (f : Front ℕ) × (read_field 32 ts ≡ some f) × (f.value ≡ l.value.number) × Body f.rest l.value
unfolding read_line
line_body ts l e =
    let (v, e1, f1) = then_some (read_field 32 ts) _ l e in
    let (p, e2, f2) = then_some (read_field 32 v.rest) _ l f1 in
    let (o, e3, f3) = then_some (read_owner p.rest) _ l f2 in
    let (s, e4, f4) = then_some (read_list o.rest) _ l f3 in
    let (n, e5, f5) = then_some (read_named s.rest) _ l f4 in
    let (r, e6, f6) = then_some (read_bytes (59 ∷ 10 ∷ []) n.rest) _ l f5 in
    let said : SolverLine = record {
      number = v.value;
      priority = p.value;
      owner = o.value;
      successors = s.value;
      name = n.value;
    } in
    let q : front said r ≡ l = some_same f6 in
    let (a, b) = owner_field p.rest o e3 in
    let body : Body v.rest said = record {
      ranked = p.rest;
      owned = o.rest;
      listed = s.rest;
      priority = e2;
      owner = a;
      successors = e4;
      small = b;
      ended = end_behind s.rest n r e5 e6;
    } in (
      v,
      e1,
      ap (λ (m : Front SolverLine). m.value.number) q,
      subst
          (λ (m : Front SolverLine). Body v.rest m.value) q body,
    )

-- ---- the next line

-- the first of the lines from p on
pub record Next (text : List ℕ) (p : ℕ) (rest : List SolverLine) : Type 0 where
  pub line : SolverLine
  pub later : List SolverLine
  pub next : ℕ
  pub reads : read_line (since text p) ≡ some (front line (since text next))
  pub inside : next ≤ length text
  pub after : lines_at text next ≡ some later
  pub all : rest ≡ line ∷ later

split_rest : (text : List ℕ) (p next : ℕ) (x : SolverLine) (rest : List SolverLine) → p < length text
    → next ≤ length text
    → read_line (since text p) ≡ some (front x (since text next)) → lines_at text p ≡ some rest
    → (ms : List SolverLine) × (lines_at text next ≡ some ms) × (rest ≡ x ∷ ms)
split_rest text p next x rest h k e f = go (lines_at text next) refl
  where
    go : (m : Option (List SolverLine)) → lines_at text next ≡ m
        → (ms : List SolverLine) × (lines_at text next ≡ some ms) × (rest ≡ x ∷ ms)
    go none g = absurd (differ (sym f ∙ lines_more text p next x h k e ∙ ap (with_line x) g))
      where
        differ : some rest ≡ with_line x none → ⊥
        differ z = let q : some rest ≡ none = unfold with_line in z in none-some (sym q)
    go (some ms) g = (ms, g, same (sym f ∙ lines_more text p next x h k e ∙ ap (with_line x) g))
      where
        same : some rest ≡ with_line x (some ms) → rest ≡ x ∷ ms
        same z = some_same (unfold with_line in z)

pub next_line : (text : List ℕ) (p : ℕ) (rest : List SolverLine) → p < length text → lines_at text p ≡ some rest
    → Next text p rest
next_line text p rest h e = go (read_line (since text p)) refl
  where
    go : (m : Option (Front SolverLine)) → read_line (since text p) ≡ m → Next text p rest
    go none f = absurd (none-some (sym (lines_broken text p h f) ∙ e))
    go (some x) f =
        let spelt : since text p ≡ line_text x.value ++ x.rest = (line_sound (since text p) x f).0 in
        let size : ℕ = length (line_text x.value) in
        let behind : x.rest ≡ since text (p + size)
        = sym (drop-append_seam (line_text x.value) x.rest) ∙ ap (drop size) (sym spelt) ∙ drop-drop size p text in
        let reads : read_line (since text p) ≡ some (front x.value (since text (p + size)))
        = f ∙ ap (λ (r : List ℕ). some (front x.value r)) behind in
        let inside : p + size ≤ length text
        = omega (arith, ap length spelt, length-append (line_text x.value) x.rest, length-drop p text) in
        let (ms, g, k) = split_rest text p (p + size) x.value rest h inside reads e in
        record { line = x.value; later = ms; next = p + size; reads = reads; inside = inside; after = g; all = k }

-- ---- numbers on lines

pub number_top : (ls : List SolverLine) (x : SolverLine) → In x ls → x.number ≤ tops_of ls
unfolding tops_of top_of
number_top ls x i = omega (arith, in_largest (map top_of ls) (top_of x) (map_in top_of x ls i))

pub successor_top : (ls : List SolverLine) (x : SolverLine) → In x ls → (s : ℕ) → In s x.successors → s ≤ tops_of ls
unfolding tops_of top_of
successor_top ls x i s j =
    omega (arith, in_largest (map top_of ls) (top_of x) (map_in top_of x ls i), in_largest x.successors s j)

pub exactly : (n : ℕ) → n < 18446744073709551610 → saturated n ≡ n
unfolding saturated
exactly n h = omega arith

-- ---- the pass

pub record Walk (text : List ℕ) (first p : ℕ) : Type 0 where
  pub ls : List SolverLine
  pub rest : List SolverLine
  pub within : p ≤ length text
  pub here : lines_at text p ≡ some rest
  pub lines : lines_from text first ≡ ls ++ rest

abbrev pub walk_start : {text : List ℕ} {first : ℕ} → Readable text first → Walk text first first
walk_start {text} {first} r =
    record { ls = []; rest = lines_from text first; within = r.within; here = r.lines; lines = refl }

pub walk_done : {text : List ℕ} {first p : ℕ} (w : Walk text first p) → length text ≤ p → lines_from text first ≡ w.ls
walk_done {text} {first} {p} w h =
    w.lines ∙ ap (λ (k : List SolverLine). w.ls ++ k) (some_same (sym w.here ∙ lines_end text p h))
    ∙ append-nil w.ls

module _ {text : List ℕ} {first p : ℕ} (r : Readable text first) (k : Walk text first p) (h : p < length text) where
  unfoldable pub walk-next : Next text p k.rest
  walk-next = next_line text p k.rest h k.here

  pub walk_all : lines_from text first ≡ k.ls ++ (walk-next.line ∷ walk-next.later)
  walk_all = k.lines ∙ ap (λ (z : List SolverLine). k.ls ++ z) walk-next.all

  pub walk_among : In walk-next.line (lines_from text first)
  walk_among =
      subst (λ (z : List SolverLine). In walk-next.line z) (sym walk_all)
      (in_right walk-next.line k.ls (walk-next.line ∷ walk-next.later) (inl refl))

  pub walk_past : past_line text p ≡ walk-next.next
  walk_past = line_ends text p walk-next.next walk-next.line (omega arith) walk-next.inside walk-next.reads

  pub walk_later : p + 2 ≤ past_line text p
  walk_later =
      omega (
        arith,
        walk_past,
        line_later text p walk-next.next walk-next.line (omega arith) walk-next.inside
            walk-next.reads,
      )

  unfoldable pub walk_more : Walk text first (past_line text p)
  walk_more =
      record {
        ls = k.ls ++ (walk-next.line ∷ []);
        rest = walk-next.later;
        within = omega (arith, walk_past, walk-next.inside);
        here = ap (lines_at text) walk_past ∙ walk-next.after;
        lines = walk_all ∙ sym (append_assoc k.ls (walk-next.line ∷ []) walk-next.later);
      }

  -- the number at its front
  walk_exact : saturated walk-next.line.number ≡ walk-next.line.number
  walk_exact =
      exactly walk-next.line.number
      (omega (arith, number_top (lines_from text first) walk-next.line walk_among, r.exact))

  pub walk_unnumbered : read_field 32 (since text p) ≡ none → ⊥
  walk_unnumbered e =
      let (f, b, c, d) = line_body (since text p) (front walk-next.line (since text walk-next.next))
      walk-next.reads in
      none-some (sym e ∙ b)

  -- its number and the place behind it
  pub walk_number : (n : Number) → Told (Some n) (read_field 32 (since text p)) text
      → (n.value ≡ walk-next.line.number) × (n.next ≤ length text) × Body (since text n.next) walk-next.line
  walk_number n (m, g, s, w) =
      let (f, b, c, d) = line_body (since text p) (front walk-next.line (since text walk-next.next))
      walk-next.reads in
      let same : f ≡ front m (since text n.next) = some_same (sym b ∙ g) in
      let number : m ≡ walk-next.line.number = ap (λ (z : Front ℕ). z.value) (sym same) ∙ c in (
        s ∙ ap saturated number ∙ walk_exact,
        w,
        subst (λ (z : Front ℕ). Body z.rest walk-next.line) same d,
      )
