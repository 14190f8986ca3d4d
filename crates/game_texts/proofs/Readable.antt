-- A text that is not refused, and the vertices that are read from it: how many, and which line gives which. Assumes
-- nothing.
use Prim.Native.Nat.{ℕ, suc, ◌+◌, ◌≤◌, ◌<◌}
use native.Mathlib.Omega.{arith}
use mathlib.Core.Path.{◌≡◌, refl, sym, ap, ◌∙◌}
use mathlib.Core.Bool.{not}
use mathlib.Core.List.{List, map}
use mathlib.Core.Option.{Option, none, some}
use lib.ListN.{length, get_or, length-map}
use lib.Dec.{ltb}
use borrow.Author.Tests.{ltb-true, ltb-false, not-false}
use Rattle.rules.specs.declared.Answer.TheVariants.{Refused}
use Rattle.std.specs.declared.result.Result.TheVariants.{Ok}
use Rattle.rules.specs.Answers.{fault}
use Rattle.rules.specs.declared.Room.{Room}
use Rattle.rules.specs.Lists.{In, from}
use Rattle.rules.specs.Words.{game_length}
use Rattle.rules.specs.Answers.{and_then, first_fault}
use Rattle.rules.specs.Game.{Vertex, edge_count, game_of}
use Rattle.rules.specs.Refusal.{outside, refusal1}
use Rattle.rules.specs.Pgsolver.{SolverLine, SolverText}
use Rattle.rules.specs.PgsolverParse.{parse}
use Rattle.rules.specs.PgsolverReading.{vertex_of, vertex_named, read_vertices, all, refusal92, refusal93, text_refusal}
use Rattle.rules.specs.PgsolverReading.{reading_refusal, vertices_in, read_as, read_or, read_game}
use Rattle.lists.proofs.Tests.{or-false}
use Rattle.lists.proofs.Members.{in_map, map_at}
use Rattle.lists.proofs.Ranges.{from-length, from_at}
use Rattle.tables.proofs.Choices.{differ_no, differ_false, outside_false}
use Rattle.tables.proofs.Faults.{passed_not_fault, if-false, if_passed, first_passed, then_both}
use Rattle.games.proofs.Reading.{length_read}
use Rattle.game_texts.proofs.Exact.{all_holds, in_word, Passes92, passed92, none-missing}
use Rattle.game_texts.proofs.Numbered.{named, as_many}

-- the bytes say t, and are not refused in room r with a game slice of n words
pub record Readable (r : Room) (bytes : List ℕ) (n : ℕ) (t : SolverText) : Type 0 where
  pub parsed : parse bytes ≡ some t
  pub room : refusal1 r ≡ Ok tt
  pub long : n ≡ game_length r
  pub numbered : refusal92 t ≡ Ok tt
  pub sized : refusal93 r t ≡ Ok tt

pub reading_readable : (r : Room) (bytes : List ℕ) (n : ℕ) → reading_refusal r bytes n ≡ Ok tt
    → (t : SolverText) × Readable r bytes n t
unfolding reading_refusal text_refusal
reading_readable r bytes n e = go (parse bytes) refl (first_passed _ e 2)
  where
    go : (m : Option SolverText) → parse bytes ≡ m → text_refusal r m ≡ Ok tt → (t : SolverText) × Readable r bytes n t
    go none q f = absurd (passed_not_fault (sym f))
    go (some t) q f =
        let (a, b) = then_both (refusal92 t) (refusal93 r t) f in (
          t,
          record {
            parsed = q;
            room = first_passed _ e 0;
            long = differ_false n (game_length r) (if_passed 2 0 _ (first_passed _ e 1));
            numbered = a;
            sized = b;
          },
        )

-- ---- what is read

module _ (r : Room) (bytes game : List ℕ) where
  pub readable_done : (t : SolverText) → Readable r bytes (length game) t
      → read_game r bytes game ≡ read_as (read_vertices t) game
  unfolding read_game read_or reading_refusal first_fault text_refusal vertices_in and_then
  readable_done t c = rw (c.parsed, c.room, if-false 2 0 (differ_no c.long), c.numbered, c.sized) refl

  pub reading_refused : (n p : ℕ) → reading_refusal r bytes (length game) ≡ fault n p
      → read_game r bytes game ≡ record { answer = Refused n p; game = game }
  unfolding read_game read_or
  reading_refused n p e = rw e refl

-- ---- the vertices

module _ {r : Room} {bytes : List ℕ} {n : ℕ} (t : SolverText) (c : Readable r bytes n t) where
  pub read_passes : Passes92 t
  read_passes = passed92 t c.numbered

  pub read_length : length (read_vertices t) ≡ suc t.highest
  unfolding read_vertices
  read_length = length-map (from 0 (suc t.highest)) (vertex_named t.lines) ∙ from-length 0 (suc t.highest)

  -- the line of a vertex
  pub line_of : (v : ℕ) → v ≤ t.highest → (l : SolverLine) × In l t.lines × (l.number ≡ v)
  line_of v h =
      let (l, i, e) = in_map (λ (l : SolverLine). l.number) v t.lines (none-missing t read_passes v h) in
      (l, i, sym e)

  -- the vertex of a line
  pub read_at_lem : (l : SolverLine) → In l t.lines → (d : Vertex) → get_or (read_vertices t) l.number d ≡ vertex_of l
  unfolding read_vertices
  read_at_lem l i d =
      let h : l.number < suc t.highest = omega (arith, (read_passes.inside l i).0) in
      let e : 0 + l.number ≡ l.number = omega arith in
      map_at (vertex_named t.lines) (from 0 (suc t.highest)) l.number 0 d
      (omega (arith, from-length 0 (suc t.highest)))
      ∙ ap (vertex_named t.lines) (from_at 0 (suc t.highest) l.number 0 h ∙ e)
      ∙ named t.lines l read_passes.apart i

  -- ---- what 93 and 1 leave

  pub read_few : (suc t.highest ≤ r.vertices) × (edge_count (read_vertices t) ≤ r.edges)
  unfolding refusal93 read_vertices
  read_few =
      let (a, b) = or-false (ltb r.vertices (suc t.highest)) _ (if_passed 93 0 _ c.sized) in
      let (x, y) = or-false (not (all in_word t.lines)) _ b in (
        ltb-false r.vertices (suc t.highest) a,
        omega (arith, ltb-false r.edges (edge_count (map vertex_of t.lines)) y, as_many t read_passes),
      )

  pub read_priorities : (l : SolverLine) → In l t.lines → l.priority < 4_294_967_296
  unfolding refusal93
  read_priorities l i =
      let (a, b) = or-false (ltb r.vertices (suc t.highest)) _ (if_passed 93 0 _ c.sized) in
      let (x, y) = or-false (not (all in_word t.lines)) _ b in
      ltb-true l.priority 4_294_967_296
      (all_holds in_word t.lines (not-false _ x) l i)

  pub room_most : (r.vertices ≤ 1_048_576) × (r.edges ≤ 4_194_304)
  unfolding refusal1
  room_most =
      let (a, b) = or-false (outside 1 1_048_576 r.vertices) (outside 1 4_194_304 r.edges)
      (if_passed 1 0 _ c.room) in
      ((outside_false 1 1_048_576 r.vertices a).1, (outside_false 1 4_194_304 r.edges b).1)

  -- the words fit
  pub read_fits : length (game_of 0 (read_vertices t)) ≤ n
  unfolding game_length
  read_fits =
      omega (arith, length_read 0 (read_vertices t), read_length, read_few.0, read_few.1, c.long)
