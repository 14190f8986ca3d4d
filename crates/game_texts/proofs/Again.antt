-- What is read from any text that is not refused, written and read again, is the same. Assumes nothing.
use Prim.Native.Nat.{ℕ, suc, ◌≤◌, ◌<◌}
use native.Mathlib.Omega.{arith}
use mathlib.Core.Path.{◌≡◌, sym, ap, ◌∙◌, subst}
use mathlib.Core.List.{List, [], ◌++◌, map, append-nil}
use lib.ListN.{length, get_or, take}
use lib.Dec.{eqb}
use Rattle.rules.specs.declared.Answer.TheVariants.{Done}
use Rattle.std.specs.declared.result.Result.TheVariants.{Ok}
use Rattle.rules.specs.declared.Room.{Room}
use Rattle.rules.specs.Lists.{In, from, once}
use Rattle.rules.specs.FaultyText.{FaultyReading}
use Rattle.rules.specs.Game.{Edge, Vertex, edge_to, blank_vertex, edge_count, game_of, padded, vertex_count}
use Rattle.rules.specs.Game.{priority_in, targets_in}
use Rattle.rules.specs.GameRefusal.{game_refusal}
use Rattle.rules.specs.Pgsolver.{SolverLine, SolverText, ProperLine}
use Rattle.rules.specs.PgsolverReading.{text_vertex, vertex_of, vertex_named, read_vertices, Readback, read_as, read_game}
use Rattle.rules.specs.PgsolverWriting.{game_text, refusal98, writing_refusal, written_game}
use Rattle.lists.proofs.Members.{in_map}
use Rattle.lists.proofs.Inserts.{once_in}
use Rattle.lists.proofs.Equalities.{number_equality}
use Rattle.lists.proofs.Ranges.{in_from}
use Rattle.tables.proofs.Faults.{then_passed}
use Rattle.games.proofs.Columns.{map_same}
use Rattle.games.proofs.Reading.{count_read}
use Rattle.games.proofs.Handed.{owned_passes}
use Rattle.restrictions.specs.Trimmed.{trimmed}
use Rattle.restrictions.proofs.Twice.{trimmed_game}
use Rattle.game_texts.specs.Repeats.{vertex_once, without_repeats, Held}
use Rattle.game_texts.proofs.Parsing.{parse_says}
use Rattle.game_texts.proofs.Exact.{passes98}
use Rattle.game_texts.proofs.Numbered.{named}
use Rattle.game_texts.proofs.Rows.{TextRow}
use Rattle.game_texts.proofs.Saying.{once_once, once_some}
use Rattle.game_texts.proofs.ReadingExact.{reading_passed}
use Rattle.game_texts.proofs.Readable.{Readable, reading_readable, readable_done, read_passes, read_length}
use Rattle.game_texts.proofs.Readable.{line_of, read_at_lem, read_few, read_priorities, room_most}
use Rattle.game_texts.proofs.ReadingDemands.{read_row}
use Rattle.game_texts.proofs.RoundTrip.{written_read}

module _ {r : Room} {bytes : List ℕ} {n : ℕ} (t : SolverText) (c : Readable r bytes n t) where
  abbrev vs : List Vertex
  vs = read_vertices t

  abbrev g : List ℕ
  g = game_of 0 vs

  plain : game_of 0 vs ++ [] ≡ game_of 0 vs
  plain = append-nil (game_of 0 vs)

  counts : vertex_count g ≡ suc t.highest
  counts = subst (λ (x : List ℕ). vertex_count x ≡ length vs) plain (count_read 0 vs []) ∙ read_length t c

  proper : (l : SolverLine) → In l t.lines → ProperLine l
  proper = (parse_says bytes t c.parsed).proper

  -- what is read of the vertex of a line
  row : (l : SolverLine) → In l t.lines → TextRow g l.number l.owner l.priority (once eqb l.successors)
  row l i =
      subst (λ (x : List ℕ). TextRow x l.number l.owner l.priority (once eqb l.successors)) plain (read_row t c [] l i)

  -- what holds of the vertex of every line holds of every vertex
  each_vertex : (P : ℕ → Type 0) → ((l : SolverLine) → In l t.lines → P l.number) → (v : ℕ) → v < suc t.highest
      → P v
  each_vertex P f v h =
      let (l, i, e) = line_of t c v (omega arith) in
      subst P e (f l i)

  accepted : game_refusal g ≡ Ok tt
  unfolding vertex_of text_vertex
  accepted =
      owned_passes vs blank_vertex (omega (arith, read_length t c))
      (omega (arith, read_length t c, (read_few t c).0, (room_most t c).0))
      (omega (arith, (read_few t c).1, (room_most t c).1))
      (λ v h. each_vertex (λ u. (e : Edge) → In e (get_or vs u blank_vertex).edges → e.target < length vs) inside v
      (omega (arith, read_length t c)))
      (λ v h. each_vertex (λ u. (get_or vs u blank_vertex).owner < 2) owned v (omega (arith, read_length t c)))
    where
      inside : (l : SolverLine) → In l t.lines → (e : Edge) → In e (get_or vs l.number blank_vertex).edges
          → e.target < length vs
      inside l i e j =
          let (q, m, f) = in_map edge_to e (once eqb l.successors)
          (subst (λ (x : Vertex). In e x.edges) (read_at_lem t c l i blank_vertex) j) in
          let z : e.target ≡ q = ap (λ (y : Edge). y.target) f in
          omega (
            arith,
            read_length t c,
            ((read_passes t c).inside l i).1 q
                ((once_in number_equality l.successors q).0 m),
          )

      owned : (l : SolverLine) → In l t.lines → (get_or vs l.number blank_vertex).owner < 2
      owned l i = omega (arith, ap (λ (x : Vertex). x.owner) (read_at_lem t c l i blank_vertex), (proper l i).owned)

  written : writing_refusal g ≡ Ok tt
  unfolding writing_refusal
  written =
      then_passed (refusal98 g) accepted
      ∙ passes98 g (λ v h. each_vertex (λ u. ¬ (targets_in g u ≡ [])) leads v (omega (arith, counts)))
    where
      leads : (l : SolverLine) → In l t.lines → ¬ (targets_in g l.number ≡ [])
      leads l i e =
          let k : length (once eqb l.successors) ≡ 0 = ap length (sym (row l i).targets ∙ e) in
          omega (arith, k, once_some l.successors (proper l i).leads)

  -- no edge is repeated
  kept : without_repeats g ≡ vs
  unfolding without_repeats read_vertices
  kept =
      ap (λ (k : ℕ). map (vertex_once g) (from 0 k)) counts
      ∙ map_same (vertex_once g) (vertex_named t.lines) (from 0 (suc t.highest))
      (λ v i. each_vertex (λ u. vertex_once g u ≡ vertex_named t.lines u) same v
      (omega (arith, (in_from v 0 (suc t.highest) i).1)))
    where
      same : (l : SolverLine) → In l t.lines → vertex_once g l.number ≡ vertex_named t.lines l.number
      same l i =
          line_once l i ∙ sym (named t.lines l (read_passes t c).apart i)
        where
          line_once : (l : SolverLine) → In l t.lines → vertex_once g l.number ≡ vertex_of l
          line_once l i = unfold vertex_once text_vertex vertex_of in
              let r = row l i in
              let e : once eqb (targets_in g l.number) ≡ once eqb l.successors
              = ap (once eqb) r.targets ∙ once_once l.successors in
              λ k. text_vertex (r.owner k) (r.priority k) (e k)

  held : Held g r
  held =
      record {
        vertices = omega (arith, counts, (read_few t c).0);
        edges = omega (arith, ap edge_count kept, (read_few t c).1);
        priorities = λ v h. each_vertex (λ u. priority_in g u < 4_294_967_296)
            (λ l i. omega (arith, (row l i).priority, read_priorities t c l i)) v (omega (arith, counts));
      }

  read-words : (text game : List ℕ) → length game ≡ n → length (game_text g) ≤ length text
      → ((written_game g text).answer ≡ Done (length (game_text g)) 0 0)
      × (read_game r (take (length (game_text g)) (written_game g text).text) game ≡ read_as vs game)
  read-words text game same fit =
      let (a, b) = written_read g written r held c.room text game fit (same ∙ c.long) in
      (a, b ∙ ap (λ (us : List Vertex). read_as us game) kept)

-- ---- the theorem: the words that were read, without those past the game's end, are written and read again

module _ (r : Room) (bytes game : List ℕ) (sound : (n p : ℕ) → ¬ FaultyReading r bytes (length game) n p) where
  abbrev first : List ℕ
  first = trimmed (read_game r bytes game).game

  pub read_again : (text again : List ℕ) → length again ≡ length game
      → length (game_text (trimmed (read_game r bytes game).game)) ≤ length text
      → (size : ℕ) × ((written_game (trimmed (read_game r bytes game).game) text).answer ≡ Done size 0 0)
      × (read_game r (take size (written_game (trimmed (read_game r bytes game).game) text).text) again ≡ read_game r bytes game)
  unfolding read_as
  read_again text again same =
      let (t, c) = reading_readable r bytes (length game) ((reading_passed r bytes (length game)).1 sound) in
      let e = readable_done r bytes game t c in
      let f : first ≡ game_of 0 (read_vertices t)
      = ap (λ (b : Readback). trimmed b.game) e ∙ trimmed_game (read_vertices t) (length game) in
      subst (λ (g : List ℕ). length (game_text g) ≤ length text → (size : ℕ) × ((written_game g text).answer ≡ Done size 0 0)
      × (read_game r (take size (written_game g text).text) again ≡ read_game r bytes game)) (sym f)
      (λ fit.
      let (a, b) = read-words t c text again same fit in (
        length (game_text (game_of 0 (read_vertices t))),
        a,
        b ∙ ap (λ (k : ℕ). record {
          answer = Done (length (read_vertices t)) (length (read_vertices t)) (edge_count (read_vertices t));
          game = padded k (game_of 0 (read_vertices t));
        }) same ∙ sym e,
      ))
