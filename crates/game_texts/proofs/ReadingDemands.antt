-- What users of reading rely on holds of it, for every room, text and lent slice. Assumes nothing.
use Prim.Native.Nat.{ℕ, ◌-◌}
use native.Mathlib.Omega.{arith}
use mathlib.Core.Path.{◌≡◌, refl, sym, ap, ap₂, ◌∙◌, subst}
use mathlib.Core.List.{List, ◌++◌}
use lib.ListN.{length, replicate}
use lib.Dec.{eqb}
use Rattle.rules.specs.declared.Answer.TheVariants.{Done}
use Rattle.rules.specs.declared.Room.{Room}
use Rattle.rules.specs.Lists.{In, once}
use Rattle.rules.specs.Game.{Vertex, blank_vertex, edge_count, game_of, padded, vertex_count, edges_in, initial_in}
use Rattle.rules.specs.Pgsolver.{SolverLine, SolverText}
use Rattle.rules.specs.PgsolverCalls.{ReadsGame, ReadingDemand}
use Rattle.rules.specs.PgsolverReading.{text_vertex, vertex_of, read_vertices, Readback, read_as, read_game}
use Rattle.games.proofs.Reading.{count_read, edges_read, row_read}
use Rattle.games.proofs.Rewriting.{Whole}
use Rattle.theorems.proofs.Read.{whole_game}
use Rattle.restrictions.proofs.Restriction.{padded-length}
use Rattle.game_texts.proofs.Parsing.{parse_says}
use Rattle.game_texts.proofs.Rows.{TextRow, text_row}
use Rattle.game_texts.proofs.ReadingExact.{reading_exact, reading_passed}
use Rattle.game_texts.proofs.Readable.{Readable, reading_readable, readable_done, reading_refused}
use Rattle.game_texts.proofs.Readable.{read_passes, read_length, line_of, read_at_lem, read_fits}

module _ {r : Room} {bytes : List ℕ} {n : ℕ} (t : SolverText) (c : Readable r bytes n t) where
  abbrev vs : List Vertex
  vs = read_vertices t

  -- what is read of the vertex of a line, whatever words follow the game
  pub read_row : (rest : List ℕ) (l : SolverLine) → In l t.lines
      → TextRow (game_of 0 (read_vertices t) ++ rest) l.number l.owner l.priority (once eqb l.successors)
  unfolding vertex_of text_vertex
  read_row rest l i =
      text_row
      (row_read 0 vs rest l.number blank_vertex (vertex_of l)
      (omega (arith, read_length t c, ((read_passes t c).inside l i).0)) (read_at_lem t c l i blank_vertex))

  abbrev h : List ℕ
  h = padded n (game_of 0 vs)

  abbrev rest : List ℕ
  rest = replicate (n - length (game_of 0 vs)) 0

  counts : vertex_count h ≡ length vs
  unfolding padded
  counts = count_read 0 vs rest

  edges : edges_in h ≡ edge_count vs
  unfolding padded
  edges = edges_read 0 vs rest

  first : initial_in h ≡ 0
  unfolding padded game_of
  first = refl

  done_reads : ReadsGame t (Done (length vs) (length vs) (edge_count vs)) h
  unfolding padded
  done_reads =
      let whole : Whole h = whole_game vs n (read_fits t c) in
      record {
        answer = ap₂ (λ (k m : ℕ). Done k k m) (sym counts) (sym edges);
        vertices = counts ∙ read_length t c;
        first = first;
        numbers = λ l i. omega (arith, counts, read_length t c, ((read_passes t c).inside l i).0);
        owners = λ l i. (read_row rest l i).owner;
        priorities = λ l i. (read_row rest l i).priority;
        edges = λ l i. (read_row rest l i).targets;
        counts = λ l i. (read_row rest l i).counts;
        states = λ l i. (read_row rest l i).state;
        items = λ l i. (read_row rest l i).item;
        given = λ v k. line_of t c v (omega (arith, counts, read_length t c));
        begins = whole.begins;
        follows = whole.follows;
        ends = whole.ends;
        past = whole.past;
      }

-- ---- the theorem

module _ (r : Room) (bytes game : List ℕ) where
  pub reading_demand : ReadingDemand r bytes game (read_game r bytes game).answer (read_game r bytes game).game
  unfolding read_as
  reading_demand =
      record {
        refused = λ n p f.
            let e = reading_refused r bytes game n p ((reading_exact r bytes (length game) n p).1 f) in
            (ap (λ (b : Readback). b.answer) e, ap (λ (b : Readback). b.game) e);
        accepted = λ f.
            let (t, c) = reading_readable r bytes (length game) ((reading_passed r bytes (length game)).1 f) in
            let e = readable_done r bytes game t c in (
              t,
              parse_says bytes t c.parsed,
              ap (λ (b : Readback). length b.game) e
                  ∙ padded-length (length game) (game_of 0 (read_vertices t)) (read_fits t c),
              subst (λ (b : Readback). ReadsGame t b.answer b.game) (sym e) (done_reads t c),
            );
      }
