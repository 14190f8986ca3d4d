-- What the parts of a run promise one another. Assumes nothing: these are statements.
use Rattle.match_table.specs.declared.MatchRows.{MatchRows}
use Rattle.std.specs.Prelude.{◌≡◌, List, ℕ, ◌≤◌, length}
use Rattle.rules.specs.declared.Answer.{Answer}
use Rattle.rules.specs.declared.Answer.TheVariants.{Done, Cut, Refused}
use Rattle.rules.specs.declared.Room.{Room}
use Rattle.rules.specs.Lists.{zeros}
use Rattle.rules.specs.Words.{Input}
use Rattle.rules.specs.Depth.{Ranking}
use Rattle.rules.specs.Game.{game_of, padded}
use Rattle.rules.specs.Run.{Outcome, run}
use Rattle.settling.specs.declared.Counters.{Counters}
use Rattle.std.specs.Prelude.{Result}
use Rattle.std.specs.declared.result.Result.TheVariants.{Ok, Err}
use Rattle.pairs.specs.declared.NoRoom.{NoRoom}
use Rattle.game_writer.specs.Shown.{Showable, shown_vertices}
use Rattle.item_table.specs.Entries.{Ranks}
use Rattle.compiled.specs.declared.Compiled.{Compiled}
use Rattle.compiled.specs.Tables.{classes_in}
use Rattle.labels.specs.Classes.{Classes}
use Rattle.match_table.specs.Rows.{MatchTable}
use Rattle.stepping.specs.Tables.{Tables}

-- the input is compiled: with any table of its matching labels these are the tables that the walk asks for
pub record Prepared (x : Input) (compiled : Compiled) (items : ℕ) : Type 0 where
  pub multisets : Classes x.labels (classes_in compiled)
  pub few : items ≤ 2048
  pub tables : (matched : MatchRows) → MatchTable x.labels x.actions matched → Tables x compiled matched

-- the game of the walk can be written out, where there was room for it
abbrev pub Writable : Room → (size : ℕ) → List ℕ → Result Counters NoRoom → Type 0
Writable r size work (Ok c) = Showable work r.vertices r.edges c.known c.edges size
Writable r size work (Err e) = Unit

-- what is left of a walk that there was room for: its answer says whether a vertex waits
pub record Wrote (kinds priorities : List ℕ) (r : Room) (game work : List ℕ) (a : Answer) (game' work' : List ℕ)
    (c : Counters) : Type 0 where
  pub done : c.waiting ≡ 0 → a ≡ Done c.settled c.known c.edges
  pub cut : (c.waiting ≡ 0 → ⊥) → a ≡ Cut c.settled c.known c.edges
  pub written : game'
      ≡ padded (length game) (game_of 0 (shown_vertices kinds priorities work r.vertices r.edges c.known))
  pub cleared : work' ≡ zeros work

abbrev pub WroteOut : (kinds priorities : List ℕ) (r : Room) (game work : List ℕ) → Answer → (game' work' : List ℕ)
    → Result Counters NoRoom → Type 0
WroteOut kinds priorities r game work a game' work' (Ok c) = Wrote kinds priorities r game work a game' work' c
WroteOut kinds priorities r game work a game' work' (Err e) =
    (a ≡ Refused 60 0) × (game' ≡ zeros game) × (work' ≡ zeros work)

-- the answer and both slices afterwards are those of the rules' run by this ranking
abbrev pub RunBy : Ranking → Input → Room → (k : ℕ) (game work : List ℕ) → Answer → (game' work' : List ℕ) → Type 0
RunBy rank x r k game work a game' work' =
    ◌≡◌ {A = Outcome} (record { answer = a; game = game'; work = work' }) (run rank x r k game work)

-- so they are by every ranking that these priorities show
abbrev pub RunByRanks : (priorities : List ℕ) → Input → Room → (k : ℕ) (game work : List ℕ) → Answer
    → (game' work' : List ℕ) → Type 0
RunByRanks priorities x r k game work a game' work' =
    (rank : Ranking) → Ranks rank x priorities → RunBy rank x r k game work a game' work'
