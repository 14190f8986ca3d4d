-- What is shown of the vertices that a walk knows, read off the words and the tables that a `Walked` holds. Assumes
-- nothing: these are definitions.
use Rattle.std.specs.Prelude.{ℕ, List}
use Rattle.player.specs.declared.Player.{Player}
use Rattle.rules.specs.Game.{Vertex}
use Rattle.compiled.specs.Tables.{kinds_in, priorities_in}
use Rattle.game_writer.specs.Shown.{shown_player, shown_owner, shown_priority, shown_word, shown_vertices}
use Rattle.game_writer.specs.declared.Walked.{Walked}

-- to whom the item of vertex u belongs
abbrev pub player_in : Walked → ℕ → Player
player_in s u = shown_player (kinds_in s.compiled.now) s.slots.work.now s.slots.vertices u

-- the owner and the priority of vertex u
abbrev pub owner_in : Walked → ℕ → ℕ
owner_in s u = shown_owner (kinds_in s.compiled.now) s.slots.work.now s.slots.vertices u

abbrev pub priority_in : Walked → ℕ → ℕ
priority_in s u =
    shown_priority (kinds_in s.compiled.now) (priorities_in s.compiled.now) s.slots.work.now s.slots.vertices s.edge_room u

-- its word in a column
abbrev pub word_in : Walked → (column u : ℕ) → ℕ
word_in s column u =
    shown_word (kinds_in s.compiled.now) (priorities_in s.compiled.now) s.slots.work.now s.slots.vertices s.edge_room column u

-- all that are known
abbrev pub vertices_in : Walked → List Vertex
vertices_in s =
    shown_vertices (kinds_in s.compiled.now) (priorities_in s.compiled.now) s.slots.work.now s.slots.vertices s.edge_room
    s.known
