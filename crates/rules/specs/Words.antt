-- The words handed over to a run and the room lent to it (document 01, "Words handed over"), and every limit. Assumes
-- nothing: these are definitions.
use Rattle.std.specs.Prelude.{ℕ, ◌+◌, ◌*◌, List}
use Rattle.rules.specs.declared.Room.{Room}
use Rattle.rules.specs.Game.{game_words}

-- the four slices of words that describe a run
pub record Input : Type 0 where
  pub labels : List ℕ
  pub system : List ℕ
  pub actions : List ℕ
  pub formula : List ℕ

abbrev pub input_of : List ℕ → List ℕ → List ℕ → List ℕ → Input
input_of ls ss acts f = record { labels = ls; system = ss; actions = acts; formula = f }

abbrev pub room_of : ℕ → ℕ → Room
room_of v e = record { vertices = v; edges = e }

-- ---- limits

-- "L (0 to 4,096), A (0 to 16,384)"
abbrev pub most_labels : ℕ
most_labels = 4_096

abbrev pub most_actions : ℕ
most_actions = 16_384

-- "S (1 to 65,535), T (0 to 262,144)"
abbrev pub most_states : ℕ
most_states = 65_535

abbrev pub most_transitions : ℕ
most_transitions = 262_144

-- "m (0 to 1,024)", "n (1 to 1,024)"
abbrev pub most_nodes : ℕ
most_nodes = 1_024

-- "Room is V (1 to 1,048,576) vertices and E (1 to 4,194,304) edges"
abbrev pub most_vertices : ℕ
most_vertices = 1_048_576

abbrev pub most_edges : ℕ
most_edges = 4_194_304

-- "a game slice has 4 + 5V + 2E words" (#105), "the work slice exactly 8V + 2E"
unfoldable pub game_length : Room → ℕ
game_length r = game_words r.vertices r.edges

unfoldable pub work_length : Room → ℕ
work_length r = 8 * r.vertices + 2 * r.edges
