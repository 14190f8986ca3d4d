-- What the parts of a step answer: the words and counters after some targets were numbered, pushed and given edges.
-- Targets are keys. Assumes nothing: these are definitions.
use Rattle.std.specs.Prelude.{◌≡◌, List, [], ◌∷◌, ◌++◌, map, ◌⊎◌, Result, ℕ, suc, ◌+◌, ◌-◌, ◌*◌, ◌≤◌, ◌<◌, eqb, length, set, drop}
use Rattle.rules.specs.Lists.{word, In, occurrences, position, insert, insert_all, once}
use Rattle.rules.specs.Walk.{push_new}
use Rattle.rules.specs.Words.{most_states, most_vertices, most_edges}
use Rattle.lists.specs.Shapes.{positions}
use Rattle.work_slice.specs.Regions.{region}
use Rattle.pairs.specs.Slot.{key_of}
use Rattle.pairs.specs.Table.{Table, keys_of}
use Rattle.pairs.specs.declared.NoRoom.{NoRoom}
use Rattle.std.specs.declared.result.Result.TheVariants.{Ok, Err}
use Rattle.settling.specs.declared.Counters.{Counters}
use Rattle.settling.specs.declared.Met.{Met}
use Rattle.settling.specs.declared.MarkedBy.{MarkedBy}
use Rattle.settling.specs.declared.MarkedBy.TheVariants.{State, Vertex}
use Rattle.settling.specs.declared.Operand.{Operand}
use Rattle.settling.specs.Stand.{waiting_of, edges_of, counts_of, marks_of, put_edge}

-- every mark is at most b
abbrev pub Marks : List ℕ → ℕ → ℕ → Type 0
Marks w v b = (i : ℕ) → i < v → word (region 7 v w) i ≤ b

-- what every part of a step asks of the words and counters
pub record Ready (w : List ℕ) (v e : ℕ) (c : Counters) : Type 0 where
  pub some : 0 < v
  pub most : v ≤ most_vertices
  pub most-edges : e ≤ most_edges
  pub whole : 8 * v + 2 * e ≤ length w
  pub table : Table w v c.known
  pub stack : c.settled + c.waiting ≤ c.known
  pub buffer : c.edges ≤ e

-- the counters with so many edges
abbrev pub with_edges : Counters → ℕ → Counters
with_edges c n = record { known = c.known; settled = c.settled; edges = n; waiting = c.waiting }

-- an edge to vertex x, behind which so many transitions stand, was put behind those that there were: nothing else
-- changed, and nothing at all where there was no room for it
abbrev pub Appended : (v e : ℕ) (c : Counters) (x count : ℕ) (w w' : List ℕ) → Result Counters NoRoom → Type 0
Appended v e c x count w w' (Ok c') =
    (c.edges < e) × (w' ≡ put_edge v e c.edges x count w) × (c' ≡ with_edges c (c.edges + 1))
Appended v e c x count w w' (Err n) = (c.edges ≡ e) × (w' ≡ w)

-- a pair that is to be numbered fits its key
pub record Fitting (s q : ℕ) : Type 0 where
  pub state_fits : s < most_states
  pub item_fits : q < 2048

-- each of these items, with the state, can be numbered
abbrev pub AllFit : ℕ → List ℕ → Type 0
AllFit state items = (q : ℕ) → In q items → Fitting state q

-- the key t was met: it is vertex u, numbered and pushed if it was new
pub record Meeting (w w' : List ℕ) (v : ℕ) (c : Counters) (t u : ℕ) (c' : Counters) : Type 0 where
  pub table : Table w' v c'.known
  pub keys : keys_of w' v c'.known ≡ insert eqb (keys_of w v c.known) t
  pub vertex : u ≡ position eqb t (keys_of w' v c'.known)
  pub waits : waiting_of w' v c'.waiting ≡ push_new c.known (c'.known - c.known) (waiting_of w v c.waiting)
  pub balance : c'.known + c.waiting ≡ c.known + c'.waiting
  pub grows : c.known ≤ c'.known
  pub same_settled : c'.settled ≡ c.settled
  pub same_edges : c'.edges ≡ c.edges
  pub rest : drop (5 * v) w' ≡ drop (5 * v) w

abbrev pub MeetAnswer : List ℕ → List ℕ → ℕ → Counters → ℕ → Result Met NoRoom → Type 0
MeetAnswer w w' v c t (Ok met) = Meeting w w' v c t met.vertex.0 met.counters
MeetAnswer w w' v c t (Err x) = v < length (insert eqb (keys_of w v c.known) t)

-- the targets ts were met in order and each got an edge, behind which as many transitions stand as cs says
pub record Made (w : List ℕ) (v e : ℕ) (c : Counters) (w' : List ℕ) (c' : Counters) (ts cs : List ℕ) : Type 0 where
  pub ready : Ready w' v e c'
  pub keys : keys_of w' v c'.known ≡ insert_all eqb (keys_of w v c.known) ts
  pub waits : waiting_of w' v c'.waiting ≡ push_new c.known (c'.known - c.known) (waiting_of w v c.waiting)
  pub row : edges_of w' v e c'.edges ≡ edges_of w v e c.edges ++ positions eqb (keys_of w' v c'.known) ts
  pub row_length : c'.edges ≡ c.edges + length ts
  pub counts : counts_of w' v e c'.edges ≡ counts_of w v e c.edges ++ cs
  pub balance : c'.known + c.waiting ≡ c.known + c'.waiting
  pub grows : c.known ≤ c'.known
  pub same_settled : c'.settled ≡ c.settled
  pub starts : region 5 v w' ≡ region 5 v w
  pub degrees : region 6 v w' ≡ region 6 v w
  pub marks : Marks w v c.edges → Marks w' v c'.edges

-- with the targets ts the vertices or the edges are too many
abbrev pub TooMany : List ℕ → ℕ → ℕ → Counters → List ℕ → Type 0
TooMany w v e c ts = (v < length (insert_all eqb (keys_of w v c.known) ts)) ⊎ (e < c.edges + length ts)

abbrev pub Answer : List ℕ → ℕ → ℕ → Counters → (ts cs : List ℕ) → List ℕ → Result Counters NoRoom → Type 0
Answer w v e c ts cs w' (Ok c') = Made w v e c w' c' ts cs
Answer w v e c ts cs w' (Err x) = TooMany w v e c ts

-- ---- the targets of a modality, each once: a target may be met again, by another transition

-- the mark of a target with state s that is vertex u
abbrev pub marker : MarkedBy → (s u : ℕ) → ℕ
marker State s u = s
marker Vertex s u = u

-- Of `many` marks the first n belong to the keys that `name` gives them. Those above `start` are the marks of ts, whose
-- edges begin at that place: each is one past the place of the edge
pub record MarkedIn (marks : List ℕ) (name : ℕ → ℕ) (many n start : ℕ) (ts : List ℕ) : Type 0 where
  pub only : (i : ℕ) → i < many → start < word marks i → (i < n) × In (name i) ts
  pub every : (i : ℕ) → i < n → In (name i) ts → word marks i ≡ suc (start + position eqb (name i) ts)

-- the marks go by the states of the targets, which share their item, or by their vertices: n of them have the keys ks
abbrev pub Marked : (by : MarkedBy) (item : ℕ) (marks ks : List ℕ) (many n start : ℕ) → List ℕ → Type 0
Marked State item marks ks many n start ts = MarkedIn marks (λ s. key_of s item) many many start ts
Marked Vertex item marks ks many n start ts = MarkedIn marks (word ks) many n start ts

-- how often each of the keys, taken once, was met
unfoldable pub tallies : List ℕ → List ℕ
tallies ks = map (λ t. occurrences eqb t ks) (once eqb ks)

-- From words w and counters c on the keys ks were met, one for each transition: each got one edge, whose count says how
-- often it was met, and its mark, of so many, says where that edge is. o: what the targets share
pub record Gathering (w : List ℕ) (v e many : ℕ) (c : Counters) (o : Operand) (ks w' : List ℕ) (c' : Counters) : Type 0 where
  pub made : Made w v e c w' c' (once eqb ks) (tallies ks)
  pub marked : Marked o.marked_by o.item (marks_of w' v many) (keys_of w' v c'.known) many c'.known c.edges
      (once eqb ks)

abbrev pub Gathered : List ℕ → ℕ → ℕ → ℕ → Counters → Operand → (ks w' : List ℕ) → Result Counters NoRoom → Type 0
Gathered w v e many c o ks w' (Ok c') = Gathering w v e many c o ks w' c'
Gathered w v e many c o ks w' (Err x) = TooMany w v e c (once eqb ks)

-- so many marks and one edge more have different words: the marks of the region, or more where there are few edges
abbrev pub Apart : (v e edges many : ℕ) → Type 0
Apart v e edges many = (v ≤ many) × (v < many → many + edges < v + e)

-- none of so many marks is past the edges, none has the word of the next edge, and each count of an edge of this step
-- can rise
pub record Raisable (w : List ℕ) (v e many : ℕ) (o : Operand) (c : Counters) : Type 0 where
  pub marks : (i : ℕ) → i < many → word (marks_of w v many) i ≤ c.edges
  pub apart : Apart v e c.edges many
  pub counts : (i : ℕ) → o.start ≤ i → i < c.edges → word (counts_of w v e c.edges) i < 4_294_967_295

-- vertex u is closed: its edges from start on are counted, and an edge to itself is added where there are none
pub record Closing (w : List ℕ) (v e u start : ℕ) (c : Counters) (w' : List ℕ) (c' : Counters) : Type 0 where
  pub ready : Ready w' v e c'
  pub same_known : c'.known ≡ c.known
  pub same_waiting : c'.waiting ≡ c.waiting
  pub one-settled : c'.settled ≡ suc c.settled
  pub keys : keys_of w' v c.known ≡ keys_of w v c.known
  pub waits : region 4 v w' ≡ region 4 v w
  pub starts : region 5 v w' ≡ region 5 v w
  pub degrees : region 6 v w' ≡ set (region 6 v w) u (suc (c'.edges - start))
  pub marks : region 7 v w' ≡ region 7 v w
  pub looped : c.edges ≡ start → (c'.edges ≡ suc c.edges) × (edges_of w' v e c'.edges ≡ edges_of w v e c.edges ++ (u ∷ []))
      × (counts_of w' v e c'.edges ≡ counts_of w v e c.edges ++ (0 ∷ []))
  pub others : (c.edges ≡ start → ⊥) → (c'.edges ≡ c.edges) × (edges_of w' v e c'.edges ≡ edges_of w v e c.edges)
      × (counts_of w' v e c'.edges ≡ counts_of w v e c.edges)

abbrev pub CloseAnswer : List ℕ → ℕ → ℕ → ℕ → ℕ → Counters → List ℕ → Result Counters NoRoom → Type 0
CloseAnswer w v e u start c w' (Ok c') = Closing w v e u start c w' c'
CloseAnswer w v e u start c w' (Err x) = (c.edges ≡ start) × (e ≤ start)

-- the lent work slice is as large as the room asks
pub record Sized (w : List ℕ) (v e : ℕ) : Type 0 where
  pub some : 0 < v
  pub most : v ≤ most_vertices
  pub most-edges : e ≤ most_edges
  pub whole : 8 * v + 2 * e ≤ length w
