-- What is read of a vertex as a text shows it, in the words of a game. Assumes nothing.
use Prim.Native.Nat.{ℕ}
use mathlib.Core.Path.{◌≡◌, refl, ap, ◌∙◌}
use mathlib.Core.List.{List, [], ◌∷◌, map}
use Rattle.rules.specs.Lists.{zeros}
use Rattle.rules.specs.Game.{Edge, edge_to}
use Rattle.rules.specs.Game.{owner_in, priority_in, state_in, item_in, targets_in, counts_in}
use Rattle.games.proofs.Columns.{targets_plain}
use Rattle.games.specs.Rows.{Row}
use Rattle.rules.specs.PgsolverReading.{text_vertex}

-- the counts of edges that lead to these numbers
counts_plain : (ts : List ℕ) → map (λ (e : Edge). e.count) (map (λ t. edge_to t) ts) ≡ zeros ts
unfolding zeros
counts_plain [] = refl
counts_plain (t ∷ ts) = ap (λ (l : List ℕ). 0 ∷ l) (counts_plain ts)

-- game h shows vertex v with owner o, priority p and edges to ts, and 0 for its state, its item and every count
pub record TextRow (h : List ℕ) (v o p : ℕ) (ts : List ℕ) : Type 0 where
  pub owner : owner_in h v ≡ o
  pub priority : priority_in h v ≡ p
  pub state : state_in h v ≡ 0
  pub item : item_in h v ≡ 0
  pub targets : targets_in h v ≡ ts
  pub counts : counts_in h v ≡ zeros ts

pub text_row : {h : List ℕ} {v o p : ℕ} {ts : List ℕ} → Row h v (text_vertex o p ts) → TextRow h v o p ts
unfolding text_vertex
text_row {ts = ts} r =
    record {
      owner = r.owner;
      priority = r.priority;
      state = r.state;
      item = r.item;
      targets = r.targets ∙ targets_plain ts;
      counts = r.counts ∙ counts_plain ts;
    }
