-- What is shown of one vertex: its owner, priority and edges, by whether it is settled and by its first edge; and that
-- one that is not settled is shown as the rules' waiting vertex of its pair. Assumes nothing.
use mathlib.Core.Path.{◌≡◌, refl, sym, ap, ◌∙◌, subst}
use mathlib.Core.Bool.{true, false}
use mathlib.Core.List.{List, [], ◌∷◌, map, append-nil}
use Prim.Native.Nat.{ℕ, zero, suc, ◌+◌, ◌-◌, ◌≤◌, ◌<◌}
use native.Mathlib.Omega.{arith}
use lib.ListN.{length, take, drop, length-map}
use Rattle.std.proofs.Common.{reverse}
use lib.Dec.{eqb}
use borrow.Author.Tests.{lt-ltb, le-ltb}
use Rattle.std.specs.Prelude.{is_some, Option, Some, None}
use Rattle.std.specs.Option.{SomeIff}
use Rattle.player.specs.Player.{player_index}
use Rattle.player.specs.declared.Player.{Player}
use Rattle.rules.specs.Lists.{word, from}
use Rattle.rules.specs.Game.{Edge, edge_columns}
use Rattle.rules.specs.Vertices.{stuck_priority, waiting_vertex}
use Rattle.lists.proofs.Ranges.{from-length}
use Rattle.games.specs.Columns.{edge_column}
use Rattle.games.proofs.Columns.{each_edge_column}
use Rattle.work_slice.specs.Regions.{region, edges_end, edge_word}
use Rattle.words.specs.Stretches.{Wrote}
use Rattle.item_table.specs.Entries.{kind_owner}
use Rattle.pairs.specs.Table.{state_at, item_at}
use Rattle.settling.specs.Stand.{edges_of, counts_of, settled_in, start_in, degree_in}
use Rattle.settling.proofs.Buffer.{settled-in, unsettled_in, degree_unsettled}
use Rattle.game_writer.proofs.Rows.{down_below}
use Rattle.game_writer.specs.Shown.{first_target, loops_in, shown_player, shown_owner, shown_priority}
use Rattle.game_writer.specs.Shown.{shown_edge, shown_edges, shown_vertex}

-- ---- whether it is settled, as code reads it: `degree` is none before it is settled

module _ (w : List ℕ) (v u held : ℕ) (e : held ≡ word (region 6 v w) u) where
  pub settled_read : (degree : Option ℕ) → SomeIff degree (1 ≤ held) (held - 1) → is_some degree ≡ settled_in w v u
  settled_read (Some d) s = sym (settled-in w v u (omega (arith, s.0)))
  settled_read None s = sym (unsettled_in w v u (omega (arith, s)))

-- ---- the words of owner and priority

module _ (kinds w : List ℕ) (v u : ℕ) where
  pub owner_waits : settled_in w v u ≡ false → shown_owner kinds w v u ≡ 2
  unfolding shown_owner
  owner_waits e = rw e refl

  pub owner-settled : settled_in w v u ≡ true → shown_owner kinds w v u ≡ player_index (shown_player kinds w v u)
  unfolding shown_owner
  owner-settled e = rw e refl

  -- as code reads it
  pub player_read : (item : ℕ) (o : Player) → item ≡ item_at w v u → o ≡ kind_owner (word kinds item) → o ≡ shown_player kinds w v u
  unfolding shown_player
  player_read item o e f = f ∙ ap (λ (i : ℕ). kind_owner (word kinds i)) e

-- the first edge, as code reads it
module _ (w : List ℕ) (v e u : ℕ) where
  pub loops_none : degree_in w v u ≡ 0 → false ≡ loops_in w v e u
  unfolding loops_in
  loops_none z = rw (le-ltb 0 (degree_in w v u) (omega arith)) refl

  pub loops_read : (place : ℕ) → (¬ (degree_in w v u ≡ 0)) → place ≡ edge_word v e 0 (start_in w v u)
      → eqb (word w place) u ≡ loops_in w v e u
  unfolding loops_in
  loops_read place d s = rw (lt-ltb 0 (degree_in w v u) (omega arith)) (ap (λ (k : ℕ). eqb (word w k) u) s)

module _ (kinds priorities w : List ℕ) (v e u : ℕ) where
  pub priority_waits : settled_in w v u ≡ false → shown_priority kinds priorities w v e u ≡ 0
  unfolding shown_priority
  priority_waits d = rw d refl

  pub priority_stuck : settled_in w v u ≡ true → loops_in w v e u ≡ true
      → shown_priority kinds priorities w v e u ≡ stuck_priority (shown_player kinds w v u)
  unfolding shown_priority
  priority_stuck d l = rw (d, l) refl

  pub priority_ranked : settled_in w v u ≡ true → loops_in w v e u ≡ false
      → shown_priority kinds priorities w v e u ≡ word priorities (item_at w v u)
  unfolding shown_priority
  priority_ranked d n = rw (d, n) refl

  -- as code reads it
  pub ranked_read : (item : ℕ) → settled_in w v u ≡ true → loops_in w v e u ≡ false → item ≡ item_at w v u
      → word priorities item ≡ shown_priority kinds priorities w v e u
  ranked_read item d n i = ap (word priorities) i ∙ sym (priority_ranked d n)

-- ---- words below a place, the last one first

-- from the s-th on they are those below a place that is s words lower
lower : (n : ℕ) (w : List ℕ) (past s k : ℕ)
    → map (λ i. word w (past - suc i)) (from (s + k) n) ≡ map (λ i. word w (past - s - suc i)) (from k n)
unfolding from
lower zero w past s k = refl
lower (suc n) w past s k =
    let same : past - suc (s + k) ≡ past - s - suc k = omega arith in
    let next : suc (s + k) ≡ s + suc k = omega arith in
    ap (λ (l : List ℕ). word w (past - suc (s + k)) ∷ l)
    (ap (λ (j : ℕ). map (λ i. word w (past - suc i)) (from j n)) next ∙ lower n w past s (suc k))
    ∙ ap (λ (j : ℕ). word w j ∷ map (λ i. word w (past - s - suc i)) (from (suc k) n)) same

words_below : (w : List ℕ) (past s n : ℕ)
    → map (λ i. word w (past - suc i)) (from s n) ≡ map (λ i. word w (past - s - suc i)) (from 0 n)
words_below w past s n =
    let z : s ≡ s + 0 = omega arith in
    ap (λ (j : ℕ). map (λ i. word w (past - suc i)) (from j n)) z ∙ lower n w past s 0

-- a part of what is read at the places from k on is what is read at its places
part : (s d n : ℕ) (f : ℕ → ℕ) (k : ℕ) → s + d ≤ n → take d (drop s (map f (from k n))) ≡ map f (from (k + s) d)
unfolding from
part zero d n f k h =
    let z : k ≡ k + 0 = omega arith in
    front d n k (omega arith) ∙ ap (λ (j : ℕ). map f (from j d)) z
  where
    front : (d n k : ℕ) → d ≤ n → take d (map f (from k n)) ≡ map f (from k d)
    front zero n k h = refl
    front (suc d) zero k h = absurd (omega arith)
    front (suc d) (suc n) k h = ap (λ (l : List ℕ). f k ∷ l) (front d n (suc k) (omega arith))
part (suc s) d zero f k h = absurd (omega arith)
part (suc s) d (suc n) f k h =
    let next : suc k + s ≡ k + suc s = omega arith in
    part s d n f (suc k) (omega arith) ∙ ap (λ (j : ℕ). map f (from j d)) next

-- ---- the edges

-- edges are the same if their targets and their counts are
pub same_edges : (es ds : List Edge) → map (λ (d : Edge). d.target) es ≡ map (λ (d : Edge). d.target) ds
    → map (λ (d : Edge). d.count) es ≡ map (λ (d : Edge). d.count) ds → es ≡ ds
same_edges [] [] p q = refl
same_edges [] (d ∷ ds) p q = absurd (omega (arith, ap length p))
same_edges (e ∷ es) [] p q = absurd (omega (arith, ap length p))
same_edges (e ∷ es) (d ∷ ds) p q =
    let first : e ≡ d = λ i. record { target = word (p i) 0; count = word (q i) 0 } in
    ap (λ (x : Edge). x ∷ es) first ∙ ap (λ (l : List Edge). d ∷ l) (same_edges es ds (ap (drop 1) p) (ap (drop 1) q))

module _ (w : List ℕ) (v e u : ℕ) where
  pub edges_none : settled_in w v u ≡ false → shown_edges w v e u ≡ []
  unfolding shown_edges from
  edges_none d = ap (λ (k : ℕ). map (shown_edge w v e) (from (start_in w v u) k)) (degree_unsettled w v u d)

  -- there are as many as is counted
  pub edges_length : length (shown_edges w v e u) ≡ degree_in w v u
  unfolding shown_edges
  edges_length =
      length-map (from (start_in w v u) (degree_in w v u)) (shown_edge w v e)
      ∙ from-length (start_in w v u) (degree_in w v u)

  -- the words at these places of the buffer in a column
  words-at : (c : ℕ) → c < length edge_columns → (is : List ℕ)
      → map (edge_column c) (map (shown_edge w v e) is) ≡ map (λ i. word w (edge_word v e c i)) is
  unfolding shown_edge
  words-at c h [] = refl
  words-at c h (i ∷ is) =
      ap (λ (l : List ℕ). edge_column c (shown_edge w v e i) ∷ l) (words-at c h is)
      ∙ ap (λ (x : ℕ). x ∷ map (λ i. word w (edge_word v e c i)) is)
      (each_edge_column (λ c. edge_column c (shown_edge w v e i) ≡ word w (edge_word v e c i)) refl refl c h)

  -- their words in a column
  column_words : (c : ℕ) → c < length edge_columns
      → map (edge_column c) (shown_edges w v e u)
      ≡ map (λ i. word w (edge_word v e c i)) (from (start_in w v u) (degree_in w v u))
  unfolding shown_edges
  column_words c h = words-at c h (from (start_in w v u) (degree_in w v u))

  -- they stand below a place of the buffer, the last one first
  pub edges_words : (c : ℕ) → c < length edge_columns
      → map (edge_column c) (shown_edges w v e u)
      ≡ map (λ i. word w (edges_end v e c - start_in w v u - suc i)) (from 0 (degree_in w v u))
  edges_words c h = column_words c h ∙ words_below w (edges_end v e c) (start_in w v u) (degree_in w v u)

  -- as code copies them
  pub wrote_some : (c past count : ℕ) {start r : ℕ} {out out' : List ℕ} → c < length edge_columns
      → past ≡ edges_end v e c - start_in w v u → count ≡ degree_in w v u → count ≤ past → past ≤ length w
      → Wrote start (reverse (take (past - (past - count)) (drop (past - count) w))) out out' r
      → Wrote start (map (edge_column c) (shown_edges w v e u)) out out' r
  wrote_some c past count {start} {r} {out} {out'} h p q below within wrote =
      let read : map (λ i. word w (past - suc i)) (from 0 count) ≡ map (edge_column c) (shown_edges w v e u)
      = rw (p, q) (sym (edges_words c h)) in
      subst (λ (l : List ℕ). Wrote start l out out' r) (down_below w past count below within ∙ read) wrote

  pub wrote_none : (c start : ℕ) (out : List ℕ) → settled_in w v u ≡ false
      → Wrote start (map (edge_column c) (shown_edges w v e u)) out out start
  wrote_none c start out d =
      rw (edges_none d) (record { past = omega arith; words = sym (append-nil (take start out)); rest = refl })

-- n edges are made, and the edges of vertex u stand among them
module _ (w : List ℕ) (v e u n : ℕ) where
  -- what is read of a column for vertex u
  part_read : (end : ℕ) → start_in w v u + degree_in w v u ≤ n
      → take (degree_in w v u) (drop (start_in w v u) (map (λ i. word w (end - suc i)) (from 0 n)))
      ≡ map (λ i. word w (end - suc i)) (from (start_in w v u) (degree_in w v u))
  part_read end h =
      let z : 0 + start_in w v u ≡ start_in w v u = omega arith in
      part (start_in w v u) (degree_in w v u) n (λ i. word w (end - suc i)) 0 h
      ∙ ap (λ (s : ℕ). map (λ i. word w (end - suc i)) (from s (degree_in w v u))) z

  -- its edges have the targets and the counts that stand there
  pub edges_settled : start_in w v u + degree_in w v u ≤ n → (es : List Edge)
      → take (degree_in w v u) (drop (start_in w v u) (edges_of w v e n)) ≡ map (λ (d : Edge). d.target) es
      → take (degree_in w v u) (drop (start_in w v u) (counts_of w v e n)) ≡ map (λ (d : Edge). d.count) es
      → shown_edges w v e u ≡ es
  unfolding edges_of counts_of
  edges_settled h es p q =
      same_edges (shown_edges w v e u) es (column 0 (omega arith) ∙ p) (column 1 (omega arith) ∙ q)
    where
      column : (c : ℕ) → c < length edge_columns
          → map (edge_column c) (shown_edges w v e u)
          ≡ take (degree_in w v u) (drop (start_in w v u) (map (λ i. word w (edge_word v e c i)) (from 0 n)))
      column c k = column_words w v e u c k ∙ sym (part_read (edges_end v e c) h)

  -- the first of its targets
  pub first_edge : 0 < degree_in w v u → start_in w v u + degree_in w v u ≤ n → (t : ℕ) (ts : List ℕ)
      → take (degree_in w v u) (drop (start_in w v u) (edges_of w v e n)) ≡ t ∷ ts
      → first_target w v e u ≡ t
  unfolding edges_of
  first_edge some h t ts p = head (degree_in w v u) some (sym (part_read (edges_end v e 0) h) ∙ p)
    where
      head : (d : ℕ) → 0 < d → map (λ i. word w (edge_word v e 0 i)) (from (start_in w v u) d) ≡ t ∷ ts
          → first_target w v e u ≡ t
      head zero h q = absurd (omega arith)
      head (suc d) h q = unfold from in ap (λ (l : List ℕ). word l 0) q

-- a vertex that is not settled is shown as the rules' waiting vertex of its pair: owner 2, priority 0, no edges
pub shown_waiting : (kinds priorities w : List ℕ) (v e u : ℕ) → settled_in w v u ≡ false
    → shown_vertex kinds priorities w v e u ≡ waiting_vertex (state_at w v u, item_at w v u)
unfolding shown_vertex waiting_vertex
shown_waiting kinds priorities w v e u d =
    let a = owner_waits kinds w v u d in
    let b = priority_waits kinds priorities w v e u d in
    λ i. record {
      owner = a i;
      priority = b i;
      state = state_at w v u;
      item = item_at w v u;
      edges = edges_none w v e u d i;
    }
