-- What each return of a run has to show: the answer and the two slices are those of the rules' run. Assumes nothing.
use mathlib.Core.Path.{◌≡◌, refl, sym, ap, ◌∙◌, subst}
use mathlib.Core.Bool.{Bool, true, false, true≢false}
use mathlib.Core.List.{List, [], ◌∷◌}
use mathlib.Core.Logic.{◌⊎◌, inl, inr}
use Prim.Native.Nat.{ℕ, ◌+◌, ◌-◌, ◌≤◌, ◌<◌}
use native.Mathlib.Decide.{ℕ_discrete}
use native.Mathlib.Omega.{arith}
use lib.ListN.{length, replicate}
use lib.Dec.{eqb}
use Rattle.rules.specs.declared.Answer.{Answer}
use Rattle.rules.specs.declared.Answer.TheVariants.{Done, Cut, Refused}
use Rattle.std.specs.declared.result.Result.TheVariants.{Ok, Err}
use Rattle.rules.specs.Answers.{fault}
use Rattle.rules.specs.Lists.{zeros, In}
use Rattle.rules.specs.declared.Room.{Room}
use Rattle.rules.specs.Words.{Input, room_of, game_length, work_length}
use Rattle.rules.specs.Answers.{said}
use Rattle.rules.specs.Depth.{Ranking, by_depth}
use Rattle.rules.specs.Walk.{Stand}
use Rattle.rules.specs.Pairs.{Pair}
use Rattle.rules.specs.Game.{Vertex, edge_count, game_of, padded}
use Rattle.rules.specs.Refusal.{refusal}
use Rattle.rules.specs.Run.{Outcome, walk_of, exceeds, built_answer, built_outcome, out_of_room, run}
use Rattle.rules.specs.Vertices.{vertices_of}
use Rattle.rules.specs.Demands.{Demand1, Demand3}
use Rattle.tables.specs.Good.{GoodInput}
use Rattle.lists.proofs.Members.{in_or}
use Rattle.lists.proofs.Equalities.{number_equality}
use Rattle.tables.proofs.Accepted.{accepted_words, accepted_room, accepted_lengths}
use Rattle.theorems.proofs.Runs.{run_refused, run-exceeds, run_fits, vertices_many, edges_many, demand1}
use Rattle.theorems.proofs.Demand3.{demand3}
use Rattle.satisfaction.specs.Claims.{NoFalsePass}
use Rattle.satisfaction.proofs.NoFalsePass.{no_false_pass}
use Rattle.settling.specs.declared.Counters.{Counters}
use Rattle.std.specs.Prelude.{Result}
use Rattle.pairs.specs.declared.NoRoom.{NoRoom}
use Rattle.settling.specs.Keys.{key_targets, key_behind, root_key}
use Rattle.settling.specs.Made.{Sized}
use Rattle.settling.specs.Good.{WalkMade, WalkAnswer, Exceeding}
use Rattle.rules.specs.Walk.{walk}
use Rattle.item_table.specs.Entries.{ItemTable, Ranks}
use Rattle.stepping.proofs.Offsets.{offset_last}
use Rattle.stepping.proofs.Paired.{known_pairs, waiting_pairs, known_count, waiting_count, edges_count, settled_count}
use Rattle.stepping.proofs.Paired.{made_fits, full_exceeds, waits_at, stretch_inside}
use Rattle.settling.specs.Stand.{settled_in, start_in, degree_in}
use Rattle.game_writer.specs.Shown.{Showable, shown_vertices}
use Rattle.translate.specs.Runs.{Writable, WroteOut, RunBy, RunByRanks}
use Rattle.translate.proofs.Shows.{shown_all}

-- an outcome goes by its three parts
outcome : (a b : Answer) (g h w u : List ℕ) → a ≡ b → g ≡ h → w ≡ u
    → ◌≡◌ {A = Outcome} (record { answer = a; game = g; work = w }) (record { answer = b; game = h; work = u })
outcome a b g h w u p q r = λ i. record { answer = p i; game = q i; work = r i }

none_waits : (ws : List ℕ) (s n m : ℕ) → length ws ≡ 0 → Done s n m ≡ built_answer ws s n m
unfolding built_answer
none_waits [] s n m e = refl
none_waits (w ∷ ws) s n m e = absurd (omega arith)

some_wait : (ws : List ℕ) (s n m : ℕ) → (¬ (length ws ≡ 0)) → Cut s n m ≡ built_answer ws s n m
unfolding built_answer
some_wait [] s n m z = absurd (z refl)
some_wait (w ∷ ws) s n m z = refl

-- a run that is not refused for its input looks only at the length of the work slice
pub run-any_work : (rank : Ranking) (x : Input) (r : Room) (k : ℕ) (game work other : List ℕ)
    → length work ≡ length other → refusal x r (length game) (length other) ≡ Ok tt
    → run rank x r k game other ≡ run rank x r k game work
unfolding zeros out_of_room built_outcome
run-any_work rank x r k game work other e p = go (exceeds r (vertices_of rank x (walk_of x k))) refl
  where
    q : refusal x r (length game) (length work) ≡ Ok tt
    q = ap (refusal x r (length game)) e ∙ p

    same : zeros other ≡ zeros work
    same = ap (λ (n : ℕ). replicate n 0) (sym e)

    go : (t : Bool) → exceeds r (vertices_of rank x (walk_of x k)) ≡ t → run rank x r k game other ≡ run rank x r k game work
    go true f =
        run-exceeds rank x r k game other p f
        ∙ outcome (Refused 60 0) (Refused 60 0) (zeros game) (zeros game) (zeros other) (zeros work) refl refl same
        ∙ sym (run-exceeds rank x r k game work q f)
    go false f =
        run_fits rank x r k game other p f
        ∙ outcome (built_outcome (walk_of x k) (vertices_of rank x (walk_of x k)) game other).answer (built_outcome (walk_of x k) (vertices_of rank x (walk_of x k)) game other).answer
        (padded (length game) (game_of 0 (vertices_of rank x (walk_of x k)))) (padded (length game) (game_of 0 (vertices_of rank x (walk_of x k)))) (zeros other) (zeros work) refl refl same
        ∙ sym (run_fits rank x r k game work q f)

-- refused
pub refused_run : (rank : Ranking) (x : Input) (r : Room) (k : ℕ) (game work : List ℕ) (n p : ℕ)
    → refusal x r (length game) (length work) ≡ fault n p
    → RunBy rank x r k game work (Refused n p) game work
refused_run rank x r k game work n p e = sym (run_refused rank x r k game work n p e)

-- the demands of an outcome that is the rules' run
pub demands : (rank : Ranking) (x : Input) (r : Room) (k : ℕ) (game work : List ℕ) (a : Answer) (g w : List ℕ)
    → RunBy rank x r k game work a g w
    → Demand1 x r k game work a g w × Demand3 rank x k a g
demands rank x r k game work a g w e = (
  subst (λ (o : Outcome). Demand1 x r k game work o.answer o.game o.work) (sym e) (demand1 rank x r k game work),
  subst (λ (o : Outcome). Demand3 rank x k o.answer o.game) (sym e) (demand3 rank x r k game work),
)

module _ (x : Input) (v e k : ℕ) (game work : List ℕ) (passed : refusal x (room_of v e) (length game) (length work) ≡ Ok tt) where
  good : GoodInput x
  good = accepted_words x (room_of v e) (length game) (length work) passed

  -- the work slice is as large as the walk asks
  pub sized : Sized work v e
  unfolding work_length
  sized =
      let (a, b, c, d) = accepted_room x (room_of v e) (length game) (length work) passed in
      let l = (accepted_lengths x (room_of v e) (length game) (length work) passed).1 in
      record { some = omega arith; most = b; most-edges = d; whole = omega (arith, l) }

  -- out of room: both slices are cleared
  full_run : (rank : Ranking) (g w : List ℕ)
      → Exceeding (key_targets x) (root_key x) v e (walk eqb (key_targets x) (root_key x) k)
      → g ≡ zeros game → w ≡ zeros work
      → RunBy rank x (room_of v e) k game work (Refused 60 0) g w
  unfolding out_of_room
  full_run rank g w f p q =
      outcome (Refused 60 0) (Refused 60 0) g (zeros game) w (zeros work) refl p q
      ∙ sym (run-exceeds rank x (room_of v e) k game work passed (full_exceeds x good rank k v e f))

  -- what writing the game asks
  module _ (c : Counters) (made : WalkMade (key_targets x) (key_behind x) (root_key x) v e k work c) where
    showable : Showable work v e c.known c.edges (length game)
    unfolding game_length
    showable =
        let r = made.good.ready in
        let few : c.edges ≤ e = r.buffer in
        let known : c.known ≤ v = r.table.slots.room in
        let l = (accepted_lengths x (room_of v e) (length game) (length work) passed).0 in
        record {
          placed = record { known = known; most = (r.most, r.most-edges); whole = r.whole };
          few = few;
          edged =
              record {
                stretch = λ u h p. stretches u (omega (arith, known_count x good k v e work c made)) p (in_or number_equality u (walk_of x k).waiting);
              };
          total = offset_last (key_targets x) (key_behind x) (root_key x) v e work c made.good;
          room = omega (arith, l);
        }
      where
        stretches : (u : ℕ) → u < length (walk_of x k).known → settled_in work v u ≡ true
            → In u (walk_of x k).waiting ⊎ (¬ In u (walk_of x k).waiting)
            → start_in work v u + degree_in work v u ≤ c.edges
        stretches u h p (inl w) = absurd (true≢false (sym p ∙ waits_at x good k v e work c made u h w))
        stretches u h p (inr n) = stretch_inside x good k v e work c made u h n

  -- the game, by a ranking that the priorities show
  module _ (rank : Ranking) (kinds lefts rights priorities : List ℕ)
      (table : ItemTable x kinds lefts rights) (ranks : Ranks rank x priorities)
      (c : Counters) (made : WalkMade (key_targets x) (key_behind x) (root_key x) v e k work c) where
    abbrev st : Stand Pair
    st = walk_of x k

    abbrev vs : List Vertex
    vs = vertices_of rank x st

    many : length vs ≡ c.known
    many = vertices_many rank x (room_of v e) k game work ∙ sym (known_count x good k v e work c made)

    edged : edge_count vs ≡ c.edges
    edged = edges_many rank x (room_of v e) k game work ∙ sym (edges_count x good k v e work c made)

    shown : shown_vertices kinds priorities work v e c.known ≡ vs
    shown =
        shown_all rank x good k kinds lefts rights priorities table ranks work v e c made.good
        (known_pairs x good k v e work c made) (waiting_pairs x good k v e work c made)

    -- the game and the cleared work slice
    wrote : (a : Answer) (g w : List ℕ)
        → a ≡ built_answer st.waiting (length vs - length st.waiting) (length vs) (edge_count vs)
        → g ≡ padded (length game) (game_of 0 (shown_vertices kinds priorities work v e c.known)) → w ≡ zeros work
        → ◌≡◌ {A = Outcome} (record { answer = a; game = g; work = w }) (run rank x (room_of v e) k game work)
    unfolding built_outcome
    wrote a g w p q s =
        outcome a (built_answer st.waiting (length vs - length st.waiting) (length vs) (edge_count vs)) g
        (padded (length game) (game_of 0 vs)) w (zeros work) p
        (q ∙ ap (λ (ys : List Vertex). padded (length game) (game_of 0 ys)) shown) s
        ∙ sym (run_fits rank x (room_of v e) k game work passed (made_fits x good k v e work c made rank))

    settled_many : c.settled ≡ length vs - length st.waiting
    settled_many = omega (arith, settled_count x good k v e work c made, many, known_count x good k v e work c made)

    same_answer : built_answer st.waiting c.settled c.known c.edges
        ≡ built_answer st.waiting (length vs - length st.waiting) (length vs) (edge_count vs)
    same_answer = λ i. built_answer st.waiting (settled_many i) (sym many i) (sym edged i)

    -- no vertex waits
    done_run : (g w : List ℕ) → c.waiting ≡ 0
        → g ≡ padded (length game) (game_of 0 (shown_vertices kinds priorities work v e c.known)) → w ≡ zeros work
        → RunBy rank x (room_of v e) k game work (Done c.settled c.known c.edges) g w
    done_run g w z q s =
        wrote (Done c.settled c.known c.edges) g w
        (none_waits st.waiting c.settled c.known c.edges
        (omega (arith, waiting_count x good k v e work c made)) ∙ same_answer) q s

    -- a vertex still waits
    cut_run : (g w : List ℕ) → (c.waiting ≡ 0 → ⊥)
        → g ≡ padded (length game) (game_of 0 (shown_vertices kinds priorities work v e c.known)) → w ≡ zeros work
        → RunBy rank x (room_of v e) k game work (Cut c.settled c.known c.edges) g w
    cut_run g w z q s =
        wrote (Cut c.settled c.known c.edges) g w
        (some_wait st.waiting c.settled c.known c.edges
        (λ n. z (omega (arith, waiting_count x good k v e work c made))) ∙ same_answer) q s

-- what the walk answered, written out, is the run by whatever ranking the priorities show
module _ (x : Input) (r : Room) (k : ℕ) (game work : List ℕ) (passed : refusal x r (length game) (length work) ≡ Ok tt) where
  abbrev v : ℕ
  v = r.vertices

  abbrev e : ℕ
  e = r.edges

  pub writable : (walked : Result Counters NoRoom) → WalkAnswer (key_targets x) (key_behind x) (root_key x) v e k work walked
      → Writable r (length game) work walked
  writable (Ok c) made = showable x v e k game work passed c made
  writable (Err x₀) f = tt

  pub wrote_out : (kinds lefts rights priorities : List ℕ) → ItemTable x kinds lefts rights
      → (walked : Result Counters NoRoom) → WalkAnswer (key_targets x) (key_behind x) (root_key x) v e k work walked
      → (a : Answer) (g w : List ℕ) → WroteOut kinds priorities r game work a g w walked
      → RunByRanks priorities x r k game work a g w
  wrote_out kinds lefts rights priorities table (Ok c) made a g w o = λ rank ranks. go rank ranks (ℕ_discrete c.waiting 0)
    where
      go : (rank : Ranking) → Ranks rank x priorities → Dec (c.waiting ≡ 0) → RunBy rank x r k game work a g w
      go rank ranks (yes z) =
          rw (o.done z) (done_run x v e k game work passed rank kinds lefts rights priorities table ranks c made g w z o.written o.cleared)
      go rank ranks (no z) =
          rw (o.cut z) (cut_run x v e k game work passed rank kinds lefts rights priorities table ranks c made g w z o.written o.cleared)
  wrote_out kinds lefts rights priorities table (Err x₀) f a g w o =
      λ rank ranks. rw o.0 (full_run x v e k game work passed rank g w f o.1 o.2)

-- by depth, with the answer's words, the demands that follow, and what a verdict on the game means
pub whole_run : (x : Input) (r : Room) (k : ℕ) (game work : List ℕ) (a : Answer) (g w : List ℕ)
    → RunBy by_depth x r k game work a g w
    → RunBy by_depth x r k game work a g w
    × ((said a ≡ said (run by_depth x r k game work).answer)
    × ((Demand1 x r k game work a g w) × ((Demand3 by_depth x k a g) × NoFalsePass x a g)))
whole_run x r k game work a g w e =
    let (p, q) = demands by_depth x r k game work a g w e in
    let means = subst (λ (o : Outcome). NoFalsePass x o.answer o.game) (sym e) (no_false_pass x r k game work) in
    (e, (ap (λ (o : Outcome). said o.answer) e, (p, (q, means))))

-- the work slice after the walk is as long as before
pub walked_passed : (x : Input) (r : Room) (game work other : ℕ) → other ≡ work → refusal x r game work ≡ Ok tt → refusal x r game other ≡ Ok tt
walked_passed x r game work other e p = ap (refusal x r game) e ∙ p
