-- What a run leaves in the program's room: a game that can be printed; and no run is cut whose steps are at least as
-- many as the room's vertices. Assumes nothing.
use mathlib.Core.Path.{◌≡◌, refl, sym, ap, ◌∙◌, subst}
use mathlib.Core.Bool.{Bool, true, false, cond}
use mathlib.Core.List.{List, [], ◌∷◌}
use mathlib.Core.Logic.{⊎_elim}
use Prim.Native.Nat.{ℕ, zero, suc, ◌+◌, ◌-◌, ◌≤◌, ◌<◌}
use native.Mathlib.Omega.{arith}
use native.Mathlib.Decide.{dec_lt, ℕ_discrete}
use lib.ListN.{length, replicate}
use lib.Dec.{ltb}
use borrow.Author.Tests.{le-ltb}
use Rattle.player.specs.declared.Player.{Player}
use Rattle.player.specs.declared.Player.TheVariants.{Even, Odd}
use Rattle.rules.specs.declared.Answer.{Answer}
use Rattle.rules.specs.declared.Answer.TheVariants.{Done, Cut, Refused}
use Rattle.rules.specs.Answers.{Check}
use Rattle.std.specs.declared.result.Result.TheVariants.{Ok, Err}
use Rattle.rules.specs.Lists.{In}
use Rattle.rules.specs.declared.Room.{Room}
use Rattle.rules.specs.Words.{Input, game_length, work_length}
use Rattle.rules.specs.Answers.{Accepted}
use Rattle.rules.specs.Table.{size}
use Rattle.rules.specs.Formula.{equation_count}
use Rattle.rules.specs.Depth.{Ranking, by_depth}
use Rattle.rules.specs.Pairs.{Pair, owner, priority}
use Rattle.rules.specs.Walk.{Stand}
use Rattle.rules.specs.Reach.{N}
use Rattle.rules.specs.Game.{Vertex, edge_count, game_of, padded}
use Rattle.rules.specs.Game.{vertex_count, edges_in, owner_in, priority_in, targets_in}
use Rattle.rules.specs.Refusal.{refusal}
use Rattle.rules.specs.Run.{Outcome, walk_of, exceeds, built_answer, built_outcome, out_of_room, run}
use Rattle.rules.specs.Vertices.{stuck_priority, vertices_of}
use Rattle.rules.specs.Demands.{Totalised, CutTheorem, settled_below}
use Rattle.rules.specs.Program.{gate_room, gate_steps, gate_run}
use Rattle.theorems.proofs.Runs.{run_refused, run-exceeds, run_fits, fits}
use Rattle.theorems.proofs.Pairs.{lead_in}
use Rattle.theorems.proofs.Demand3.{demand3}
use Rattle.lists.proofs.Members.{in_either}
use Rattle.tables.proofs.Accepted.{accepted_words}
use Rattle.trees.proofs.Readings.{by_depth_fits}
use Rattle.gate_text.specs.Shown.{Shown}
use Rattle.gate_text.proofs.Places.{refused_small}

-- ---- settled vertices are counted

one_or_none : (t : Bool) → cond t 1 0 ≤ 1
one_or_none true = omega arith
one_or_none false = omega arith

settled_most : (g : List ℕ) (n : ℕ) → settled_below g n ≤ n
unfolding settled_below
settled_most g zero = omega arith
settled_most g (suc n) = omega (arith, one_or_none (ltb (owner_in g n) 2), settled_most g n)

-- one that waits is not among them
settled_less : (g : List ℕ) (v n : ℕ) → v < n → owner_in g v ≡ 2 → settled_below g n < n
unfolding settled_below
settled_less g v zero h e = absurd (omega arith)
settled_less g v (suc n) h e = go (ℕ_discrete v n) (λ l. settled_less g v n l e)
  where
    go : Dec (v ≡ n) → (v < n → settled_below g n < n) → cond (ltb (owner_in g n) 2) 1 0 + settled_below g n < suc n
    go (yes d) r =
        let o : owner_in g n ≡ 2 = sym (ap (owner_in g) d) ∙ e in
        rw (le-ltb (owner_in g n) 2 (omega arith)) (omega (arith, settled_most g n))
    go (no d) r = let l = r (omega arith) in omega (arith, one_or_none (ltb (owner_in g n) 2))

-- ---- owners are at most 2, priorities are words, and edges lead to vertices

-- the edge that is added leads back
added_back : (rank : Ranking) (x : Input) (p : Pair) (v : ℕ) (ruled : List ℕ) (shown : ℕ) (added : List ℕ)
    → Totalised v (owner x p) (priority rank x p) ruled shown added → (u : ℕ) → In u added → u ≡ v
added_back rank x p v [] shown added t u i = ⊎_elim (λ (e : u ≡ v). e) (λ (m : ⊥). absurd m) (subst (λ (l : List ℕ). In u l) t.1 i)
added_back rank x p v (r ∷ rs) shown added t u i = absurd (subst (λ (l : List ℕ). In u l) t.1 i)

-- a priority is that of an equation, or 0, or what a vertex without targets gets
word_ranked : (rank : Ranking) (x : Input) (p : Pair) → ((i : ℕ) → rank x i < 4_294_967_296)
    → priority rank x p < 4_294_967_296
unfolding priority
word_ranked rank x p small = go (ltb p.1 (equation_count x.formula))
  where
    go : (t : Bool) → cond t (rank x p.1) 0 < 4_294_967_296
    go true = small p.1
    go false = omega arith

stuck_word : (o : Player) → stuck_priority o < 4_294_967_296
unfolding stuck_priority
stuck_word Even = omega arith
stuck_word Odd = omega arith

total_word : (v : ℕ) (o : Player) (p : ℕ) (ruled : List ℕ) (shown : ℕ) (added : List ℕ)
    → Totalised v o p ruled shown added → p < 4_294_967_296 → shown < 4_294_967_296
total_word v o p [] shown added t h = omega (arith, t.0, stuck_word o)
total_word v o p (u ∷ us) shown added t h = omega (arith, t.0)

module _ {rank : Ranking} {x : Input} {k : ℕ} {a : Answer} {g : List ℕ} (t : CutTheorem rank x k a g) where
  ranked_by : ((i : ℕ) → rank x i < 4_294_967_296) → (v : ℕ) → v < vertex_count g → priority_in g v < 4_294_967_296
  ranked_by small v h = go (dec_lt (owner_in g v) 2)
    where
      go : Dec (owner_in g v < 2) → priority_in g v < 4_294_967_296
      go (yes l) =
          let s = t.settled v h l in
          total_word v _ _ s.ruled _ s.added s.total (word_ranked rank x _ small)
      go (no l) = omega (arith, (t.waiting v h l).1)

  owned_by : (v : ℕ) → v < vertex_count g → owner_in g v ≤ 2
  owned_by v h = go (dec_lt (owner_in g v) 2)
    where
      go : Dec (owner_in g v < 2) → owner_in g v ≤ 2
      go (yes l) = omega arith
      go (no l) = omega (arith, (t.waiting v h l).0)

  leads-to : (v u : ℕ) → v < vertex_count g → In u (targets_in g v) → u < vertex_count g
  leads-to v u h i = go (dec_lt (owner_in g v) 2)
    where
      go : Dec (owner_in g v < 2) → u < vertex_count g
      go (no l) = absurd (subst (λ (ts : List ℕ). In u ts) (t.waiting v h l).2 i)
      go (yes l) =
          let s = t.settled v h l in
          ⊎_elim
          (λ m. let (q, i, (b, e)) = lead_in g u s.ruled _ s.leads m in b)
          (λ m. omega (arith, added_back rank x _ v s.ruled _ s.added s.total u m))
          (in_either u s.ruled s.added (subst (λ (ts : List ℕ). In u ts) s.edges i))

-- the numbers of an answer are words
abbrev pub SmallAnswer : Answer → Type 0
SmallAnswer (Done s v e) = (s < 4_294_967_296) × (v < 4_294_967_296) × (e < 4_294_967_296)
SmallAnswer (Cut s v e) = (s < 4_294_967_296) × (v < 4_294_967_296) × (e < 4_294_967_296)
SmallAnswer (Refused n p) = (n < 4_294_967_296) × (p < 4_294_967_296)

built_small : (waiting : List ℕ) (s v e : ℕ) → s < 4_294_967_296 → v < 4_294_967_296 → e < 4_294_967_296
    → SmallAnswer (built_answer waiting s v e)
unfolding built_answer
built_small [] s v e a b c = (a, b, c)
built_small (u ∷ us) s v e a b c = (a, b, c)

module _ (rank : Ranking) (x : Input) (r : Room) (k : ℕ) (game work : List ℕ) where
  abbrev st : Stand Pair
  st = walk_of x k

  abbrev vs : List Vertex
  vs = vertices_of rank x st

  abbrev o : Outcome
  o = run rank x r k game work

  -- the game of a run that is not refused is within the room
  within_room : Accepted o.answer → (vertex_count o.game ≤ r.vertices) × (edges_in o.game ≤ r.edges)
  unfolding built_outcome out_of_room padded game_of
  within_room n = go (refusal x r (length game) (length work)) refl (exceeds r vs) refl
    where
      go : (c : Check) → refusal x r (length game) (length work) ≡ c → (t : Bool) → exceeds r vs ≡ t → (vertex_count o.game ≤ r.vertices) × (edges_in o.game ≤ r.edges)
      go (Err g) e t f =
          absurd (subst (λ (u : Outcome). Accepted u.answer) (run_refused rank x r k game work g.number g.place e) n)
      go (Ok u) e true f =
          absurd (subst (λ (u : Outcome). Accepted u.answer) (run-exceeds rank x r k game work e f) n)
      go (Ok u) e false f =
          let q = run_fits rank x r k game work e f in
          let a : vertex_count o.game ≡ length vs = ap (λ (u : Outcome). vertex_count u.game) q in
          let b : edges_in o.game ≡ edge_count vs = ap (λ (u : Outcome). edges_in u.game) q in
          let l = fits rank x r k game work f in
          (omega (arith, l.0), omega (arith, l.1))

  -- a cut run knows more vertices than it has made steps
  pub never_cut : r.vertices ≤ k → (i j m : ℕ) → ¬ (o.answer ≡ Cut i j m)
  never_cut h i j m e =
      let n : Accepted o.answer = subst Accepted (sym e) tt in
      go n (demand3 rank x r k game work n) (dec_lt k (N x))
    where
      go : Accepted o.answer → CutTheorem rank x k o.answer o.game → Dec (k < N x) → ⊥
      go n t (yes l) =
          let w = t.waits l in
          omega (arith, settled_less o.game w.0 (vertex_count o.game) w.1 w.2, t.counted, (within_room n).0)
      go n t (no l) =
          let d : Done (N x) (vertex_count o.game) (edges_in o.game) ≡ Cut i j m =
          sym (t.ended (omega arith)) ∙ e in
          let z : ◌≡◌ {A = ℕ} 0 1 = cc in
          omega arith

  -- in the program's room, a game can be printed
  pub run_shown : r.vertices ≤ 512 → r.edges ≤ 1_024 → ((i : ℕ) → rank x i < 4_294_967_296)
      → Accepted o.answer → Shown o.game
  run_shown v e small n =
      let t = demand3 rank x r k game work n in
      let w = within_room n in
      record {
        few = omega (arith, w.0);
        few_edges = omega (arith, w.1);
        begins = t.begins;
        follows = t.follows;
        ends = t.ends.0;
        inside = t.ends.1;
        owned = owned_by t;
        ranked = ranked_by t small;
        leads = leads-to t;
      }

  -- the answer's numbers are words
  pub run_small : r.vertices ≤ 512 → r.edges ≤ 1_024 → SmallAnswer o.answer
  unfolding built_outcome out_of_room
  run_small few less = go (refusal x r (length game) (length work)) refl (exceeds r vs) refl
    where
      go : (c : Check) → refusal x r (length game) (length work) ≡ c → (t : Bool) → exceeds r vs ≡ t
          → SmallAnswer o.answer
      go (Err d) f t g =
          let (a, b) = refused_small x r (length game) (length work) d.number d.place f in
          let e : o.answer ≡ Refused d.number d.place = ap (λ (u : Outcome). u.answer) (run_refused rank x r k game work d.number d.place f) in
          subst SmallAnswer (sym e) (omega arith, omega arith)
      go (Ok u) f true g =
          let e : o.answer ≡ Refused 60 0 = ap (λ (u : Outcome). u.answer) (run-exceeds rank x r k game work f g) in
          subst SmallAnswer (sym e) (omega arith, omega arith)
      go (Ok u) f false g =
          let l = fits rank x r k game work g in
          let m : ℕ = length vs - length st.waiting in
          let e : o.answer ≡ built_answer st.waiting m (length vs) (edge_count vs) =
          ap (λ (u : Outcome). u.answer) (run_fits rank x r k game work f g)
          in
          subst SmallAnswer (sym e)
          (built_small st.waiting m (length vs) (edge_count vs)
          (omega (arith, l.0)) (omega (arith, l.0)) (omega (arith, l.1)))

-- ---- the program's runs

-- "It uses V = 512, E = 1,024, k = 512, so no run there is cut"
pub gate_never_cut : (x : Input) (s v e : ℕ) → ¬ ((gate_run x).answer ≡ Cut s v e)
unfolding gate_run gate_room gate_steps
gate_never_cut x =
    let game : List ℕ = replicate (game_length gate_room) 0 in
    let work : List ℕ = replicate (work_length gate_room) 0 in
    never_cut by_depth x gate_room gate_steps game work (omega arith)

module _ (x : Input) where
  abbrev gate_game : List ℕ
  gate_game = replicate (game_length gate_room) 0

  abbrev gate_work : List ℕ
  gate_work = replicate (work_length gate_room) 0

  gate_ranked : Accepted (gate_run x).answer → (i : ℕ) → by_depth x i < 4_294_967_296
  unfolding gate_run
  gate_ranked n = go (refusal x gate_room (length gate_game) (length gate_work)) refl
    where
      go : (c : Check) → refusal x gate_room (length gate_game) (length gate_work) ≡ c → (i : ℕ)
          → by_depth x i < 4_294_967_296
      go (Err f) e i =
          let q = run_refused by_depth x gate_room gate_steps gate_game gate_work f.number f.place e in
          absurd (subst (λ (u : Outcome). Accepted u.answer) q n)
      go (Ok u) e i =
          let good = accepted_words x gate_room (length gate_game) (length gate_work) e in
          by_depth_fits (size x.actions) x good.formula i

  pub gate_shown : Accepted (gate_run x).answer → Shown (gate_run x).game
  unfolding gate_run gate_room
  gate_shown n = run_shown by_depth x gate_room gate_steps gate_game gate_work (omega arith) (omega arith) (gate_ranked n) n

  pub gate_small : SmallAnswer (gate_run x).answer
  unfolding gate_run gate_room
  gate_small = run_small by_depth x gate_room gate_steps gate_game gate_work (omega arith) (omega arith)
