-- Two rankings give the same answer, and games that differ at most in the priorities of equations' vertices. Assumes
-- nothing.
use mathlib.Core.Path.{◌≡◌, refl, sym, ap, ap₂, ◌∙◌, subst}
use mathlib.Core.Bool.{Bool, true, false, ◌||◌}
use mathlib.Core.List.{List, [], ◌∷◌, map}
use mathlib.Core.Logic.{◌⊎◌, inl, inr, ⊎_elim}
use Prim.Native.Nat.{ℕ, ◌-◌, ◌<◌}
use native.Mathlib.Omega.{arith}
use lib.ListN.{length, get_or}
use lib.Dec.{ltb}
use Rattle.player.specs.declared.Player.{Player}
use Rattle.rules.specs.declared.Answer.TheVariants.{Refused}
use Rattle.rules.specs.Answers.{Check}
use Rattle.std.specs.declared.result.Result.TheVariants.{Ok, Err}
use Rattle.rules.specs.Lists.{In}
use Rattle.rules.specs.declared.Room.{Room}
use Rattle.rules.specs.Words.{Input}
use Rattle.rules.specs.Formula.{equation_count}
use Rattle.rules.specs.Depth.{Ranking}
use Rattle.rules.specs.Pairs.{Pair, initial_pair, owner, priority, targets}
use Rattle.rules.specs.Walk.{Stand}
use Rattle.rules.specs.Game.{Edge, Vertex, edge_count}
use Rattle.rules.specs.Game.{game_of, padded, vertex_count, edges_in, owner_in, priority_in, item_in, pair_in, targets_in}
use Rattle.rules.specs.Game.{counts_in}
use Rattle.rules.specs.Refusal.{refusal}
use Rattle.rules.specs.Run.{Outcome, walk_of, exceeds, built_answer, built_outcome, out_of_room, run}
use Rattle.rules.specs.Vertices.{totalised_by, totalised, settled_vertex, ruled_edge, ruled_vertex, vertices_of}
use Rattle.lists.proofs.Members.{in_or}
use Rattle.lists.proofs.Equalities.{number_equality}
use native.Mathlib.Decide.{dec_lt}
use Rattle.arena.proofs.Priorities.{other_priority}
use Rattle.theorems.proofs.Read.{count_word, row_waits, row_settled, pair_read}
use Rattle.theorems.proofs.Runs.{run_refused, run-exceeds, run_fits, vertices_many, edges_many}

-- g and h show the same vertices, but for the priorities of equations
pub record AlikeButRanks (x : Input) (g h : List ℕ) : Type 0 where
  pub count : vertex_count g ≡ vertex_count h
  pub edges : edges_in g ≡ edges_in h
  pub owners : (v : ℕ) → v < vertex_count g → owner_in g v ≡ owner_in h v
  pub pairs : (v : ℕ) → v < vertex_count g → pair_in g v ≡ pair_in h v
  pub targets : (v : ℕ) → v < vertex_count g → targets_in g v ≡ targets_in h v
  pub counts : (v : ℕ) → v < vertex_count g → counts_in g v ≡ counts_in h v
  pub priorities : (v : ℕ) → v < vertex_count g
      → (priority_in g v ≡ priority_in h v) ⊎ (item_in g v < equation_count x.formula)

-- the two outcomes differ in nothing else
pub record SameButRanks (x : Input) (o p : Outcome) : Type 0 where
  pub answers : o.answer ≡ p.answer
  pub works : o.work ≡ p.work
  pub games : (o.game ≡ p.game) ⊎ AlikeButRanks x o.game p.game

-- what a settled vertex shows, with one priority or another
abbrev shown : Pair → ℕ → Player → ℕ → List Edge → Vertex
shown at v o p es = settled_vertex at (totalised v (record { owner = o; priority = p; edges = es }))

settled-alike : (at : Pair) (v : ℕ) (o : Player) (p q : ℕ) (es : List Edge)
    → ((shown at v o p es).owner ≡ (shown at v o q es).owner) × ((shown at v o p es).edges ≡ (shown at v o q es).edges)
    × ((p ≡ q) → (shown at v o p es).priority ≡ (shown at v o q es).priority)
unfolding settled_vertex totalised totalised_by
settled-alike at v o p q [] = (refl, refl, λ e. refl)
settled-alike at v o p q (e ∷ es) = (refl, refl, λ f. f)

-- the priorities of a pair agree unless its item is an equation
priority_elsewhere : (a b : Ranking) (x : Input) (p : Pair) → (p.1 < equation_count x.formula) ⊎ (priority a x p ≡ priority b x p)
priority_elsewhere a b x p = go (dec_lt p.1 (equation_count x.formula))
  where
    go : Dec (p.1 < equation_count x.formula) → (p.1 < equation_count x.formula) ⊎ (priority a x p ≡ priority b x p)
    go (yes l) = inl l
    go (no l) = inr (other_priority x a p (omega arith) ∙ sym (other_priority x b p (omega arith)))

module _ (a b : Ranking) (x : Input) (r : Room) (k : ℕ) (game work : List ℕ) where
  abbrev st : Stand Pair
  st = walk_of x k

  abbrev va : List Vertex
  va = vertices_of a x st

  abbrev vb : List Vertex
  vb = vertices_of b x st

  many : length va ≡ length vb
  many = vertices_many a x r k game work ∙ sym (vertices_many b x r k game work)

  edged : edge_count va ≡ edge_count vb
  edged = edges_many a x r k game work ∙ sym (edges_many b x r k game work)

  fits_alike : exceeds r va ≡ exceeds r vb
  unfolding exceeds
  fits_alike = ap₂ (λ (m n : ℕ). ltb r.vertices m || ltb r.edges n) many edged

  abbrev ga : List ℕ
  ga = padded (length game) (game_of 0 va)

  abbrev gb : List ℕ
  gb = padded (length game) (game_of 0 vb)

  counts : vertex_count ga ≡ length st.known
  counts = count_word a x st (length game)

  counts_b : vertex_count gb ≡ length st.known
  counts_b = count_word b x st (length game)

  edge_words : edges_in ga ≡ edges_in gb
  unfolding padded game_of
  edge_words = edged

  abbrev Rows : ℕ → Type 0
  Rows v = (owner_in ga v ≡ owner_in gb v) × (targets_in ga v ≡ targets_in gb v) × (counts_in ga v ≡ counts_in gb v)
      × ((priority_in ga v ≡ priority_in gb v) ⊎ ((get_or st.known v (initial_pair x)).1 < equation_count x.formula))

  rows : (v : ℕ) → v < length st.known → Rows v
  unfolding ruled_vertex
  rows v h = go (in_or number_equality v st.waiting)
    where
      p : Pair
      p = get_or st.known v (initial_pair x)

      es : List Edge
      es = map (ruled_edge x st p) (targets x p)

      go : In v st.waiting ⊎ (¬ In v st.waiting) → Rows v
      go (inl w) =
          let ra = row_waits a x st (length game) v h w in
          let rb = row_waits b x st (length game) v h w in (
            ra.owner ∙ sym rb.owner,
            ra.targets ∙ sym rb.targets,
            ra.counts ∙ sym rb.counts,
            inl (ra.priority ∙ sym rb.priority),
          )
      go (inr n) =
          let ra = row_settled a x st (length game) v h n in
          let rb = row_settled b x st (length game) v h n in
          let (o, e, q) = settled-alike p v (owner x p) (priority a x p) (priority b x p) es in (
            ra.owner ∙ o ∙ sym rb.owner,
            ra.targets ∙ ap (map (λ (z : Edge). z.target)) e ∙ sym rb.targets,
            ra.counts ∙ ap (map (λ (z : Edge). z.count)) e ∙ sym rb.counts,
            ⊎_elim (λ l. inr l) (λ s. inl (ra.priority ∙ q s ∙ sym rb.priority)) (priority_elsewhere a b x p),
          )

  same_pairs : (v : ℕ) → v < length st.known → pair_in ga v ≡ pair_in gb v
  same_pairs v h = pair_read a x st (length game) v h ∙ sym (pair_read b x st (length game) v h)

  -- an equation is told by the item that the game shows
  ranked : (v : ℕ) → v < length st.known
      → (priority_in ga v ≡ priority_in gb v) ⊎ (item_in ga v < equation_count x.formula)
  ranked v h =
      ⊎_elim (λ e. inl e)
      (λ l. inr (subst (λ (p : Pair). p.1 < equation_count x.formula) (sym (pair_read a x st (length game) v h)) l))
      (rows v h).3

  abbrev Claim : Outcome → Outcome → Type 0
  Claim = SameButRanks x

  pub rankings : SameButRanks x (run a x r k game work) (run b x r k game work)
  unfolding built_outcome
  rankings = go (refusal x r (length game) (length work)) refl (exceeds r va) refl
    where
      done : exceeds r va ≡ false → Claim (built_outcome st va game work) (built_outcome st vb game work)
      done f =
          record {
            answers = ap₂ (λ (m n : ℕ). built_answer st.waiting (m - length st.waiting) m n) many edged;
            works = refl;
            games = inr (record {
              count = counts ∙ sym counts_b;
              edges = edge_words;
              owners = λ v l. (rows v (omega (arith, counts))).0;
              pairs = λ v l. same_pairs v (omega (arith, counts));
              targets = λ v l. (rows v (omega (arith, counts))).1;
              counts = λ v l. (rows v (omega (arith, counts))).2;
              priorities = λ v l. ranked v (omega (arith, counts));
            });
          }

      same : (o p q : Outcome) → o ≡ q → p ≡ q → Claim o p
      same o p q e f = let s = e ∙ sym f in record { answers = ap (λ (u : Outcome). u.answer) s; works = ap (λ (u : Outcome). u.work) s; games = inl (ap (λ (u : Outcome). u.game) s) }

      go : (c : Check) → refusal x r (length game) (length work) ≡ c → (t : Bool) → exceeds r va ≡ t → Claim (run a x r k game work) (run b x r k game work)
      go (Err g) e t f =
          same (run a x r k game work) (run b x r k game work)
          (record { answer = Refused g.number g.place; game = game; work = work })
          (run_refused a x r k game work g.number g.place e) (run_refused b x r k game work g.number g.place e)
      go (Ok u) e true f =
          same (run a x r k game work) (run b x r k game work) (out_of_room game work)
          (run-exceeds a x r k game work e f) (run-exceeds b x r k game work e (sym fits_alike ∙ f))
      go (Ok u) e false f =
          subst (λ (o : Outcome). Claim o (run b x r k game work)) (sym (run_fits a x r k game work e f))
          (subst (Claim (built_outcome st va game work)) (sym (run_fits b x r k game work e (sym fits_alike ∙ f)))
          (done f))
