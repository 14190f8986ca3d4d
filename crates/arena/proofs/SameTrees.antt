-- Labels and action formulas in other words: if each action formula has the same tree and each label the same multiset,
-- then items, owners, targets with the transitions behind them, and depths are the same, and for every ranking that
-- gives both inputs the same ranks the whole run is. Assumes nothing.
use mathlib.Core.Path.{◌≡◌, refl, sym, ap, ap₂, ◌∙◌}
use mathlib.Core.Bool.{cond}
use mathlib.Core.List.{List, [], ◌∷◌, ◌++◌, map}
use Prim.Native.Nat.{ℕ, zero, suc, ◌+◌, ◌*◌, ◌/◌, ◌<◌}
use native.Mathlib.Decide.{dec_lt}
use native.Mathlib.Omega.{arith}
use lib.Dec.{eqb, ltb}
use lib.ListN.{get_or, length}
use Rattle.rules.specs.Answers.{Check}
use Rattle.rules.specs.Lists.{In, from, largest, has, position, once}
use Rattle.rules.specs.declared.Room.{Room}
use Rattle.rules.specs.Words.{Input}
use Rattle.rules.specs.Labels.{multiset}
use Rattle.rules.specs.System.{transition_label, transition_target, transitions}
use Rattle.rules.specs.Table.{size, kind, operand, decode_action, action_node}
use Rattle.rules.specs.Table.{FormulaNode, truth_node, falsity_node, and_node, or_node, box_node, diamond_node, least_node, greatest_node, reference_node, no_formula_node, formula_node}
use Rattle.rules.specs.Actions.{Action, multi_action, union, intersection, negation, action_of, action_to, action_tree, matches}
use Rattle.rules.specs.Formula.{Equation, equations, equation_count, equation_of, Formula, truth, falsity, conjunction, disjunction, box, diamond, reference}
use Rattle.rules.specs.Formula.{formula_of, formula_to, formula_tree, body_tree, body_nodes}
use Rattle.rules.specs.Depth.{references, contribution, reading_to, reading, depth, Ranking, least_bit, by_depth}
use Rattle.rules.specs.Items.{alike, Item, equation, subformula, subformulas, items, item_number}
use Rattle.rules.specs.Pairs.{Pair, same_pair, initial_pair, item_at, item_owner, owner, priority, matching_transitions}
use Rattle.rules.specs.Pairs.{successors, formula_targets, item_targets, targets}
use Rattle.rules.specs.Pairs.{formula_transitions, item_transitions, modal_transitions, leading_to, transitions_behind}
use Rattle.rules.specs.Walk.{Stand, walk}
use Rattle.rules.specs.Game.{Vertex}
use Rattle.rules.specs.Refusal.{refusal}
use Rattle.rules.specs.Run.{Outcome, walk_of, walk_outcome, refused_or, run}
use Rattle.rules.specs.Vertices.{Ruled, ruled_edge, ruled_vertex, totalised, settled_vertex, waiting_vertex, vertex_at, vertices_of}
use Rattle.lists.proofs.Filters.{filter-agree}
use Rattle.tables.proofs.Decode.{action-at, action_past}
use Rattle.arena.specs.Reworded.{reworded, SameRanks, SameActions}

-- ---- action formulas

of_same : (t u : ℕ → Action) → ((w : ℕ) → t w ≡ u w) → (ls ls' : List ℕ) (v o o' k : ℕ) → ((¬ (k ≡ 2)) → o' ≡ o) → (k ≡ 2 → multiset ls' o' ≡ multiset ls o)
    → action_of t ls' v (decode_action k o') ≡ action_of u ls v (decode_action k o)
unfolding action_of decode_action
of_same t u e ls ls' v o o' zero p q = refl
of_same t u e ls ls' v o o' (suc zero) p q = refl
of_same t u e ls ls' v o o' (suc (suc zero)) p q = ap multi_action (q refl)
of_same t u e ls ls' v o o' (suc (suc (suc zero))) p q = ap₂ union (e (suc v)) (e o' ∙ ap u (p (λ z. omega arith)))
of_same t u e ls ls' v o o' (suc (suc (suc (suc zero)))) p q = ap₂ intersection (e (suc v)) (e o' ∙ ap u (p (λ z. omega arith)))
of_same t u e ls ls' v o o' (suc (suc (suc (suc (suc zero))))) p q = ap negation (e (suc v))
of_same t u e ls ls' v o o' (suc (suc (suc (suc (suc (suc k)))))) p q = refl

module _ (ls ls' acts acts' : List ℕ) (same : SameActions ls ls' acts acts') where
  same_to : (d v : ℕ) → action_to d ls' acts' v ≡ action_to d ls acts v
  unfolding action_to action_of
  same_to zero v = refl
  same_to (suc d) v = go (λ w. same_to d w) (dec_lt v (size acts))
    where
      go : ((w : ℕ) → action_to d ls' acts' w ≡ action_to d ls acts w) → Dec (v < size acts)
          → action_of (λ u. action_to d ls' acts' u) ls' v (action_node acts' v) ≡ action_of (λ u. action_to d ls acts u) ls v (action_node acts v)
      go e (yes h) =
          ap (action_of (λ u. action_to d ls' acts' u) ls' v)
          (action-at acts' v (let z = same.sizes in omega arith) ∙ ap (λ (k : ℕ). decode_action k (operand acts' v)) (same.kinds v h))
          ∙ of_same (λ u. action_to d ls' acts' u) (λ u. action_to d ls acts u) e ls ls' v (operand acts v) (operand acts' v) (kind acts v) (same.operands v h) (same.named v h)
          ∙ ap (action_of (λ u. action_to d ls acts u) ls v) (sym (action-at acts v h))
      go e (no h) =
          ap (action_of (λ u. action_to d ls' acts' u) ls' v) (action_past acts' v (let z = same.sizes in omega arith))
          ∙ ap (action_of (λ u. action_to d ls acts u) ls v) (sym (action_past acts v (omega arith)))

  pub same_actions : (v : ℕ) → action_tree ls' acts' v ≡ action_tree ls acts v
  unfolding action_tree
  same_actions v = ap (λ (d : ℕ). action_to d ls' acts' v) same.sizes ∙ same_to (size acts) v

module _ (x : Input) (ls' acts' : List ℕ) (trees : (v : ℕ) → action_tree ls' acts' v ≡ action_tree x.labels x.actions v) where
  -- ---- subformulas and items

  body_of_same : (t u : ℕ → Formula) → ((w : ℕ) → t w ≡ u w) → (v : ℕ) (n : FormulaNode) → formula_of t (reworded x ls' acts') v n ≡ formula_of u x v n
  unfolding formula_of
  body_of_same t u e v truth_node = refl
  body_of_same t u e v falsity_node = refl
  body_of_same t u e v (and_node r) = ap₂ conjunction (e (suc v)) (e r)
  body_of_same t u e v (or_node r) = ap₂ disjunction (e (suc v)) (e r)
  body_of_same t u e v (box_node a) = ap₂ box (trees a) (e (suc v))
  body_of_same t u e v (diamond_node a) = ap₂ diamond (trees a) (e (suc v))
  body_of_same t u e v least_node = refl
  body_of_same t u e v greatest_node = refl
  body_of_same t u e v (reference_node w) = refl
  body_of_same t u e v no_formula_node = refl

  formula_to_same : (d v : ℕ) → formula_to d (reworded x ls' acts') v ≡ formula_to d x v
  unfolding formula_to
  formula_to_same zero v = refl
  formula_to_same (suc d) v = body_of_same (λ u. formula_to d (reworded x ls' acts') u) (λ u. formula_to d x u) (λ u. formula_to_same d u) v (formula_node x.formula v)

  pub same_formulas : (v : ℕ) → formula_tree (reworded x ls' acts') v ≡ formula_tree x v
  unfolding formula_tree
  same_formulas v = formula_to_same (size x.formula) v

  pub same_bodies : (e : Equation) → body_tree (reworded x ls' acts') e ≡ body_tree x e
  unfolding body_tree
  same_bodies e = same_formulas e.body

  pub same_subformulas : subformulas (reworded x ls' acts') ≡ subformulas x
  unfolding subformulas
  same_subformulas = ap (λ (t : ℕ → Formula). once alike (map t (body_nodes x.formula))) (λ i v. same_formulas v i)

  pub same_items : items (reworded x ls' acts') ≡ items x
  unfolding items
  same_items = ap (λ (l : List Formula). map equation (equations x.formula) ++ map subformula l) same_subformulas

  pub same_numbers : (t : Formula) → item_number (reworded x ls' acts') t ≡ item_number x t
  unfolding item_number
  same_numbers t = ap (λ (l : List Formula). equation_count x.formula + position alike t l) same_subformulas

  -- ---- owners, depths, priorities

  pub same_item_at : (q : ℕ) → item_at (reworded x ls' acts') q ≡ item_at x q
  unfolding item_at
  same_item_at q = ap (λ (l : List Item). get_or l q (subformula truth)) same_items

  pub same_owners : (p : Pair) → owner (reworded x ls' acts') p ≡ owner x p
  unfolding owner
  same_owners p = ap item_owner (same_item_at p.1)

  reading_to_same : (d t i : ℕ) → reading_to d (reworded x ls' acts') t i ≡ reading_to d x t i
  unfolding reading_to
  reading_to_same zero t i = refl
  reading_to_same (suc d) t i =
      ap₂ (λ (r : ℕ → ℕ) (b : Formula). largest (map (λ j. contribution x.formula t i j (r j)) (references b)))
      (λ k j. reading_to_same d t j k) (same_bodies (equation_of x.formula i))

  pub same_depths : (i : ℕ) → depth (reworded x ls' acts') i ≡ depth x i
  unfolding depth reading
  same_depths i = reading_to_same (equation_count x.formula) i i

  pub same_ranks : SameRanks by_depth x (reworded x ls' acts')
  unfolding by_depth
  same_ranks i = ap (λ (d : ℕ). 2 * (d / 2) + least_bit (equation_of x.formula i).operator) (same_depths i)

  pub same_priorities : (rank : Ranking) → SameRanks rank x (reworded x ls' acts')
      → (p : Pair) → priority rank (reworded x ls' acts') p ≡ priority rank x p
  unfolding priority
  same_priorities rank ranks p = ap (λ (r : ℕ). cond (ltb p.1 (equation_count x.formula)) r 0) (ranks p.1)

  -- ---- targets

  -- of a state whose transitions have labels with the same multisets
  module _ (s : ℕ) (names : (t : ℕ) → In t (transitions x.system s)
      → multiset ls' (transition_label x.system t) ≡ multiset x.labels (transition_label x.system t)) where
    pub same_matching : (a : Action) → matching_transitions (reworded x ls' acts') a s ≡ matching_transitions x a s
    unfolding matching_transitions
    same_matching a =
        filter-agree (λ t. matches (multiset ls' (transition_label x.system t)) a)
        (λ t. matches (multiset x.labels (transition_label x.system t)) a)
        (transitions x.system s) (λ t m. ap (λ (l : ℕ). matches l a) (names t m))

    pub same_successors : (a : Action) → successors (reworded x ls' acts') a s ≡ successors x a s
    unfolding successors
    same_successors a = ap (λ (ts : List ℕ). once eqb (map (transition_target x.system) ts)) (same_matching a)

    formula_targets_same : (t : Formula) → formula_targets (reworded x ls' acts') s t ≡ formula_targets x s t
    unfolding formula_targets
    formula_targets_same truth = refl
    formula_targets_same falsity = refl
    formula_targets_same (conjunction l r) = λ i. (s, same_numbers l i) ∷ (s, same_numbers r i) ∷ []
    formula_targets_same (disjunction l r) = λ i. (s, same_numbers l i) ∷ (s, same_numbers r i) ∷ []
    formula_targets_same (box a b) = λ i. map (λ t. (t, same_numbers b i)) (same_successors a i)
    formula_targets_same (diamond a b) = λ i. map (λ t. (t, same_numbers b i)) (same_successors a i)
    formula_targets_same (reference j) = refl

    item_targets_same : (i : Item) → item_targets (reworded x ls' acts') s i ≡ item_targets x s i
    unfolding item_targets
    item_targets_same (equation e) = ap (λ (k : ℕ). (s, k) ∷ []) (same_numbers (body_tree (reworded x ls' acts') e) ∙ ap (item_number x) (same_bodies e))
    item_targets_same (subformula t) = formula_targets_same t

    pub same_targets : (q : ℕ) → targets (reworded x ls' acts') (s, q) ≡ targets x (s, q)
    unfolding targets
    same_targets q = item_targets_same (item_at (reworded x ls' acts') q) ∙ ap (item_targets x s) (same_item_at q)

    -- and the transitions behind each edge

    formula_transitions_same : (t : Formula) → formula_transitions (reworded x ls' acts') s t ≡ formula_transitions x s t
    unfolding formula_transitions
    formula_transitions_same truth = refl
    formula_transitions_same falsity = refl
    formula_transitions_same (conjunction l r) = refl
    formula_transitions_same (disjunction l r) = refl
    formula_transitions_same (box a b) = same_matching a
    formula_transitions_same (diamond a b) = same_matching a
    formula_transitions_same (reference j) = refl

    item_transitions_same : (i : Item) → item_transitions (reworded x ls' acts') s i ≡ item_transitions x s i
    unfolding item_transitions
    item_transitions_same (equation e) = refl
    item_transitions_same (subformula t) = formula_transitions_same t

    pub same_transitions : (q : ℕ) → modal_transitions (reworded x ls' acts') (s, q) ≡ modal_transitions x (s, q)
    unfolding modal_transitions
    same_transitions q =
        item_transitions_same (item_at (reworded x ls' acts') q) ∙ ap (item_transitions x s) (same_item_at q)

    pub same_behind : (q : ℕ) (r : Pair)
        → transitions_behind (reworded x ls' acts') (s, q) r ≡ transitions_behind x (s, q) r
    unfolding transitions_behind
    same_behind q r =
        ap (λ (ts : List ℕ). leading_to x ts r.0) (same_transitions q)

  -- ---- runs, where all labels have the same multisets

  module _ (names : (l : ℕ) → multiset ls' l ≡ multiset x.labels l) where
    all-targets : targets (reworded x ls' acts') ≡ targets x
    all-targets i p = same_targets p.0 (λ t m. names (transition_label x.system t)) p.1 i

    all_behind : transitions_behind (reworded x ls' acts') ≡ transitions_behind x
    all_behind i p q = same_behind p.0 (λ t m. names (transition_label x.system t)) p.1 q i

    pub same_walk : (k : ℕ) → walk_of (reworded x ls' acts') k ≡ walk_of x k
    unfolding walk_of
    same_walk k = ap (λ (next : Pair → List Pair). walk same_pair next (initial_pair x) k) all-targets

    module _ (rank : Ranking) (ranks : SameRanks rank x (reworded x ls' acts')) where
      same_ruled : (st : Stand Pair) (p : Pair) → ruled_vertex rank (reworded x ls' acts') st p ≡ ruled_vertex rank x st p
      unfolding ruled_vertex ruled_edge
      same_ruled st p i =
          record {
            owner = same_owners p i;
            priority = same_priorities rank ranks p i;
            edges = map (λ q. record { target = position same_pair q st.known; count = all_behind i p q }) (all-targets i p);
          }

      same_vertex : (st : Stand Pair) (v : ℕ) → vertex_at rank (reworded x ls' acts') st v ≡ vertex_at rank x st v
      unfolding vertex_at
      same_vertex st v =
          let p = get_or st.known v (initial_pair x) in
          ap (λ (r : Ruled). cond (has eqb v st.waiting) (waiting_vertex p) (settled_vertex p (totalised v r)))
          (same_ruled st p)

      pub same_vertices : (st : Stand Pair) → vertices_of rank (reworded x ls' acts') st ≡ vertices_of rank x st
      unfolding vertices_of
      same_vertices st i = map (λ v. same_vertex st v i) (from 0 (length st.known))

      -- the run is word for word the same, if both are refused or accepted alike
      pub same_run : (r : Room) (k : ℕ) (game work : List ℕ)
          → refusal (reworded x ls' acts') r (length game) (length work) ≡ refusal x r (length game) (length work)
          → run rank (reworded x ls' acts') r k game work ≡ run rank x r k game work
      unfolding run
      same_run r k game work e =
          ap₂ (λ (c : Check) (o : Outcome). refused_or c o game work) e
          (ap (λ (st : Stand Pair). walk_outcome r st (vertices_of rank (reworded x ls' acts') st) game work) (same_walk k)
          ∙ ap (λ (vs : List Vertex). walk_outcome r (walk_of x k) vs game work) (same_vertices (walk_of x k)))
