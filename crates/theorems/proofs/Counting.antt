-- The counts of a vertex's edges sum to the matching transitions of its pair's modality, in a cut game too (document
-- 02, #102). Assumes nothing.
use mathlib.Core.Path.{◌≡◌, refl, sym, ap, ◌∙◌, subst}
use mathlib.Core.List.{List, [], ◌∷◌, ◌++◌, map, map-map, append-nil}
use mathlib.Core.Logic.{◌⊎◌, inl, inr}
use Prim.Native.Nat.{ℕ, zero, suc, ◌+◌, ◌≤◌, ◌<◌}
use native.Mathlib.Omega.{arith}
use lib.Dec.{eqb}
use lib.ListN.{length, length-map}
use Rattle.player.specs.declared.Player.{Player}
use Rattle.rules.specs.declared.Answer.{Answer}
use Rattle.rules.specs.Lists.{word, In, sum, zeros, occurrences, once}
use Rattle.rules.specs.Words.{Input}
use Rattle.rules.specs.System.{transition_target}
use Rattle.rules.specs.Actions.{Action}
use Rattle.rules.specs.Formula.{Formula, truth, falsity, conjunction, disjunction, box, diamond, reference}
use Rattle.rules.specs.Depth.{Ranking}
use Rattle.rules.specs.Items.{Item, equation, subformula, item_number}
use Rattle.rules.specs.Pairs.{Pair, item_at, owner, priority, matching_transitions, successors, leading_to}
use Rattle.rules.specs.Pairs.{formula_targets, item_targets}
use Rattle.rules.specs.Pairs.{targets, formula_transitions, item_transitions, modal_transitions, transitions_behind}
use Rattle.rules.specs.Game.{vertex_count, owner_in, priority_in, pair_in, targets_in, counts_in}
use Rattle.rules.specs.Demands.{Lead, Totalised, SettledRow, CutTheorem}
use Rattle.lists.proofs.Members.{in_map}
use Rattle.lists.proofs.Inserts.{once_in}
use Rattle.lists.proofs.Equalities.{number_equality}
use Rattle.lists.proofs.Occurrences.{in_count, occurs_most, once_sum}

-- ---- what these transitions are: those that match the modality's action formula, in the pair's state

-- the pair's item is a box or a diamond, of this action formula and this operand
abbrev pub Modality : Input → Pair → Action → Formula → Type 0
Modality x p a b = (item_at x p.1 ≡ subformula (box a b)) ⊎ (item_at x p.1 ≡ subformula (diamond a b))

pub modal_transitions_matching : (x : Input) (p : Pair) (a : Action) (b : Formula) → Modality x p a b
    → modal_transitions x p ≡ matching_transitions x a p.0
unfolding modal_transitions item_transitions formula_transitions
modal_transitions_matching x p a b (inl e) = ap (item_transitions x p.0) e
modal_transitions_matching x p a b (inr e) = ap (item_transitions x p.0) e

-- and where the item is neither there are none
other_transitions : (x : Input) (p : Pair) → ((a : Action) (b : Formula) → ¬ Modality x p a b) → modal_transitions x p ≡ []
unfolding modal_transitions item_transitions formula_transitions
other_transitions x p n = go (item_at x p.1) refl
  where
    go : (i : Item) → item_at x p.1 ≡ i → item_transitions x p.0 i ≡ []
    go (equation e) m = refl
    go (subformula truth) m = refl
    go (subformula falsity) m = refl
    go (subformula (conjunction l r)) m = refl
    go (subformula (disjunction l r)) m = refl
    go (subformula (box a b)) m = absurd (n a b (inl m))
    go (subformula (diamond a b)) m = absurd (n a b (inr m))
    go (subformula (reference i)) m = refl

modal_targets : (x : Input) (p : Pair) (a : Action) (b : Formula) → Modality x p a b
    → targets x p ≡ map (λ t. (t, item_number x b)) (successors x a p.0)
unfolding targets item_targets formula_targets
modal_targets x p a b (inl e) = ap (item_targets x p.0) e
modal_targets x p a b (inr e) = ap (item_targets x p.0) e

-- ---- the counts that the rules give

-- of the transitions ts those that lead to the state of q
abbrev counted : Input → List ℕ → Pair → ℕ
counted x ts q = leading_to x ts q.0

-- each of the transitions leads to exactly one of the modality's targets
matching_sum : (x : Input) (s : ℕ) (a : Action) (n : ℕ)
    → sum (map (counted x (matching_transitions x a s)) (map (λ t. (t, n)) (successors x a s)))
    ≡ length (matching_transitions x a s)
unfolding successors
matching_sum x s a n =
    let ends : List ℕ = map (transition_target x.system) (matching_transitions x a s) in
    ap sum (map-map (counted x (matching_transitions x a s)) (λ (t : ℕ). (t, n)) (once eqb ends))
    ∙ once_sum ends
    ∙ length-map (matching_transitions x a s) (transition_target x.system)

formula_sum : (x : Input) (s : ℕ) (f : Formula)
    → sum (map (counted x (formula_transitions x s f)) (formula_targets x s f)) ≡ length (formula_transitions x s f)
unfolding formula_transitions formula_targets sum occurrences
formula_sum x s truth = refl
formula_sum x s falsity = refl
formula_sum x s (conjunction l r) = refl
formula_sum x s (disjunction l r) = refl
formula_sum x s (box a b) = matching_sum x s a (item_number x b)
formula_sum x s (diamond a b) = matching_sum x s a (item_number x b)
formula_sum x s (reference i) = refl

item_sum : (x : Input) (s : ℕ) (i : Item)
    → sum (map (counted x (item_transitions x s i)) (item_targets x s i)) ≡ length (item_transitions x s i)
unfolding item_transitions item_targets sum occurrences
item_sum x s (equation e) = refl
item_sum x s (subformula f) = formula_sum x s f

-- a pair without a modality has no such transitions, and the counts of its edges are 0
pub counts_sum : (x : Input) (p : Pair)
    → sum (map (transitions_behind x p) (targets x p)) ≡ length (modal_transitions x p)
unfolding transitions_behind modal_transitions targets
counts_sum x p = item_sum x p.0 (item_at x p.1)

-- a transition stands behind each edge of a modality
pub modal_count : (x : Input) (p : Pair) (a : Action) (b : Formula) → Modality x p a b
    → (q : Pair) → In q (targets x p) → 1 ≤ transitions_behind x p q
unfolding transitions_behind successors
modal_count x p a b m q i =
    let ends : List ℕ = map (transition_target x.system) (matching_transitions x a p.0) in
    let to : In q (map (λ t. (t, item_number x b)) (once eqb ends)) =
    subst (In q) (modal_targets x p a b m) i in
    let (t, met, same) = in_map (λ t. (t, item_number x b)) q (once eqb ends) to in
    let stands : In q.0 ends =
    subst (λ (s : ℕ). In s ends) (sym (ap (λ (r : Pair). r.0) same)) ((once_in number_equality ends t).0 met) in
    subst (λ ts. 1 ≤ leading_to x ts q.0)
    (sym (modal_transitions_matching x p a b m)) (in_count q.0 ends stands)

-- ---- the counts that a game shows

sum_zeros : (xs : List ℕ) → sum (zeros xs) ≡ 0
unfolding sum zeros
sum_zeros [] = refl
sum_zeros (x ∷ xs) = omega (arith, sum_zeros xs)

more_zeros : (cs xs : List ℕ) → sum (cs ++ zeros xs) ≡ sum cs
unfolding sum
more_zeros [] xs = sum_zeros xs
more_zeros (c ∷ cs) xs = ap (λ (n : ℕ). c + n) (more_zeros cs xs)

zero_word : (xs : List ℕ) (i : ℕ) → word (zeros xs) i ≡ 0
unfolding zeros
zero_word [] i = refl
zero_word (x ∷ xs) zero = refl
zero_word (x ∷ xs) (suc i) = zero_word xs i

at_most_sum : (n : ℕ) (ns : List ℕ) → In n ns → n ≤ sum ns
unfolding sum
at_most_sum n [] i = absurd i
at_most_sum n (m ∷ ns) (inl e) = omega (arith, e)
at_most_sum n (m ∷ ns) (inr i) = omega (arith, at_most_sum n ns i)

-- a pair without targets has no matching transitions
no_targets : (x : Input) (p q : Pair) → targets x p ≡ [] → transitions_behind x p q ≡ 0
unfolding transitions_behind sum
no_targets x p q none =
    let ends : List ℕ = map (transition_target x.system) (modal_transitions x p) in
    omega (
      arith,
      occurs_most q.0 ends,
      length-map (modal_transitions x p) (transition_target x.system),
      counts_sum x p,
      ap (λ (qs : List Pair). sum (map (transitions_behind x p) qs)) none,
    )

-- a settled vertex that the rules give edges has no others
none_added : (g : List ℕ) (v : ℕ) (o : Player) (n : ℕ) (ruled : List ℕ) (qs : List Pair) (shown : ℕ)
    (added : List ℕ) (q : Pair) → In q qs → Lead g ruled qs → Totalised v o n ruled shown added → added ≡ []
none_added g v o n ruled [] shown added q i l t = absurd i
none_added g v o n [] (r ∷ qs) shown added q i l t = absurd l
none_added g v o n (u ∷ ruled) (r ∷ qs) shown added q i l t = t.1

-- the edges of pair p, one by one: those that the rules give lead to its targets, and where one is added there is no
-- target
module _ (x : Input) (g : List ℕ) (p : Pair) where
  abbrev behind : ℕ → ℕ
  behind u = transitions_behind x p (pair_in g u)

  ruled_count : (us : List ℕ) (qs : List Pair) → Lead g us qs → (i : ℕ) → i < length us
      → word (map (transitions_behind x p) qs) i ≡ behind (word us i)
  ruled_count [] qs l i h = absurd (omega (arith, h))
  ruled_count (u ∷ us) [] l i h = absurd l
  ruled_count (u ∷ us) (q ∷ qs) l zero h = ap (transitions_behind x p) (sym l.0.1)
  ruled_count (u ∷ us) (q ∷ qs) l (suc i) h = ruled_count us qs l.1 i (omega (arith, h))

  edge_count_at : (v : ℕ) (o : Player) (n : ℕ) (ruled : List ℕ) (qs : List Pair) (shown : ℕ) (added : List ℕ)
      → Lead g ruled qs → Totalised v o n ruled shown added → (qs ≡ [] → (q : Pair) → transitions_behind x p q ≡ 0)
      → (i : ℕ) → i < length (ruled ++ added)
      → word (map (transitions_behind x p) qs ++ zeros added) i ≡ behind (word (ruled ++ added) i)
  unfolding zeros
  edge_count_at v o n [] [] shown added l t none i h =
      zero_word added i ∙ sym (none refl (pair_in g (word added i)))
  edge_count_at v o n [] (q ∷ qs) shown added l t none i h = absurd l
  edge_count_at v o n (u ∷ us) [] shown added l t none i h = absurd l
  edge_count_at v o n (u ∷ us) (q ∷ qs) shown added l t none i h =
      let ruled : List ℕ = u ∷ us in
      let counts : List ℕ = map (transitions_behind x p) (q ∷ qs) in
      let whole : ruled ++ added ≡ ruled = ap (λ (bs : List ℕ). ruled ++ bs) t.1 ∙ append-nil ruled in
      ap (λ (bs : List ℕ). word (counts ++ zeros bs) i) t.1
      ∙ ap (λ (ns : List ℕ). word ns i) (append-nil counts)
      ∙ ruled_count ruled (q ∷ qs) l i (omega (arith, h, ap length whole))
      ∙ ap (λ (ts : List ℕ). behind (word ts i)) (sym whole)

-- a settled vertex of a game that a run leaves
module _ {rank : Ranking} {x : Input} {k : ℕ} {a : Answer} {g : List ℕ} (c : CutTheorem rank x k a g)
    (v : ℕ) (known : v < vertex_count g) (settled : owner_in g v < 2) where
  -- its pair, as the game shows it
  abbrev pub pair : Pair
  pair = pair_in g v

  abbrev row : SettledRow rank x g v pair
  row = c.settled v known settled

  -- its counts sum to its matching transitions; an added self-loop adds 0
  pub vertex_counts_sum : sum (counts_in g v) ≡ length (modal_transitions x pair)
  vertex_counts_sum =
      ap sum row.counts ∙ more_zeros (map (transitions_behind x pair) (targets x pair)) row.added ∙ counts_sum x pair

  -- and if it stands for a modality, to the transitions that its action formula matches
  pub vertex_matching_sum : (f : Action) (b : Formula) → Modality x pair f b
      → sum (counts_in g v) ≡ length (matching_transitions x f pair.0)
  vertex_matching_sum f b m = vertex_counts_sum ∙ ap length (modal_transitions_matching x pair f b m)

  -- the count of each of its edges, an added one too, is the number of transitions behind it: those that the rules have
  -- for its pair and that lead to the state of the target's pair
  pub vertex_edge_count : (i : ℕ) → i < length (targets_in g v)
      → word (counts_in g v) i ≡ transitions_behind x pair (pair_in g (word (targets_in g v) i))
  vertex_edge_count i h =
      ap (λ (ns : List ℕ). word ns i) row.counts
      ∙ edge_count_at x g pair v (owner x pair) (priority rank x pair) row.ruled (targets x pair) (priority_in g v)
      row.added row.leads row.total (λ none q. no_targets x pair q none) i (omega (arith, h, ap length row.edges))
      ∙ ap (λ (ts : List ℕ). transitions_behind x pair (pair_in g (word ts i))) (sym row.edges)

  -- if it stands for a modality that has a target, each is 1 or more
  pub vertex_modal_counts : (f : Action) (b : Formula) → Modality x pair f b → (q : Pair) → In q (targets x pair)
      → (n : ℕ) → In n (counts_in g v) → 1 ≤ n
  unfolding zeros
  vertex_modal_counts f b m q i n h =
      let counts : List ℕ = map (transitions_behind x pair) (targets x pair) in
      let none : row.added ≡ [] =
      none_added g v (owner x pair) (priority rank x pair) row.ruled (targets x pair) (priority_in g v) row.added q i
      row.leads row.total in
      let shown : counts_in g v ≡ counts =
      row.counts ∙ ap (λ (us : List ℕ). counts ++ zeros us) none ∙ append-nil counts in
      let (r, met, same) = in_map (transitions_behind x pair) n (targets x pair) (subst (In n) shown h) in
      subst (λ (j : ℕ). 1 ≤ j) (sym same) (modal_count x pair f b m r met)

  -- if it stands for anything else, each is 0
  pub vertex_other_counts : ((f : Action) (b : Formula) → ¬ Modality x pair f b) → (n : ℕ) → In n (counts_in g v) → n ≡ 0
  vertex_other_counts m n i =
      omega (arith, at_most_sum n (counts_in g v) i, vertex_counts_sum, ap length (other_transitions x pair m))
