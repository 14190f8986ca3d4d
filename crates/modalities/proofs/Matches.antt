-- The targets that transitions give: none, one, and some after others; all of a state's are its successors, and each is
-- given as often as it has matching transitions. Assumes nothing.
use mathlib.Core.Path.{◌≡◌, refl, sym, ap, ap₂, ◌∙◌}
use mathlib.Core.Bool.{Bool, true, false, cond}
use mathlib.Core.List.{List, [], ◌∷◌, ◌++◌, map, map-map}
use Prim.Native.Nat.{ℕ, suc, ◌+◌, ◌-◌, ◌≤◌, ◌<◌}
use native.Mathlib.Omega.{arith}
use lib.Dec.{eqb}
use lib.ListN.{length, length-map}
use Rattle.rules.specs.Lists.{word, In, from, filter, occurrences, once}
use Rattle.rules.specs.Words.{Input}
use Rattle.rules.specs.Labels.{multiset}
use Rattle.rules.specs.System.{transition_label, transition_target, transitions}
use Rattle.rules.specs.Actions.{Action, action_tree, matches}
use Rattle.rules.specs.Pairs.{matching_transitions, successors}
use Rattle.lists.proofs.Ranges.{from-length, from-append, from_snoc, from_in, in_from}
use Rattle.lists.proofs.Members.{map-append, in_map, no_more}
use Rattle.lists.proofs.Filters.{filter_in, filter-append, filter-agree}
use Rattle.lists.proofs.Inserts.{once_map, once_in, once_distinct}
use Rattle.lists.proofs.Equalities.{number_equality}
use Rattle.lists.proofs.Occurrences.{occurs_map}
use Rattle.pairs.specs.Slot.{key_of}
use Rattle.settling.specs.Made.{tallies}
use Rattle.modalities.specs.declared.Modality.{Modality}
use Rattle.modalities.specs.declared.model.ModelTables.{ModelTables}
use Rattle.modalities.specs.declared.moves.Moves.{Moves}
use Rattle.modalities.specs.Matched.{first_moves, moves_in, state_moves, passing_keys, matched_keys, answered_keys, answer, Answered}
use Rattle.modalities.specs.Matched.{OfState, model_in, modality_keys, modality_counts}

-- a test chooses no more than there are
chosen : {A : Type 0} (f : A → Bool) (xs : List A) → length (filter f xs) ≤ length xs
unfolding filter
chosen f [] = omega arith
chosen f (x ∷ xs) = go (f x) (chosen f xs)
  where
    go : (b : Bool) → length (filter f xs) ≤ length xs
        → length (cond b (x ∷ filter f xs) (filter f xs)) ≤ suc (length xs)
    go true h = omega arith
    go false h = omega arith

-- to choose among images is to choose among what they come from
chosen_images : {A B : Type 0} (f : B → Bool) (g : A → B) (xs : List A)
    → filter f (map g xs) ≡ map g (filter (λ x. f (g x)) xs)
unfolding filter
chosen_images f g [] = refl
chosen_images f g (x ∷ xs) = go (f (g x)) (chosen_images f g xs)
  where
    go : (b : Bool) → filter f (map g xs) ≡ map g (filter (λ x. f (g x)) xs)
        → cond b (g x ∷ filter f (map g xs)) (filter f (map g xs))
        ≡ map g (cond b (x ∷ filter (λ x. f (g x)) xs) (filter (λ x. f (g x)) xs))
    go true e = ap (λ (l : List _). g x ∷ l) e
    go false e = e

-- ---- the first transitions that are read

module _ (labels targets : List ℕ) where
  move : ℕ → ℕ × ℕ
  move i = (word labels i, word targets i)

  -- one more
  pub moves_snoc : (i : ℕ) → first_moves labels targets (i + 1)
      ≡ first_moves labels targets i ++ ((word labels i, word targets i) ∷ [])
  unfolding move
  moves_snoc i =
      let d : i + 1 ≡ suc i = omega arith in
      let z : 0 + i ≡ i = omega arith in
      ap (first_moves labels targets) d ∙ ap (map move) (from_snoc 0 i) ∙ map-append move (from 0 i) ((0 + i) ∷ [])
      ∙ ap (λ (j : ℕ). first_moves labels targets i ++ (move j ∷ [])) z

  -- the first ones, and those after them
  pub moves_split : (i n : ℕ) → i ≤ n → first_moves labels targets n
      ≡ first_moves labels targets i ++ map (λ i. (word labels i, word targets i)) (from i (n - i))
  unfolding move
  moves_split i n h =
      let d : n ≡ i + (n - i) = omega arith in
      let z : 0 + i ≡ i = omega arith in
      ap (first_moves labels targets) d ∙ ap (map move) (from-append 0 i (n - i))
      ∙ map-append move (from 0 i) (from (0 + i) (n - i))
      ∙ ap (λ (j : ℕ). first_moves labels targets i ++ map move (from j (n - i))) z

-- ---- those that pass a test of their labels

module _ (passes : ℕ → Bool) (item : ℕ) where
  pub passing_none : passing_keys passes item [] ≡ []
  unfolding passing_keys filter
  passing_none = refl

  pub passing_append : (ms ns : List (ℕ × ℕ))
      → passing_keys passes item (ms ++ ns) ≡ passing_keys passes item ms ++ passing_keys passes item ns
  unfolding passing_keys
  passing_append ms ns =
      let told : ℕ × ℕ → Bool = λ m. passes m.0 in
      ap (map (λ m. key_of m.1 item)) (filter-append told ms ns)
      ∙ map-append (λ m. key_of m.1 item) (filter told ms) (filter told ns)

  -- not more keys than transitions
  pub passing_most : (ms : List (ℕ × ℕ)) → length (passing_keys passes item ms) ≤ length ms
  unfolding passing_keys
  passing_most ms =
      let told : ℕ × ℕ → Bool = λ m. passes m.0 in
      omega (arith, length-map (filter told ms) (λ m. key_of m.1 item), chosen told ms)

  -- one transition: its label says whether it gives a target
  module _ (label target : ℕ) where
    pub one_target : passes label ≡ true → passing_keys passes item ((label, target) ∷ []) ≡ key_of target item ∷ []
    unfolding passing_keys filter
    one_target e = rw e refl

    pub no_target : passes label ≡ false → passing_keys passes item ((label, target) ∷ []) ≡ []
    unfolding passing_keys filter
    no_target e = rw e refl

-- right answers choose the transitions that match
pub answered_matched : (ls : List ℕ) (a : Action) (answers : List Bool) (item : ℕ) (labels targets : List ℕ) (n : ℕ)
    → Answered ls a answers labels n
    → answered_keys answers item (first_moves labels targets n) ≡ matched_keys ls a item (first_moves labels targets n)
unfolding passing_keys
answered_matched ls a answers item labels targets n k =
    ap (map (λ m. key_of m.1 item))
    (filter-agree (λ m. answer answers m.0) (λ m. matches (multiset ls m.0) a) (first_moves labels targets n) (λ m within.
    let (i, inside, e) = in_map (λ i. (word labels i, word targets i)) m (from 0 n) within in
    let (p, q) = in_from i 0 n inside in
    rw e (k i (omega arith))))

-- ---- keys of one item are alike only for one state

-- so each key once is each state once,
keys_once : (item : ℕ) (xs : List ℕ) → once eqb (map (λ s. key_of s item) xs) ≡ map (λ s. key_of s item) (once eqb xs)
keys_once item xs =
    once_map number_equality number_equality (λ s. key_of s item) (λ s. Unit {0}) (λ p q f g e. omega arith) xs
    (λ s m. tt)

-- there are no more different keys than states,
pub passing_once : (passes : ℕ → Bool) (item : ℕ) (ms : List (ℕ × ℕ)) (n : ℕ)
    → ((m : ℕ × ℕ) → In m ms → m.1 < n) → length (once eqb (passing_keys passes item ms)) ≤ n
unfolding passing_keys
passing_once passes item ms n below =
    let told : ℕ × ℕ → Bool = λ m. passes m.0 in
    let goals = map (λ (m : ℕ × ℕ). m.1) (filter told ms) in
    let inside : (s : ℕ) → In s (once eqb goals) → In s (from 0 n) = λ s i.
    let (m, k, e) = in_map (λ (m : ℕ × ℕ). m.1) s (filter told ms) ((once_in number_equality goals s).0 i) in
    from_in s 0 n (omega arith) (omega (arith, e, below m (filter_in told m ms k))) in
    omega (
      arith,
      ap (λ (l : List ℕ). length (once eqb l)) (map-map (λ s. key_of s item) (λ (m : ℕ × ℕ). m.1) (filter told ms)),
      ap length (keys_once item goals),
      length-map (once eqb goals) (λ s. key_of s item),
      no_more (once eqb goals) (from 0 n) (once_distinct number_equality goals) inside,
      from-length 0 n,
    )

-- and a key is met as often as its state is: the counts of keys, each key taken once, are those of the states
pub keys_tallies : (item : ℕ) (xs : List ℕ)
    → tallies (map (λ s. key_of s item) xs) ≡ map (λ s. occurrences eqb s xs) (once eqb xs)
unfolding tallies
keys_tallies item xs =
    ap (map (λ t. occurrences eqb t (map (λ s. key_of s item) xs))) (keys_once item xs) ∙ each (once eqb xs)
  where
    each : (ys : List ℕ) → map (λ t. occurrences eqb t (map (λ s. key_of s item) xs)) (map (λ s. key_of s item) ys)
        ≡ map (λ s. occurrences eqb s xs) ys
    each [] = refl
    each (y ∷ ys) = ap₂ ◌∷◌ (occurs_map (λ s. key_of s item) y xs (λ x m e. omega arith)) (each ys)

-- ---- all transitions of a state

-- the keys of its successors, and how many of its matching transitions lead to each
module _ (x : Input) (a : Action) (item s : ℕ) where
  abbrev met : List ℕ
  met = map (transition_target x.system) (matching_transitions x a s)

  matched_met : matched_keys x.labels a item (state_moves x.system s) ≡ map (λ t. key_of t item) met
  unfolding passing_keys matching_transitions
  matched_met =
      let move : ℕ → ℕ × ℕ = λ t. (transition_label x.system t, transition_target x.system t) in
      let fits : ℕ × ℕ → Bool = λ m. matches (multiset x.labels m.0) a in
      let chosen-ones = filter (λ t. matches (multiset x.labels (transition_label x.system t)) a) (transitions x.system s) in
      ap (map (λ m. key_of m.1 item)) (chosen_images fits move (transitions x.system s))
      ∙ map-map (λ (m : ℕ × ℕ). key_of m.1 item) move chosen-ones
      ∙ sym (map-map (λ t. key_of t item) (transition_target x.system) chosen-ones)

  matched_all : once eqb (matched_keys x.labels a item (state_moves x.system s))
      ≡ map (λ t. key_of t item) (successors x a s)
  unfolding successors
  matched_all = ap (once eqb) matched_met ∙ keys_once item met

  tallied_all : tallies (matched_keys x.labels a item (state_moves x.system s))
      ≡ map (λ t. occurrences eqb t met) (successors x a s)
  unfolding successors
  tallied_all = ap tallies matched_met ∙ keys_tallies item met

-- the same for a modality, where the transitions that are read are those of its state
module _ (x : Input) (m : Modality) (moves : Moves) (of : OfState x.system m.state moves) where
  pub matched_modality : once eqb (matched_keys x.labels (action_tree x.labels x.actions m.action) m.operand (moves_in moves))
      ≡ modality_keys x m
  matched_modality = rw of.moves (matched_all x (action_tree x.labels x.actions m.action) m.operand m.state)

  pub tallied_modality : tallies (matched_keys x.labels (action_tree x.labels x.actions m.action) m.operand (moves_in moves))
      ≡ modality_counts x m
  tallied_modality = rw of.moves (tallied_all x (action_tree x.labels x.actions m.action) m.operand m.state)

-- a state's successors are the same whatever the formula's words are: they are not looked at
module _ (t : ModelTables) (x : Input) (same-labels : t.labels.now ≡ x.labels) (same-system : t.system.now ≡ x.system)
    (same-actions : t.actions.now ≡ x.actions) (m : Modality) where
  pub model_keys : modality_keys (model_in t) m ≡ modality_keys x m
  unfolding successors matching_transitions
  model_keys = rw (same-labels, same-system, same-actions) refl

  pub model_counts : modality_counts (model_in t) m ≡ modality_counts x m
  unfolding successors matching_transitions
  model_counts = rw (same-labels, same-system, same-actions) refl
