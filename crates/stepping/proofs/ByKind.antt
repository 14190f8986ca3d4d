-- The keys of a pair's targets and the transitions behind the edges to them, by the words that the table has for its
-- item. Assumes nothing.
use mathlib.Core.Path.{◌≡◌, refl, sym, subst, ◌∙◌, ap, ap₂}
use mathlib.Core.List.{List, [], ◌∷◌, map, map-map}
use mathlib.Core.Logic.{⊎_elim}
use Prim.Native.Nat.{ℕ, ◌/◌, ◌≤◌, ◌<◌}
use native.Mathlib.Decide.{dec_lt}
use native.Mathlib.Omega.{arith}
use lib.ListN.{length, replicate, length-map}
use Rattle.match_table.specs.declared.MatchRows.{MatchRows}
use Rattle.rules.specs.Lists.{word, zeros, occurrences}
use Rattle.compiled.specs.declared.Compiled.{Compiled}
use Rattle.compiled.specs.Tables.{kinds_in, lefts_in, rights_in}
use Rattle.rules.specs.Words.{Input}
use Rattle.rules.specs.Table.{size}
use Rattle.rules.specs.Actions.{action_tree}
use Rattle.rules.specs.Pairs.{Pair, targets, matching_transitions, successors, leading_to, transitions_behind}
use Rattle.arena.specs.Arena.{Inside}
use Rattle.arena.proofs.ItemNumbers.{items_few}
use Rattle.item_table.specs.Entries.{Entry}
use Rattle.item_table.proofs.Steps.{entry-none, entry_two, entry_modal, entry_action, entry_one, entry-left, entry_right}
use Rattle.item_table.proofs.Steps.{entry_still, entry_moving}
use Rattle.pairs.specs.Slot.{key_of}
use Rattle.settling.specs.Keys.{pair_key}
use Rattle.settling.specs.Made.{Fitting, AllFit}
use Rattle.modalities.specs.declared.Modality.{Modality}
use Rattle.modalities.specs.Matched.{Inside as InsideModality, modality_keys, modality_counts}
use Rattle.stepping.specs.Tables.{Tables}
use Rattle.stepping.specs.Parts.{operands_of}
use Rattle.stepping.proofs.Operands.{operands_none, operands_two, operands_one}

key_each : (l : ℕ) (ts : List ℕ) → map pair_key (map (λ t. (t, l)) ts) ≡ map (λ t. key_of t l) ts
key_each l [] = refl
key_each l (t ∷ ts) = ap (λ (ks : List ℕ). key_of t l ∷ ks) (key_each l ts)

-- where none has a count, there are as many zeros
all-zero : (f : Pair → ℕ) (ps : List Pair) → ((p : Pair) → f p ≡ 0) → map f ps ≡ replicate (length ps) 0
all-zero f [] none = refl
all-zero f (p ∷ ps) none = ap₂ (λ (n : ℕ) (l : List ℕ). n ∷ l) (none p) (all-zero f ps none)

-- the modality that the table's words say for item q, at state s
pub record ModalityIn (compiled : Compiled) (s q : ℕ) (m : Modality) : Type 0 where
  pub state : m.state ≡ s
  pub action : m.action ≡ word (rights_in compiled) q
  pub operand : m.operand ≡ word (lefts_in compiled) q

module _ (x : Input) (compiled : Compiled) (matched : MatchRows) (t : Tables x compiled matched) (s q : ℕ) (i : Inside x (s, q)) where
  abbrev kinds : List ℕ
  kinds = kinds_in compiled

  abbrev lefts : List ℕ
  lefts = lefts_in compiled

  abbrev rights : List ℕ
  rights = rights_in compiled

  pub item_small : q < 2048
  item_small = omega (arith, i.1, items_few x t.input)

  state_fits : s < 65535
  state_fits = omega (arith, i.0, t.input.system.states)

  -- the words as they are read
  module _ (k : ℕ) (is-kind : k ≡ word kinds q) where
    pub kind_none : k < 2 → map pair_key (targets x (s, q)) ≡ []
    kind_none h = ap (map pair_key) (entry-none x q (word kinds q) (word lefts q) (word rights q) s (t.items.entry q i.1) (omega arith))

    module _ (l : ℕ) (is-left : l ≡ word lefts q) where
      first : Entry x q k l (word rights q)
      first = rw (is-kind, is-left) (t.items.entry q i.1)

      pub kind-one : 6 ≤ k → map pair_key (targets x (s, q)) ≡ key_of s l ∷ []
      kind-one a = ap (map pair_key) (entry_one x q k l (word rights q) s first a)

      pub left_small : 2 ≤ k → l < 2048
      left_small a = omega (arith, entry-left x q k l (word rights q) s first t.input i.1 a, items_few x t.input)

      pub left_fits : 2 ≤ k → Fitting s l
      left_fits a = record { state_fits = state_fits; item_fits = left_small a }

      module _ (r : ℕ) (right_is : r ≡ word rights q) where
        both : Entry x q k l r
        both = rw right_is first

        pub kind_two : 2 ≤ k → k < 4 → map pair_key (targets x (s, q)) ≡ key_of s l ∷ key_of s r ∷ []
        kind_two a b = ap (map pair_key) (entry_two x q k l r s both a (omega arith))

        pub right_fits : 2 ≤ k → k < 4 → Fitting s r
        right_fits a b =
            record {
              state_fits = state_fits;
              item_fits = omega (arith, entry_right x q k l r s both t.input i.1 a (omega arith), items_few x t.input);
            }

        pub kind_modal : 4 ≤ k → k < 6 → map pair_key (targets x (s, q)) ≡ map (λ t. key_of t l) (successors x (action_tree x.labels x.actions r) s)
        kind_modal a b =
            ap (map pair_key) (entry_modal x q k l r s both a (omega arith)) ∙ key_each l (successors x (action_tree x.labels x.actions r) s)

        -- the matching transitions that lead to a state
        abbrev leading : ℕ → ℕ
        leading = leading_to x (matching_transitions x (action_tree x.labels x.actions r) s)

        behind_modal : 4 ≤ k → k < 6 → (o : Pair) → transitions_behind x (s, q) o ≡ leading o.0
        unfolding transitions_behind
        behind_modal a b o =
            ap (λ (ts : List ℕ). leading_to x ts o.0)
            (entry_moving x q k l r s both a (omega arith))

        counts_modal : 4 ≤ k → k < 6 → map (transitions_behind x (s, q)) (targets x (s, q))
            ≡ map leading (successors x (action_tree x.labels x.actions r) s)
        counts_modal a b =
            let ts = successors x (action_tree x.labels x.actions r) s in
            ap (map (transitions_behind x (s, q))) (entry_modal x q k l r s both a (omega arith))
            ∙ map-map (transitions_behind x (s, q)) (λ t. (t, l)) ts
            ∙ ap (λ (f : ℕ → ℕ). map f ts) (λ i t. behind_modal a b (t, l) i)

        pub action_there : 4 ≤ k → k < 6 → r < size x.actions
        action_there a b = entry_action x q k l r s both a (omega arith)

    -- the operands, where it is no modality
    module _ (operands : 4 ≤ k → 6 ≤ k) where
      abbrev l : ℕ
      l = word lefts q

      abbrev r : ℕ
      r = word rights q

      pub kind_operands : map pair_key (targets x (s, q)) ≡ map (key_of s) (operands_of k l r)
      kind_operands = go (dec_lt k 2) (dec_lt k 4)
        where
          go : Dec (k < 2) → Dec (k < 4) → map pair_key (targets x (s, q)) ≡ map (key_of s) (operands_of k l r)
          go (yes a) _ = rw (operands_none k l r a) (kind_none a)
          go (no a) (yes b) = rw (operands_two k l r (omega arith) b) (kind_two l refl r refl (omega arith) b)
          go (no a) (no b) = rw (operands_one k l r (omega arith)) (kind-one l refl (operands (omega arith)))

      behind-none : (o : Pair) → transitions_behind x (s, q) o ≡ 0
      unfolding transitions_behind occurrences
      behind-none o =
          ap (λ (ts : List ℕ). leading_to x ts o.0)
          (entry_still x q k l r s (both l refl r refl) operands)

      pub kind_counts : map (transitions_behind x (s, q)) (targets x (s, q)) ≡ zeros (operands_of k l r)
      unfolding zeros
      kind_counts =
          let many : length (targets x (s, q)) ≡ length (operands_of k l r) =
          sym (length-map (targets x (s, q)) pair_key)
          ∙ ap length kind_operands
          ∙ length-map (operands_of k l r) (key_of s) in
          all-zero (transitions_behind x (s, q)) (targets x (s, q)) behind-none
          ∙ ap (λ (n : ℕ). replicate n 0) many

      pub operands_fit : AllFit s (operands_of k l r)
      operands_fit = go (dec_lt k 2) (dec_lt k 4)
        where
          go : Dec (k < 2) → Dec (k < 4) → AllFit s (operands_of k l r)
          go (yes a) _ = rw (operands_none k l r a) (λ o m. absurd m)
          go (no a) (yes b) =
              rw (operands_two k l r (omega arith) b) (λ o m.
              ⊎_elim (λ (e : o ≡ l). subst (Fitting s) (sym e) (left_fits l refl (omega arith)))
              (⊎_elim (λ (e : o ≡ r). subst (Fitting s) (sym e) (right_fits l refl r refl (omega arith) b)) absurd) m)
          go (no a) (no b) =
              rw (operands_one k l r (omega arith)) (λ o m.
              ⊎_elim (λ (e : o ≡ l). subst (Fitting s) (sym e) (left_fits l refl (omega arith))) absurd m)

    -- the modality
    module _ (m : Modality) (is : ModalityIn compiled s q m) (modal : k / 2 ≡ 2) where
      pub modality_inside : InsideModality x m
      modality_inside = (
        omega (arith, i.0, is.state),
        action_there m.operand is.operand m.action is.action (omega arith) (omega arith),
        left_small m.operand is.operand (omega arith),
      )

      pub modality_targets : map pair_key (targets x (s, q)) ≡ modality_keys x m
      modality_targets =
          rw is.state (kind_modal m.operand is.operand m.action is.action (omega arith) (omega arith))

      pub modality-counts : map (transitions_behind x (s, q)) (targets x (s, q)) ≡ modality_counts x m
      modality-counts =
          rw is.state
          (counts_modal m.operand is.operand m.action is.action (omega arith) (omega arith))
