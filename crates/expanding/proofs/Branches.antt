-- What holds of a node of the regular table, by its kind: where its children are, and that their modalities fit where
-- its own does. Assumes nothing.
use mathlib.Core.Path.{◌≡◌}
use mathlib.Core.List.{List}
use Prim.Native.Nat.{ℕ, suc, min, ◌+◌, ◌≤◌, ◌<◌}
use native.Mathlib.Omega.{arith}
use native.Mathlib.Numerals.{add-one}
use Rattle.rules.specs.Table.{size, kind, operand}
use Rattle.regular_rules.specs.Regular.{Regular, action, sequence, choice, star, plus, regular_tree}
use Rattle.regular_rules.specs.Sizes.{modal_size}
use Rattle.regular_rules.specs.Good.{GoodRegulars}
use Rattle.regular_rules.proofs.Regulars.{action_tree, sequence_tree, choice_tree, star_tree, plus_tree}
use Rattle.expanding.proofs.Modalities.{size_more}

module _ {regs : List ℕ} (good : GoodRegulars regs) {v : ℕ} (h : v < size regs) where
  -- the tree of a node
  abbrev tree : ℕ → Regular
  tree u = regular_tree regs u

  -- the kind that its word is read as
  pub told : {w k : ℕ} → w ≡ kind regs v → k ≡ min w 4 → kind regs v ≡ k
  told e i = omega (arith, (good.nodes v h).known)

  pub one_child : 1 ≤ kind regs v → v + 1 < size regs
  one_child k = omega (arith, (good.nodes v h).next k)

  pub star_is : kind regs v ≡ 3 → tree v ≡ star (tree (v + 1))
  star_is k = rw add-one (star_tree regs good v h k)

  pub plus_is : kind regs v ≡ 4 → tree v ≡ plus (tree (v + 1))
  plus_is k = rw add-one (plus_tree regs good v h k)

  module _ {o : ℕ} (read : o ≡ operand regs v) where
    pub two_children : 1 ≤ kind regs v → kind regs v ≤ 2 → (v + 1 < o) × (o < size regs)
    two_children k l = let (a, b) = (good.nodes v h).right k l in (omega arith, omega arith)

    pub action_is : kind regs v ≡ 0 → tree v ≡ action o
    action_is k = rw read (action_tree regs good v h k)

    pub sequence_is : kind regs v ≡ 1 → tree v ≡ sequence (tree (v + 1)) (tree o)
    sequence_is k = rw (read, add-one) (sequence_tree regs good v h k)

    pub choice_is : kind regs v ≡ 2 → tree v ≡ choice (tree (v + 1)) (tree o)
    choice_is k = rw (read, add-one) (choice_tree regs good v h k)

  -- there is room up to node e for the modality before n nodes
  module _ (n : ℕ) {e : ℕ} (space : modal_size (tree v) n ≤ e) where
    pub at_action : kind regs v ≡ 0 → suc n ≤ e
    unfolding modal_size
    at_action k = rw (action_tree regs good v h k) at space

    pub at_sequence : {o : ℕ} → o ≡ operand regs v → kind regs v ≡ 1
        → (modal_size (tree o) n ≤ e) × (modal_size (tree (v + 1)) (modal_size (tree o) n) ≤ e)
    unfolding modal_size
    at_sequence {o} read k =
        let both : modal_size (tree (v + 1)) (modal_size (tree o) n) ≤ e = rw (sequence_is read k) at space in
        (omega (arith, size_more (tree (v + 1)) (modal_size (tree o) n)), both)

    pub at_choice : {o : ℕ} → o ≡ operand regs v → kind regs v ≡ 2 → suc (modal_size (tree (v + 1)) n + modal_size (tree o) n) ≤ e
    unfolding modal_size
    at_choice read k = rw (choice_is read k) at space

    pub at_star : kind regs v ≡ 3 → modal_size (star (tree (v + 1))) n ≤ e
    at_star k = rw (star_is k) at space

    pub at_plus : kind regs v ≡ 4 → (modal_size (star (tree (v + 1))) n ≤ e) × (modal_size (tree (v + 1)) (modal_size (star (tree (v + 1))) n) ≤ e)
    unfolding modal_size
    at_plus k =
        let both : modal_size (tree (v + 1)) (modal_size (star (tree (v + 1))) n) ≤ e = rw (plus_is k) at space in
        (omega (arith, size_more (tree (v + 1)) (modal_size (star (tree (v + 1))) n)), both)
