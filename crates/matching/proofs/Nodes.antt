-- What a node's kind, its operand and the answers at its children tell of the node. Assumes nothing.
use mathlib.Core.Path.{◌≡◌, sym, ap, ◌∙◌}
use mathlib.Core.Bool.{Bool, true, false, not, ◌&&◌, ◌||◌}
use mathlib.Core.List.{List}
use Prim.Native.Nat.{ℕ, ◌+◌, ◌<◌}
use native.Mathlib.Omega.{arith}
use native.Mathlib.Numerals.{add-one}
use lib.Dec.{eqb}
use Rattle.rules.specs.Lists.{word}
use Rattle.rules.specs.Labels.{label_count}
use Rattle.rules.specs.Table.{size, kind, operand}
use Rattle.rules.specs.Actions.{action_tree, matches}
use Rattle.tables.specs.Good.{GoodActions}
use Rattle.labels.specs.Classes.{Classes}
use Rattle.trees.proofs.ActionTrees.{any-matches, never_matches, multi_matches, union_matches, intersection_matches, negation_matches}

module _ (m : ℕ) (ls acts : List ℕ) (v : ℕ) (good : GoodActions (label_count ls) acts) (h : v < size acts) where
  -- the answer at node u
  abbrev Answer : ℕ → Bool
  Answer u = matches m (action_tree ls acts u)

  pub at_true : kind acts v ≡ 0 → matches m (action_tree ls acts v) ≡ true
  at_true p = any-matches (label_count ls) acts good ls v h m p

  pub at_false : kind acts v ≡ 1 → matches m (action_tree ls acts v) ≡ false
  at_false p = never_matches (label_count ls) acts good ls v h m p

  pub at_label : (classes : List ℕ) → Classes ls classes → kind acts v ≡ 2 → matches m (action_tree ls acts v) ≡ eqb (word classes (operand acts v)) m
  at_label classes table p =
      let below = (good.nodes v h).label (omega arith) (omega arith) in
      multi_matches (label_count ls) acts good ls v h m p ∙ ap (λ (x : ℕ). eqb x m) (sym (table.entry (operand acts v) below))

  pub at_union : kind acts v ≡ 3 → matches m (action_tree ls acts v) ≡ (Answer (v + 1) || Answer (operand acts v))
  at_union p = rw add-one (union_matches (label_count ls) acts good ls v h m p)

  pub at_intersection : kind acts v ≡ 4 → matches m (action_tree ls acts v) ≡ (Answer (v + 1) && Answer (operand acts v))
  at_intersection p = rw add-one (intersection_matches (label_count ls) acts good ls v h m p)

  pub at_negation : kind acts v ≡ 5 → matches m (action_tree ls acts v) ≡ not (Answer (v + 1))
  at_negation p = rw add-one (negation_matches (label_count ls) acts good ls v h m p)
