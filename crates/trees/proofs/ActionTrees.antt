-- The trees of action formulas: the depth to which they are read does not matter, a node's tree is made of its
-- children's trees, and one law for each kind of node. Assumes nothing.
use mathlib.Core.Path.{◌≡◌, refl, ap, ap₂, ◌∙◌}
use mathlib.Core.Bool.{true, false, not, ◌&&◌, ◌||◌}
use mathlib.Core.List.{List}
use Prim.Native.Nat.{ℕ, zero, suc, ◌-◌, ◌≤◌, ◌<◌}
use native.Mathlib.Omega.{arith}
use lib.Dec.{eqb}
use Rattle.rules.specs.Labels.{multiset}
use Rattle.rules.specs.Table.{size, kind, operand, decode_action}
use Rattle.rules.specs.Actions.{Action, any_action, never_action, multi_action, union, intersection, negation, action_of}
use Rattle.rules.specs.Actions.{action_to, action_tree, ActionTreeEquation, matches}
use Rattle.tables.specs.Good.{GoodActions}
use Rattle.tables.proofs.Decode.{action-at, action_kinds, action_of_kind}

-- only the trees of the children that a kind has matter
action_of_same : (t u : ℕ → Action) (ls : List ℕ) (v o k : ℕ)
    → (3 ≤ k → k ≤ 5 → t (suc v) ≡ u (suc v)) → (3 ≤ k → k ≤ 4 → t o ≡ u o)
    → action_of t ls v (decode_action k o) ≡ action_of u ls v (decode_action k o)
unfolding action_of
action_of_same t u ls v o =
    action_kinds o
    (λ k n. (3 ≤ k → k ≤ 5 → t (suc v) ≡ u (suc v)) → (3 ≤ k → k ≤ 4 → t o ≡ u o) → action_of t ls v n
    ≡ action_of u ls v n)
    (λ p q. refl)
    (λ p q. refl)
    (λ p q. refl)
    (λ p q. ap₂ union (p (omega arith) (omega arith)) (q (omega arith) (omega arith)))
    (λ p q. ap₂ intersection (p (omega arith) (omega arith)) (q (omega arith) (omega arith)))
    (λ p q. ap negation (p (omega arith) (omega arith)))
    (λ k h p q. refl)

module _ (l : ℕ) (acts : List ℕ) (good : GoodActions l acts) (ls : List ℕ) where
  -- any depth that reaches the last node gives the same tree
  pub action_depth : (d e v : ℕ) → v < size acts → size acts - v ≤ d → size acts - v ≤ e → action_to d ls acts v ≡ action_to e ls acts v
  unfolding action_to
  action_depth zero e v h a b = absurd (omega arith)
  action_depth (suc d) zero v h a b = absurd (omega arith)
  action_depth (suc d) (suc e) v h a b =
      let n = good.nodes v h in
      rw (action-at acts v h)
      (action_of_same (λ u. action_to d ls acts u) (λ u. action_to e ls acts u) ls v (operand acts v) (kind acts v)
      (λ p q. action_depth d e (suc v) (n.next p) (omega arith) (omega arith))
      (λ p q. let r = n.right p q in action_depth d e (operand acts v) r.1 (omega arith) (omega arith)))

  -- a node's tree is made of the trees of its children
  pub action-tree : (v : ℕ) → v < size acts → ActionTreeEquation ls acts v
  unfolding action_tree action_to
  action-tree v h = action_depth (size acts) (suc (size acts)) v h (omega arith) (omega arith)

  module _ (v : ℕ) (h : v < size acts) where
    -- of a known kind
    at_kind : (k : ℕ) → kind acts v ≡ k → action_tree ls acts v ≡ action_of (action_tree ls acts) ls v (decode_action k (operand acts v))
    at_kind k e = action-tree v h ∙ ap (action_of (action_tree ls acts) ls v) (action_of_kind acts v h k e)

    pub any_tree : kind acts v ≡ 0 → action_tree ls acts v ≡ any_action
    unfolding action_of decode_action
    any_tree e = at_kind 0 e

    pub never_tree : kind acts v ≡ 1 → action_tree ls acts v ≡ never_action
    unfolding action_of decode_action
    never_tree e = at_kind 1 e

    pub multi_tree : kind acts v ≡ 2 → action_tree ls acts v ≡ multi_action (multiset ls (operand acts v))
    unfolding action_of decode_action
    multi_tree e = at_kind 2 e

    pub union_tree : kind acts v ≡ 3 → action_tree ls acts v ≡ union (action_tree ls acts (suc v)) (action_tree ls acts (operand acts v))
    unfolding action_of decode_action
    union_tree e = at_kind 3 e

    pub intersection_tree : kind acts v ≡ 4 → action_tree ls acts v ≡ intersection (action_tree ls acts (suc v)) (action_tree ls acts (operand acts v))
    unfolding action_of decode_action
    intersection_tree e = at_kind 4 e

    pub negation_tree : kind acts v ≡ 5 → action_tree ls acts v ≡ negation (action_tree ls acts (suc v))
    unfolding action_of decode_action
    negation_tree e = at_kind 5 e

    -- the same for deciding it
    pub any-matches : (m : ℕ) → kind acts v ≡ 0 → matches m (action_tree ls acts v) ≡ true
    unfolding matches
    any-matches m e = ap (matches m) (any_tree e)

    pub never_matches : (m : ℕ) → kind acts v ≡ 1 → matches m (action_tree ls acts v) ≡ false
    unfolding matches
    never_matches m e = ap (matches m) (never_tree e)

    pub multi_matches : (m : ℕ) → kind acts v ≡ 2 → matches m (action_tree ls acts v) ≡ eqb (multiset ls (operand acts v)) m
    unfolding matches
    multi_matches m e = ap (matches m) (multi_tree e)

    pub union_matches : (m : ℕ) → kind acts v ≡ 3
        → matches m (action_tree ls acts v) ≡ (matches m (action_tree ls acts (suc v)) || matches m (action_tree ls acts (operand acts v)))
    unfolding matches
    union_matches m e = ap (matches m) (union_tree e)

    pub intersection_matches : (m : ℕ) → kind acts v ≡ 4
        → matches m (action_tree ls acts v) ≡ (matches m (action_tree ls acts (suc v)) && matches m (action_tree ls acts (operand acts v)))
    unfolding matches
    intersection_matches m e = ap (matches m) (intersection_tree e)

    pub negation_matches : (m : ℕ) → kind acts v ≡ 5 → matches m (action_tree ls acts v) ≡ not (matches m (action_tree ls acts (suc v)))
    unfolding matches
    negation_matches m e = ap (matches m) (negation_tree e)
