-- The shape of a node of the action formulas, one law for each kind that the code tests. Assumes nothing.
use mathlib.Core.Path.{◌≡◌, refl, sym, ap, subst, ◌∙◌}
use mathlib.Core.List.{List}
use Prim.Native.Nat.{ℕ, suc, ◌+◌, ◌≤◌, ◌<◌}
use native.Mathlib.Decide.{ℕ_discrete}
use Rattle.std.specs.Prelude.{min}
use native.Mathlib.Omega.{arith}
use Rattle.rules.specs.Lists.{word}
use Rattle.rules.specs.Labels.{label_count, multiset}
use Rattle.rules.specs.Table.{size, kind, operand}
use Rattle.rules.specs.Actions.{Action, action_tree}
use Rattle.tables.specs.Good.{GoodActions}
use Rattle.labels.specs.Classes.{Classes}
use Rattle.trees.proofs.ActionTrees.{any_tree, never_tree, multi_tree, union_tree, intersection_tree, negation_tree}
use Rattle.node_kinds.specs.declared.ActionKind.{ActionKind}
use Rattle.node_kinds.specs.Codes.{action_code}
use Rattle.alike_nodes.specs.declared.ActionNodes.{ActionNodes}
use Rattle.alike_nodes.specs.Nodes.{Last, Numbered, ActionShown, ActionShows}

module _ (ls acts : List ℕ) (good : GoodActions (label_count ls) acts) (v : ℕ) (h : v < size acts) where
  abbrev Shows : (k l r : ℕ) → Type 0
  Shows k l r = ActionShown (Last (action_tree ls acts) (size acts)) (action_tree ls acts v) k l r

  to : (t : Action) (k l r : ℕ) → action_tree ls acts v ≡ t → ActionShown (Last (action_tree ls acts) (size acts)) t k l r → Shows k l r
  to t k l r e s = subst (λ (a : Action). ActionShown (Last (action_tree ls acts) (size acts)) a k l r) (sym e) s

  pub shape_leaf : (k : ℕ) → k ≡ kind acts v → k ≤ 1 → Shows k 0 0
  shape_leaf k e p = go (ℕ_discrete k 0)
    where
      go : Dec (k ≡ 0) → Shows k 0 0
      go (yes z) = to _ k 0 0 (any_tree (label_count ls) acts good ls v h (sym e ∙ z)) (z, refl, refl)
      go (no d) = let z : k ≡ 1 = omega arith in to _ k 0 0 (never_tree (label_count ls) acts good ls v h (sym e ∙ z)) (z, refl, refl)

  pub label_below : (k o : ℕ) → k ≡ kind acts v → k ≡ 2 → o ≡ operand acts v → o < label_count ls
  label_below k o e z i = omega (arith, i, (good.nodes v h).label (omega arith) (omega arith))

  pub shape_multi : (classes : List ℕ) → Classes ls classes → (k o : ℕ) → k ≡ kind acts v → k ≡ 2 → o ≡ operand acts v → Shows k (word classes o) 0
  shape_multi classes known k o e z i =
      to _ k (word classes o) 0 (multi_tree (label_count ls) acts good ls v h (sym e ∙ z))
      (z, known.entry o (label_below k o e z i) ∙ ap (multiset ls) i, refl)

  pub next_below : (k : ℕ) → k ≡ kind acts v → 3 ≤ k → v + 1 < size acts
  next_below k e p = omega (arith, (good.nodes v h).next (omega arith))

  pub right_below : (k o : ℕ) → k ≡ kind acts v → 3 ≤ k → k ≤ 4 → o ≡ operand acts v → (v + 1 < o) × (o < size acts)
  right_below k o e p q i = let (a, b) = (good.nodes v h).right (omega arith) (omega arith) in (omega arith, omega arith)

  module _ (numbers : List ℕ) (known : Numbered (action_tree ls acts) (size acts) (v + 1) numbers) where
    next : (k : ℕ) → k ≡ kind acts v → 3 ≤ k → Last (action_tree ls acts) (size acts) (action_tree ls acts (suc v)) (word numbers (v + 1))
    next k e p =
        let z : v + 1 ≡ suc v = omega arith in
        subst (λ (u : ℕ). Last (action_tree ls acts) (size acts) (action_tree ls acts u) (word numbers (v + 1))) z (known.number (v + 1) (omega arith) (next_below k e p))

    right : (k o : ℕ) → k ≡ kind acts v → 3 ≤ k → k ≤ 4 → o ≡ operand acts v → Last (action_tree ls acts) (size acts) (action_tree ls acts (operand acts v)) (word numbers o)
    right k o e p q i =
        let (a, b) = right_below k o e p q i in
        subst (λ (u : ℕ). Last (action_tree ls acts) (size acts) (action_tree ls acts u) (word numbers o)) i (known.number o (omega arith) b)

    pub shape_one : (k : ℕ) → k ≡ kind acts v → k ≡ 5 → Shows k (word numbers (v + 1)) 0
    shape_one k e z = to _ k (word numbers (v + 1)) 0 (negation_tree (label_count ls) acts good ls v h (sym e ∙ z)) (z, next k e (omega arith), refl)

    pub shape_two : (k o : ℕ) → k ≡ kind acts v → 3 ≤ k → k ≤ 4 → o ≡ operand acts v → Shows k (word numbers (v + 1)) (word numbers o)
    shape_two k o e p q i = go (ℕ_discrete k 3)
      where
        go : Dec (k ≡ 3) → Shows k (word numbers (v + 1)) (word numbers o)
        go (yes z) = to _ k (word numbers (v + 1)) (word numbers o) (union_tree (label_count ls) acts good ls v h (sym e ∙ z)) (z, next k e p, right k o e p q i)
        go (no d) =
            let z : k ≡ 4 = omega arith in
            to _ k (word numbers (v + 1)) (word numbers o) (intersection_tree (label_count ls) acts good ls v h (sym e ∙ z)) (z, next k e p, right k o e p q i)

-- ---- the same, as the code finds them

module _ (n : ActionNodes) (v : ℕ) (h : v < size n.actions.now) where
  abbrev Shown : ActionKind → (l r : ℕ) → Type 0
  Shown k l r = ActionShows n.labels.now n.actions.now (action_tree n.labels.now n.actions.now v) (record { kind = k; left = l; right = r })

  -- the kind that the code reads is the node's
  kind_read : (k : ActionKind) → action_code k ≡ min (kind n.actions.now v) 5 → action_code k ≡ kind n.actions.now v
  kind_read k e = omega (arith, (n.good.nodes v h).known)

  pub read_leaf : (k : ActionKind) → action_code k ≡ min (kind n.actions.now v) 5 → action_code k ≤ 1 → Shown k 0 0
  read_leaf k e = shape_leaf n.labels.now n.actions.now n.good v h (action_code k) (kind_read k e)

  pub read_multi : (k : ActionKind) (o : ℕ) → action_code k ≡ min (kind n.actions.now v) 5 → action_code k ≡ 2 → o ≡ operand n.actions.now v
      → Shown k (word n.classes.now o) 0
  read_multi k o e = shape_multi n.labels.now n.actions.now n.good v h n.classes.now n.known (action_code k) o (kind_read k e)

  module _ (numbers : List ℕ) (known : Numbered (action_tree n.labels.now n.actions.now) (size n.actions.now) (v + 1) numbers) where
    pub read_one : (k : ActionKind) → action_code k ≡ min (kind n.actions.now v) 5 → action_code k ≡ 5 → Shown k (word numbers (v + 1)) 0
    read_one k e = shape_one n.labels.now n.actions.now n.good v h numbers known (action_code k) (kind_read k e)

    pub read_two : (k : ActionKind) (o : ℕ) → action_code k ≡ min (kind n.actions.now v) 5 → 3 ≤ action_code k → action_code k ≤ 4
        → o ≡ operand n.actions.now v → Shown k (word numbers (v + 1)) (word numbers o)
    read_two k o e = shape_two n.labels.now n.actions.now n.good v h numbers known (action_code k) o (kind_read k e)
