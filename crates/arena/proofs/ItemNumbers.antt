-- Item numbers: a body subformula has a number past the equations', two have one number exactly if they are equal,
-- every number is carried by a body node, and there are at most two items for each node. Assumes nothing.
use mathlib.Core.Path.{◌≡◌, sym, ap, ap₂, subst, ◌∙◌}
use mathlib.Core.Bool.{Bool, true, false}
use mathlib.Core.List.{List, ◌++◌, map}
use Prim.Native.Nat.{ℕ, ◌+◌, ◌*◌, ◌-◌, ◌≤◌, ◌<◌}
use native.Mathlib.Omega.{arith}
use lib.ListN.{get_or, length, length-append, length-map, get_or-append, get_or-map}
use lib.Seq.{get_or-append-add}
use Rattle.rules.specs.Lists.{In, Distinct, one, position}
use Rattle.rules.specs.Words.{Input}
use Rattle.rules.specs.Table.{size, formula_node}
use Rattle.rules.specs.Formula.{least, is_fixpoint, equations, equation_count, equation_of}
use Rattle.rules.specs.Formula.{Formula, truth, formula_tree, first_body_node, body_nodes}
use Rattle.rules.specs.Items.{alike, equation, subformula, subformulas, items, item_number}
use Rattle.rules.specs.Pairs.{item_at}
use Rattle.tables.specs.Good.{GoodInput}
use Rattle.arena.specs.Arena.{BodyNode, Carried}
use Rattle.lists.proofs.Members.{in_at, map_at, map_in, in_map, position_below, position_at, position-of}
use Rattle.lists.proofs.Inserts.{once_in, once_distinct, once_length}
use Rattle.trees.proofs.Equations.{count_few}
use Rattle.arena.proofs.Alike.{alike_equality}
use Rattle.lists.proofs.Ranges.{from-length, from_in, in_from}

-- ---- body nodes

pub body_listed : (f : List ℕ) (v : ℕ) → BodyNode f v → In v (body_nodes f)
unfolding body_nodes
body_listed f v b = from_in v (first_body_node f) (size f - first_body_node f) b.0 (let h = b.0 in let k = b.1 in omega arith)

pub listed_body : (f : List ℕ) (v : ℕ) → In v (body_nodes f) → BodyNode f v
unfolding body_nodes
listed_body f v h = let (a, b) = in_from v (first_body_node f) (size f - first_body_node f) h in (a, omega arith)

-- all nodes but node 0 stand in a body
pub later_body : (f : List ℕ) (v : ℕ) → 1 ≤ v → v < size f → BodyNode f v
unfolding first_body_node
later_body f v a b = (go (is_fixpoint (formula_node f 0)), b)
  where
    go : (t : Bool) → one t ≤ v
    go true = a
    go false = omega arith

-- and node 0, if it is no fixpoint
pub first_body : (f : List ℕ) → is_fixpoint (formula_node f 0) ≡ false → first_body_node f ≡ 0
unfolding first_body_node
first_body f t = ap one t

module _ (x : Input) where
  -- ---- the items

  pub items_count : length (items x) ≡ equation_count x.formula + length (subformulas x)
  unfolding items equation_count
  items_count =
      length-append (map equation (equations x.formula)) (map subformula (subformulas x))
      ∙ ap₂ ◌+◌ (length-map (equations x.formula) equation) (length-map (subformulas x) subformula)

  -- the first items are the equations
  pub item_equation : (i : ℕ) → i < equation_count x.formula → item_at x i ≡ equation (equation_of x.formula i)
  unfolding item_at items equation_count equation_of
  item_equation i h =
      get_or-append (map equation (equations x.formula)) (map subformula (subformulas x)) (subformula truth) i
      (let e = length-map (equations x.formula) equation in omega arith)
      ∙ map_at equation (equations x.formula) i (record { operator = least; body = 0 }) (subformula truth) h

  pub subformulas_distinct : Distinct (subformulas x)
  unfolding subformulas
  subformulas_distinct = once_distinct alike_equality (map (formula_tree x) (body_nodes x.formula))

  -- they are the trees of the body nodes
  pub carried_listed : (t : Formula) → Carried x t → In t (subformulas x)
  unfolding subformulas
  carried_listed t (v, b, e) =
      (once_in alike_equality (map (formula_tree x) (body_nodes x.formula)) t
      ).1 (subst (λ s. In s (map (formula_tree x) (body_nodes x.formula))) e (map_in (formula_tree x) v (body_nodes x.formula) (body_listed x.formula v b)))

  pub listed_carried : (t : Formula) → In t (subformulas x) → Carried x t
  unfolding subformulas
  listed_carried t h =
      let (v, m, e) = in_map (formula_tree x) t (body_nodes x.formula) ((once_in alike_equality (map (formula_tree x) (body_nodes x.formula)) t).0 h) in
      (v, listed_body x.formula v m, sym e)

  -- ---- the number of a subformula

  module _ (t : Formula) where
    pub item_past : equation_count x.formula ≤ item_number x t
    unfolding item_number
    item_past = omega arith

    module _ (c : Carried x t) where
      pub item_below : item_number x t < length (items x)
      unfolding item_number
      item_below =
          let e = items_count in
          let p = position_below alike_equality t (subformulas x) (carried_listed t c) in
          omega arith

      pub item_subformula : item_at x (item_number x t) ≡ subformula t
      unfolding item_at items item_number equation_count
      item_subformula =
          ap (λ (k : ℕ). get_or (map equation (equations x.formula) ++ map subformula (subformulas x)) (k + position alike t (subformulas x)) (subformula truth))
          (sym (length-map (equations x.formula) equation))
          ∙ get_or-append-add (map equation (equations x.formula)) (map subformula (subformulas x)) (position alike t (subformulas x)) (subformula truth)
          ∙ get_or-map subformula (subformulas x) (position alike t (subformulas x)) truth
          ∙ ap subformula (position_at alike_equality t (subformulas x) truth (carried_listed t c))

  -- two of them have one number exactly if they are equal
  pub item_equal : (s t : Formula) → Carried x s → Carried x t → item_number x s ≡ item_number x t → s ≡ t
  unfolding item_number
  item_equal s t c d e =
      let p : position alike s (subformulas x) ≡ position alike t (subformulas x) = omega arith in
      sym (position_at alike_equality s (subformulas x) truth (carried_listed s c))
      ∙ ap (λ (i : ℕ). get_or (subformulas x) i truth) p
      ∙ position_at alike_equality t (subformulas x) truth (carried_listed t d)

  -- every item past the equations is carried by a body node
  pub item_carried : (q : ℕ) → equation_count x.formula ≤ q → q < length (items x)
      → (v : ℕ) × BodyNode x.formula v × (item_number x (formula_tree x v) ≡ q)
  unfolding item_number
  item_carried q a b =
      let e = items_count in
      let i : ℕ = q - equation_count x.formula in
      let h : i < length (subformulas x) = omega arith in
      let (v, d, t) = listed_carried (get_or (subformulas x) i truth) (in_at (subformulas x) i truth h) in
      let p : position alike (formula_tree x v) (subformulas x) ≡ i =
      ap (λ (s : Formula). position alike s (subformulas x)) t ∙ position-of alike_equality (subformulas x) i truth subformulas_distinct h in
      (v, d, omega arith)

  -- ---- how many

  pub body_count : length (body_nodes x.formula) ≡ size x.formula - first_body_node x.formula
  unfolding body_nodes
  body_count = from-length (first_body_node x.formula) (size x.formula - first_body_node x.formula)

  pub subformula_count : length (subformulas x) ≤ size x.formula
  unfolding subformulas
  subformula_count =
      let a = once_length alike_equality (map (formula_tree x) (body_nodes x.formula)) in
      let b = length-map (body_nodes x.formula) (formula_tree x) in
      let c = body_count in
      omega arith

  module _ (good : GoodInput x) where
    -- "at most 2n"
    pub items_most : length (items x) ≤ 2 * size x.formula
    items_most =
        let a = items_count in
        let b = count_few (size x.actions) x.formula good.formula in
        let d = subformula_count in
        omega arith

    pub items_few : length (items x) ≤ 2_048
    items_few = let a = items_most in let b = good.formula.few in omega arith
