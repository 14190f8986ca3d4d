-- Numbering the body nodes in order: a node whose tree an earlier body node has gets that one's number, any other the
-- next number. Assumes nothing.
use mathlib.Core.Path.{◌≡◌, refl, sym, ap, subst, ◌∙◌}
use mathlib.Core.List.{List, [], ◌∷◌, ◌++◌, map}
use Prim.Native.Nat.{ℕ, suc, ◌+◌, ◌-◌, ◌≤◌, ◌<◌}
use native.Mathlib.Omega.{arith}
use lib.ListN.{length, length-append}
use Rattle.rules.specs.Lists.{In, from, position, insert, insert_all, once}
use Rattle.rules.specs.Words.{Input}
use Rattle.rules.specs.Table.{size}
use Rattle.rules.specs.Formula.{equation_count, Formula, formula_tree, first_body_node, body_nodes}
use Rattle.rules.specs.Items.{alike, subformulas, item_number}
use Rattle.lists.specs.Shapes.{Begins}
use Rattle.lists.proofs.Members.{map-append, map_in, position_begins, position_out}
use Rattle.lists.proofs.Inserts.{insert_old, insert_new, inserts_begins, inserts_snoc, once_in, once_append}
use Rattle.arena.specs.Arena.{BodyNode, subformulas_before}
use Rattle.arena.proofs.Alike.{alike_equality}
use Rattle.lists.proofs.Ranges.{from_in, from-append, from_snoc}

module _ (x : Input) where
  -- ---- the subformulas of the nodes before a node

  pub before_none : subformulas_before x (first_body_node x.formula) ≡ []
  unfolding subformulas_before once insert_all from
  before_none = ap (λ (n : ℕ). once alike (map (formula_tree x) (from (first_body_node x.formula) n))) (let e : first_body_node x.formula - first_body_node x.formula ≡ 0 = omega arith in e)

  pub before_all : subformulas_before x (size x.formula) ≡ subformulas x
  unfolding subformulas_before subformulas body_nodes
  before_all = refl

  pub before_in : (u v : ℕ) → first_body_node x.formula ≤ u → u < v → In (formula_tree x u) (subformulas_before x v)
  unfolding subformulas_before
  before_in u v a b =
      (once_in alike_equality (map (formula_tree x) (from (first_body_node x.formula) (v - first_body_node x.formula))) (formula_tree x u)
      ).1 (map_in (formula_tree x) u (from (first_body_node x.formula) (v - first_body_node x.formula)) (from_in u (first_body_node x.formula) (v - first_body_node x.formula) a (omega arith)))

  -- they only grow at their end
  pub before_begins : (u v : ℕ) → u ≤ v → Begins (subformulas_before x u) (subformulas_before x v)
  unfolding subformulas_before
  before_begins u v h = subst (Begins (subformulas_before x u)) (sym split) (inserts_begins alike_equality (subformulas_before x u) (map (formula_tree x) late))
    where
      first : ℕ
      first = first_body_node x.formula

      early : List ℕ
      early = from first (u - first)

      late : List ℕ
      late = from (first + (u - first)) (v - first - (u - first))

      split : subformulas_before x v ≡ insert_all alike (subformulas_before x u) (map (formula_tree x) late)
      split =
          ap (λ (n : ℕ). once alike (map (formula_tree x) (from first n))) (let e : v - first ≡ (u - first) + (v - first - (u - first)) = omega arith in e)
          ∙ ap (λ (l : List ℕ). once alike (map (formula_tree x) l)) (from-append first (u - first) (v - first - (u - first)))
          ∙ ap (once alike) (map-append (formula_tree x) early late)
          ∙ once_append alike_equality (map (formula_tree x) early) (map (formula_tree x) late)

  -- one node more
  pub before_more : (v : ℕ) → first_body_node x.formula ≤ v → subformulas_before x (suc v) ≡ insert alike (subformulas_before x v) (formula_tree x v)
  unfolding subformulas_before once
  before_more v h =
      ap (λ (n : ℕ). once alike (map (formula_tree x) (from first n))) (let e : suc v - first ≡ suc (v - first) = omega arith in e)
      ∙ ap (λ (l : List ℕ). once alike (map (formula_tree x) l))
      (from_snoc first (v - first) ∙ ap (λ (k : ℕ). from first (v - first) ++ (k ∷ [])) (let e : first + (v - first) ≡ v = omega arith in e))
      ∙ ap (once alike) (map-append (formula_tree x) (from first (v - first)) (v ∷ []))
      ∙ inserts_snoc alike [] (map (formula_tree x) (from first (v - first))) (formula_tree x v)
    where
      first : ℕ
      first = first_body_node x.formula

  module _ (v : ℕ) (h : first_body_node x.formula ≤ v) where
    pub before_old : In (formula_tree x v) (subformulas_before x v) → subformulas_before x (suc v) ≡ subformulas_before x v
    before_old m = before_more v h ∙ insert_old alike_equality (subformulas_before x v) (formula_tree x v) m

    pub before_new : (¬ In (formula_tree x v) (subformulas_before x v)) → subformulas_before x (suc v) ≡ subformulas_before x v ++ (formula_tree x v ∷ [])
    before_new n = before_more v h ∙ insert_new alike_equality (subformulas_before x v) (formula_tree x v) n

  -- ---- numbers

  -- the nodes before v already fix the numbers of their trees
  pub number-before : (t : Formula) (v : ℕ) → v ≤ size x.formula → In t (subformulas_before x v) → item_number x t ≡ equation_count x.formula + position alike t (subformulas_before x v)
  unfolding item_number
  number-before t v h m =
      ap (λ (k : ℕ). equation_count x.formula + k)
      (ap (position alike t) (sym before_all)
      ∙ position_begins alike_equality t (subformulas_before x v) (subformulas_before x (size x.formula)) m (before_begins v (size x.formula) h))

  module _ (v : ℕ) (b : BodyNode x.formula v) (n : ¬ In (formula_tree x v) (subformulas_before x v)) where
    -- a new tree gets the next number
    pub number_new : item_number x (formula_tree x v) ≡ equation_count x.formula + length (subformulas_before x v)
    number_new =
        number-before (formula_tree x v) (suc v) b.1 (before_in v (suc v) b.0 (omega arith))
        ∙ ap (λ (l : List Formula). equation_count x.formula + position alike (formula_tree x v) l) (before_new v b.0 n)
        ∙ ap (λ (k : ℕ). equation_count x.formula + k) (position_out alike_equality (formula_tree x v) (subformulas_before x v) [] n)

    pub length_new : length (subformulas_before x (suc v)) ≡ suc (length (subformulas_before x v))
    length_new = ap length (before_new v b.0 n) ∙ length-append (subformulas_before x v) (formula_tree x v ∷ []) ∙ omega arith
    -- ---- the lowest node that carries a tree
