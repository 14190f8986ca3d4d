-- Filling the table: the equations first, then each body node writes the entry of its item. Assumes nothing.
use mathlib.Core.Path.{◌≡◌, refl, sym, ap, subst, ◌∙◌}
use mathlib.Core.Logic.{◌⊎◌, inl, inr}
use mathlib.Core.Bool.{true, false}
use mathlib.Core.List.{List, map}
use Prim.Native.Nat.{ℕ, suc, ◌+◌, ◌-◌, ◌≤◌, ◌<◌}
use native.Mathlib.Decide.{dec_lt, ℕ_discrete}
use native.Mathlib.Omega.{arith}
use lib.ListN.{length, set}
use lib.Seq.{get_or-set_same, get_or-set_other}
use Rattle.std.proofs.lemmas.List.{length-map}
use Rattle.rules.specs.Lists.{word, zeros}
use Rattle.rules.specs.Words.{Input}
use Rattle.rules.specs.Table.{size, formula_node}
use Rattle.rules.specs.Actions.{action_tree}
use Rattle.rules.specs.Formula.{Operator, least, greatest, is_fixpoint, equation_count, equation_of, equation_number, formula_tree, body_tree, first_body_node}
use Rattle.rules.specs.Depth.{Ranking, least_bit}
use Rattle.rules.specs.Items.{Item, items, item_number}
use Rattle.rules.specs.Pairs.{item_at, priority}
use Rattle.tables.specs.Good.{GoodInput}
use Rattle.trees.proofs.Equations.{equation_node, body_below, fixpoint_body}
use Rattle.node_kinds.specs.Codes.{formula_code}
use Rattle.node_kinds.specs.declared.FormulaKind.{FormulaKind}
use Rattle.node_kinds.specs.declared.Shape.{Shape}
use Rattle.compiled.specs.declared.Compiled.{Compiled}
use Rattle.compiled.specs.Tables.{kinds_in, lefts_in, rights_in}
use Rattle.arena.specs.Arena.{BodyNode}
use Rattle.arena.proofs.ItemNumbers.{items_few, item_equation, item_subformula, item_below, item_past, item_carried, first_body}
use Rattle.arena.proofs.Priorities.{equation_priority, other_priority}
use Rattle.modal_equation_system.specs.declared.EquationTable.{EquationTable}
use Rattle.modal_equation_system.specs.System.{formula_only, body_in, operator_in, Listed, Entered, RankedBy}
use Rattle.alike_nodes.specs.Nodes.{Last, Later, EquationNumbers, FormulaShown}
use Rattle.alike_nodes.proofs.Showing.{formula_shown_map}
use Rattle.item_table.specs.Entries.{operator_kind, ActionAt, ItemShown, ShownAt, ItemTable, Ranks, ItemNumbers, FirstShown}
use Rattle.item_table.specs.Entries.{ShownIn, KindsRoom, ItemsOnly, PrioritiesOnly}
use Rattle.item_table.proofs.Numbers.{zeros-word, first_most}

-- ---- one entry is written

module _ (x : Input) (kinds lefts rights kinds' lefts' rights' : List ℕ) (q k l r : ℕ)
    (a : kinds' ≡ set kinds q k) (b : lefts' ≡ set lefts q l) (c : rights' ≡ set rights q r)
  where
    put-here : q < length kinds → q < length lefts → q < length rights → ItemShown x (item_at x q) k l r → ShownAt x kinds' lefts' rights' q
    put-here d e f s =
        rw (a, b, c, get_or-set_same {A = ℕ} kinds q k 0 d, get_or-set_same {A = ℕ} lefts q l 0 e, get_or-set_same {A = ℕ} rights q r 0 f) s

    put_there : (p : ℕ) → (¬ (p ≡ q)) → ShownAt x kinds lefts rights p → ShownAt x kinds' lefts' rights' p
    put_there p d s =
        rw (a, b, c, get_or-set_other {A = ℕ} kinds q p k 0 d, get_or-set_other {A = ℕ} lefts q p l 0 d, get_or-set_other {A = ℕ} rights q p r 0 d) s

-- the equations and the items of the nodes before v are shown
pub record NodesShown (x : Input) (v : ℕ) (kinds lefts rights : List ℕ) : Type 0 where
  pub equations : (q : ℕ) → q < equation_count x.formula → ShownAt x kinds lefts rights q
  pub nodes : (u : ℕ) → first_body_node x.formula ≤ u → u < v → ShownAt x kinds lefts rights (item_number x (formula_tree x u))

-- ---- equations

operator_word : (o : Operator) → 7 - least_bit o ≡ operator_kind o
unfolding least_bit
operator_word least = refl
operator_word greatest = refl

module _ (x : Input) (good : GoodInput x) where
  pub first-none : (kinds lefts rights : List ℕ) → FirstShown x 0 kinds lefts rights
  first-none kinds lefts rights = record { shown = λ q h. absurd (omega arith) }

  module _ (table : EquationTable) (numbers : List ℕ) (listed : Listed x.formula table) (known : ItemNumbers x numbers) (i : ℕ) (h : i < equation_count x.formula) where
    -- the body of an equation is a body node
    body_node : BodyNode x.formula (equation_of x.formula i).body
    body_node = (inside (equation_node x.formula i h), body_below (size x.actions) x.formula good.formula i h)
      where
        inside : ((i ≡ 0) × (is_fixpoint (formula_node x.formula 0) ≡ false))
            ⊎ ((v : ℕ) × (v < size x.formula) × (is_fixpoint (formula_node x.formula v) ≡ true) × (equation_number x.formula v ≡ i))
            → first_body_node x.formula ≤ (equation_of x.formula i).body
        inside (inl (e, t)) = omega (arith, first_body x.formula t)
        inside (inr (v, a, t, e)) =
            let b : (equation_of x.formula i).body ≡ suc v = ap (λ (j : ℕ). (equation_of x.formula j).body) (sym e) ∙ fixpoint_body x.formula v t in
            omega (arith, first_most x.formula)

    pub body-room : (w : ℕ) → w ≡ body_in table i → w < length numbers
    body-room w e = let (p, q) = body_node in omega (arith, listed.body i h, known.room)

    pub body_small : (w : ℕ) → w ≡ body_in table i → w < 1_024
    body_small w e = let (p, q) = body_node in omega (arith, listed.body i h, good.formula.few)

    equation_shown : Entered x.formula table → (w o : ℕ) → w ≡ body_in table i → o ≡ operator_in table i → ItemShown x (item_at x i) o (word numbers w) 0
    unfolding body_tree
    equation_shown entered w o e g =
        let (p, q) = body_node in
        subst (λ (t : Item). ItemShown x t o (word numbers w) 0) (sym (item_equation x i h)) (
          g ∙ entered.fixpoint i h ∙ operator_word (equation_of x.formula i).operator,
          ap (word numbers) (e ∙ listed.body i h) ∙ known.number (equation_of x.formula i).body p q,
          refl,
        )

    pub first_next : Entered x.formula table → (kinds lefts rights kinds' lefts' rights' : List ℕ) (w o : ℕ)
        → i < length kinds → i < length lefts → i < length rights
        → w ≡ body_in table i
        → o ≡ operator_in table i
        → kinds' ≡ set kinds i o
        → lefts' ≡ set lefts i (word numbers w)
        → rights' ≡ set rights i 0
        → FirstShown x i kinds lefts rights
        → FirstShown x (i + 1) kinds' lefts' rights'
    first_next entered kinds lefts rights kinds' lefts' rights' w o d e f g j a b c s = record { shown = λ q u. at q (ℕ_discrete q i) u }
      where
        at : (q : ℕ) → Dec (q ≡ i) → q < i + 1 → ShownAt x kinds' lefts' rights' q
        at q (yes z) u =
            subst (ShownAt x kinds' lefts' rights') (sym z)
            (put-here x kinds lefts rights kinds' lefts' rights' i o (word numbers w) 0 a b c d e f (equation_shown entered w o g j))
        at q (no n) u = put_there x kinds lefts rights kinds' lefts' rights' i o (word numbers w) 0 a b c q n (s.shown q (omega arith))

  -- ---- subformulas

  pub nodes_first : (v count : ℕ) (kinds lefts rights : List ℕ) → v ≡ first_body_node x.formula → count ≡ equation_count x.formula → FirstShown x count kinds lefts rights
      → NodesShown x v kinds lefts rights
  nodes_first v count kinds lefts rights e c s = record { equations = λ q h. s.shown q (omega arith); nodes = λ u a b. absurd (omega arith) }

  module _ (numbers : List ℕ) (known : ItemNumbers x numbers) (v : ℕ) (b : BodyNode x.formula v) where
    pub number-room : (q : ℕ) → q ≡ word numbers v → q < length (items x)
    number-room q e = omega (arith, known.number v b.0 b.1, item_below x (formula_tree x v) (v, b, refl))

    node_shown : (q k l r : ℕ) → q ≡ word numbers v
        → FormulaShown (Later (formula_tree x) (size x.formula) v numbers) (Last (action_tree x.labels x.actions) (size x.actions)) (formula_tree x v) k l r
        → ItemShown x (item_at x q) k l r
    node_shown q k l r e s =
        subst (λ (t : Item). ItemShown x t k l r)
        (sym (item_subformula x (formula_tree x v) (v, b, refl)) ∙ ap (item_at x) (sym (e ∙ known.number v b.0 b.1)))
        (formula_shown_map (Later (formula_tree x) (size x.formula) v numbers) (λ g n. n ≡ item_number x g)
        (Last (action_tree x.labels x.actions) (size x.actions)) (ActionAt x)
        (λ t m z. sym z.number ∙ known.number z.node (let p = z.past in let h = b.0 in omega arith) z.below ∙ ap (item_number x) z.carries)
        (λ t m z. (z.below, z.carries))
        (formula_tree x v) k l r s)

    pub nodes_next : (kinds lefts rights kinds' lefts' rights' : List ℕ) (q k l r : ℕ)
        → q < length kinds → q < length lefts → q < length rights
        → q ≡ word numbers v
        → FormulaShown (Later (formula_tree x) (size x.formula) v numbers) (Last (action_tree x.labels x.actions) (size x.actions)) (formula_tree x v) k l r
        → kinds' ≡ set kinds q k
        → lefts' ≡ set lefts q l
        → rights' ≡ set rights q r
        → NodesShown x v kinds lefts rights
        → NodesShown x (v + 1) kinds' lefts' rights'
    nodes_next kinds lefts rights kinds' lefts' rights' q k l r d e f g s a a' a'' n =
        record {
          equations = λ p h. put_there x kinds lefts rights kinds' lefts' rights' q k l r a a' a'' p (omega (arith, own, h, item_past x (formula_tree x v))) (n.equations p h);
          nodes = λ u h w. at u (ℕ_discrete (item_number x (formula_tree x u)) q) (ℕ_discrete u v) h w;
        }
      where
        own : q ≡ item_number x (formula_tree x v)
        own = g ∙ known.number v b.0 b.1

        here : ShownAt x kinds' lefts' rights' q
        here = put-here x kinds lefts rights kinds' lefts' rights' q k l r a a' a'' d e f (node_shown q k l r g s)

        at : (u : ℕ) → Dec (item_number x (formula_tree x u) ≡ q) → Dec (u ≡ v) → first_body_node x.formula ≤ u → u < v + 1 → ShownAt x kinds' lefts' rights' (item_number x (formula_tree x u))
        at u (yes z) y h w = subst (ShownAt x kinds' lefts' rights') (sym z) here
        at u (no z) (yes y) h w = absurd (z (ap (λ (j : ℕ). item_number x (formula_tree x j)) y ∙ sym own))
        at u (no z) (no y) h w =
            put_there x kinds lefts rights kinds' lefts' rights' q k l r a a' a'' (item_number x (formula_tree x u)) z (n.nodes u h (omega arith))

  pub nodes_last : (v : ℕ) (kinds lefts rights : List ℕ) → v ≡ size x.formula → NodesShown x v kinds lefts rights → FirstShown x (length (items x)) kinds lefts rights
  nodes_last v kinds lefts rights e n = record { shown = λ q h. at q h (dec_lt q (equation_count x.formula)) }
    where
      carried : (q : ℕ) → (u : ℕ) × BodyNode x.formula u × (item_number x (formula_tree x u) ≡ q) → ShownAt x kinds lefts rights q
      carried q (u, b, z) = subst (ShownAt x kinds lefts rights) z (n.nodes u b.0 (let h = b.1 in omega arith))

      at : (q : ℕ) → q < length (items x) → Dec (q < equation_count x.formula) → ShownAt x kinds lefts rights q
      at q h (yes l) = n.equations q l
      at q h (no l) = carried q (item_carried x q (omega arith) h)

  -- ---- priorities, and the whole table

  -- the links of the fixpoints stand at the front of the table
  pub listed_numbers : (table : EquationTable) → length table.links ≡ 1_024 → Listed x.formula table → EquationNumbers x.formula table.links
  listed_numbers table long l = record { room = omega (arith, good.formula.few); number = λ v h p q. (l.link v h).own p q }

  -- by a ranking that looks at the formula alone: the ranks of the equations, and 0 past them
  pub ranks_made : (rank : Ranking) → ((i : ℕ) → rank (formula_only x.formula) i ≡ rank x i)
      → (count : ℕ) (old after : List ℕ) → count ≡ equation_count x.formula → 2_048 ≤ length after
      → RankedBy rank x.formula count (zeros old) after
      → Ranks rank x after
  ranks_made rank alone count old after e h r =
      record {
        room = omega (arith, items_few x good);
        ranked = λ q. go q (dec_lt q (equation_count x.formula));
      }
    where
      go : (q : ℕ) → Dec (q < equation_count x.formula) → word after q ≡ priority rank x (0, q)
      go q (yes l) = r.ranked q (omega arith) ∙ alone q ∙ sym (equation_priority x rank (0, q) l)
      go q (no l) = r.rest q (omega arith) ∙ zeros-word old q ∙ sym (other_priority x rank (0, q) (omega arith))

  pub table_made : (kinds lefts rights : List ℕ) → 2_048 ≤ length kinds → 2_048 ≤ length lefts → 2_048 ≤ length rights
      → FirstShown x (length (items x)) kinds lefts rights
      → ItemTable x kinds lefts rights
  table_made kinds lefts rights a b c s =
      record {
        kinds_room = omega (arith, items_few x good);
        lefts_room = omega (arith, items_few x good);
        rights_room = omega (arith, items_few x good);
        entry = s.shown;
      }

-- the table of items stays where only priorities are written
pub table_kept : (x : Input) (good : GoodInput x) (t u : Compiled)
    → KindsRoom t
    → ShownIn x (length (items x)) t
    → PrioritiesOnly t u
    → ItemTable x (kinds_in u) (lefts_in u) (rights_in u)
table_kept x good t u k s p =
    let long : length t.items ≡ 2_048 = sym (length-map t.items (λ i. formula_code i.kind)) ∙ k in
    let made = table_made x good (kinds_in t) (lefts_in t) (rights_in t)
    (omega (arith, k))
    (omega (arith, long, length-map t.items (λ i. i.left)))
    (omega (arith, long, length-map t.items (λ i. i.right)))
    s in
    subst (λ (es : List (Shape FormulaKind)). ItemTable x (map (λ i. formula_code i.kind) es) (map (λ i. i.left) es) (map (λ i. i.right) es))
    (sym p.items) made

-- ---- what was written

pub only_none : (t : Compiled) → ItemsOnly t t
only_none t = record { sized = refl; classes = refl; samples = refl }

pub only_more : (t u v : Compiled) → ItemsOnly t u → ItemsOnly u v → ItemsOnly t v
only_more t u v a b =
    record {
      sized = b.sized ∙ a.sized;
      classes = b.classes ∙ a.classes;
      samples = b.samples ∙ a.samples;
    }
