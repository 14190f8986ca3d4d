-- Reading a body, by the kind of its node. Assumes nothing.
use mathlib.Core.Path.{◌≡◌, refl, sym, ap, ap₂, ◌∙◌}
use mathlib.Core.Bool.{Bool, true, false, not, beq}
use mathlib.Core.Logic.{◌⊎◌, inl, inr}
use mir.Val.{bool_byte}
use mathlib.Core.List.{List, [], ◌∷◌, map}
use Prim.Native.Nat.{ℕ, ◌+◌, ◌≤◌, ◌<◌, max}
use native.Mathlib.Decide.{dec_lt}
use native.Mathlib.Omega.{arith}
use native.Mathlib.Numerals.{add-one}
use lib.Dec.{eqb}
use Rattle.rules.specs.Lists.{one, largest}
use Rattle.rules.specs.Table.{size, kind, operand}
use Rattle.rules.specs.Formula.{Operator, least, greatest, equation_count, equation_of, formula_tree, body_tree}
use Rattle.rules.specs.Depth.{references, alternates, reading, least_bit}
use Rattle.trees.proofs.FormulaTrees.{fixpoint_tree, reference_tree}
use Rattle.trees.proofs.Fixpoints.{fixpoint_at}
use Rattle.trees.proofs.Equations.{number_below, body_below, count_limit, referred_below}
use Rattle.trees.proofs.References.{leaf_largest, one-largest, two_largest}
use Rattle.trees.proofs.Readings.{contribution_target, contribution_later, contribution_other, reading_equation, reading_limit}
use Rattle.node_kinds.specs.Codes.{formula_code}
use Rattle.node_kinds.specs.declared.FormulaKind.{FormulaKind}
use Rattle.node_kinds.specs.declared.FormulaKind.TheVariants.{Least, Greatest, Reference}
use Rattle.modal_equation_system.specs.declared.EquationTable.{EquationTable}
use Rattle.modal_equation_system.specs.declared.Equations.{Equations}
use Rattle.modal_equation_system.specs.System.{formula_only, named, link_in, kind_in, body_in, least_in, Listed, counted, body_reading}
use Rattle.modal_equation_system.specs.System.{ListedNode, ListedEquation, ReadsBody, ReadsEquation}

-- ---- operators

bits_differ : (a b : Operator) → one (not (eqb (least_bit a) (least_bit b))) ≡ alternates a b
unfolding least_bit alternates
bits_differ least least = refl
bits_differ least greatest = refl
bits_differ greatest least = refl
bits_differ greatest greatest = refl

-- what the table says of two operators
listed_differ : (f : List ℕ) (table : EquationTable) → Listed f table → (i j : ℕ) → i < equation_count f → j < equation_count f
    → one (not (eqb (least_in table i) (least_in table j))) ≡ alternates (equation_of f i).operator (equation_of f j).operator
listed_differ f table s i j a b = rw (s.operator i a, s.operator j b) (bits_differ (equation_of f i).operator (equation_of f j).operator)

-- the same as the code compares them
differ_bits : (a b : Bool) → bool_byte (not (beq a b)) ≡ one (not (eqb (one a) (one b)))
differ_bits true true = refl
differ_bits true false = refl
differ_bits false true = refl
differ_bits false false = refl

pub byte_few : (b : Bool) → bool_byte b ≤ 1
byte_few true = omega arith
byte_few false = omega arith

-- the kinds that an arm of the code names, by their codes
pub reference_code : (k : FormulaKind) → (k ≡ Least) ⊎ ((k ≡ Greatest) ⊎ (k ≡ Reference)) → 6 ≤ formula_code k
reference_code k (inl e) = rw e (omega arith)
reference_code k (inr (inl e)) = rw e (omega arith)
reference_code k (inr (inr e)) = rw e (omega arith)

module _ (f : List ℕ) (table : EquationTable) (s : Listed f table) where
  -- the bit that the code adds
  alternates_byte : (i j : ℕ) → i < equation_count f → j < equation_count f
      → (a b : Bool) → one a ≡ least_in table i → one b ≡ least_in table j
      → bool_byte (not (beq a b)) ≡ alternates (equation_of f i).operator (equation_of f j).operator
  alternates_byte i j h g a b p q =
      differ_bits a b
      ∙ ap₂ (λ (m n : ℕ). one (not (eqb m n))) p q
      ∙ listed_differ f table s i j h g

  -- ---- a body, by the kind that the table has for its node

  module _ (v : ℕ) (h : v < size f) where
    kind-is : kind_in table v ≡ kind f v
    kind-is = s.kinds v h

    next_inside : 2 ≤ kind_in table v → kind_in table v ≤ 5 → v + 1 < size f
    next_inside p q = omega (arith, kind-is, (s.good.formula.nodes v h).next (omega (arith, kind-is)) (omega (arith, kind-is)))

    -- the link of an and or an or is its right operand
    operand_is : 2 ≤ kind_in table v → kind_in table v ≤ 3 → link_in table v ≡ operand f v
    operand_is p q = (s.link v h).right (omega (arith, kind-is)) (omega (arith, kind-is))

    right_inside : 2 ≤ kind_in table v → kind_in table v ≤ 3 → (v < link_in table v) × (link_in table v < size f)
    right_inside p q =
        let (a, b) = (s.good.formula.nodes v h).right (omega (arith, kind-is)) (omega (arith, kind-is)) in
        (omega (arith, operand_is p q), omega (arith, operand_is p q))

    -- the link of a fixpoint or a reference is its equation, the only reference at its node
    module _ (p : 6 ≤ kind_in table v) where
      link_reference : references (formula_tree (formula_only f) v) ≡ link_in table v ∷ []
      unfolding references
      link_reference = go (dec_lt (kind f v) 8)
        where
          go : Dec (kind f v < 8) → references (formula_tree (formula_only f) v) ≡ link_in table v ∷ []
          go (yes q) =
              ap references (fixpoint_tree (named f) (formula_only f) s.good.formula v h (omega (arith, kind-is)) (omega arith))
              ∙ ap (λ (m : ℕ). m ∷ []) (sym ((s.link v h).own (omega (arith, kind-is)) (omega arith)))
          go (no q) =
              ap references (reference_tree (named f) (formula_only f) s.good.formula v h (omega (arith, q, (s.good.formula.nodes v h).known)))
              ∙ ap (λ (m : ℕ). m ∷ []) (sym ((s.link v h).outer (omega arith)))

      body_reference : (t i : ℕ) → body_reading f t i v ≡ counted f t i (link_in table v)
      unfolding body_reading largest
      body_reference t i =
          let k : (x : ℕ) → max x 0 ≡ x = λ x. omega arith in
          ap (λ (js : List ℕ). largest (map (counted f t i) js)) link_reference ∙ k (counted f t i (link_in table v))

      link_few : link_in table v < equation_count f
      link_few = go (dec_lt (kind f v) 8)
        where
          go : Dec (kind f v < 8) → link_in table v < equation_count f
          go (yes q) =
              omega (arith, (s.link v h).own (omega (arith, kind-is)) (omega arith), number_below f v (fixpoint_at f v h (omega (arith, kind-is)) (omega arith)))
          go (no q) = omega (arith, (s.link v h).outer (omega arith), referred_below (named f) f s.good.formula v h (omega arith))

  -- ---- an equation, by the node that the table has for it

  body_few : (i : ℕ) → i < equation_count f → body_in table i < size f
  body_few i h = omega (arith, s.body i h, body_below (named f) f s.good.formula i h)

  -- ---- how many there are

  pub listed_few : equation_count f ≤ 1_024
  listed_few = count_limit (named f) f s.good.formula

  pub formula_few : size f ≤ 1_024
  formula_few = s.good.formula.few

-- ---- what is asked, of some formula that the table is of

module _ (table : EquationTable) (v i : ℕ) (n : ListedNode table v i) where
  pub next_listed : 2 ≤ kind_in table v → kind_in table v ≤ 5 → ListedNode table (v + 1) i
  next_listed p q =
      record { formula = n.formula; listed = n.listed; inside = next_inside n.formula table n.listed v n.inside p q; below = n.below }

  pub right_listed : 2 ≤ kind_in table v → kind_in table v ≤ 3 → ListedNode table (link_in table v) i
  right_listed p q =
      record { formula = n.formula; listed = n.listed; inside = (right_inside n.formula table n.listed v n.inside p q).1; below = n.below }

  pub right_later : 2 ≤ kind_in table v → kind_in table v ≤ 3 → v < link_in table v
  right_later p q = (right_inside n.formula table n.listed v n.inside p q).0

  -- the equation that the code goes to
  pub link_listed : (k : FormulaKind) → formula_code k ≡ kind_in table v → (k ≡ Least) ⊎ ((k ≡ Greatest) ⊎ (k ≡ Reference))
      → (j : ℕ) → j ≡ link_in table v → ListedEquation table j
  link_listed k e c j g =
      let p : 6 ≤ kind_in table v = omega (arith, e, reference_code k c) in
      rw g (record { formula = n.formula; listed = n.listed; below = link_few n.formula table n.listed v n.inside p })

module _ (table : EquationTable) (i : ℕ) (n : ListedEquation table i) where
  pub equation_few : i < 1_024
  equation_few = omega (arith, n.below, listed_few n.formula table n.listed)

  pub body_listed : ListedNode table (body_in table i) i
  body_listed =
      record { formula = n.formula; listed = n.listed; inside = body_few n.formula table n.listed i n.below; below = n.below }

  -- a reading, with 1 more, fits a word
  pub reading_few : (t r : ℕ) → ReadsEquation table i t r → r ≤ 1_024
  reading_few t r e =
      omega (
        arith,
        e n.formula n.listed n.below,
        reading_limit (named n.formula) (formula_only n.formula) n.listed.good.formula t i,
        listed_few n.formula table n.listed,
      )

-- ---- what is promised, of every formula that the table is of: a body, by the kind that the table has for its node

module _ (table : EquationTable) (t i v : ℕ) where
  pub at_leaf : kind_in table v ≤ 1 → ReadsBody table v i t 0
  unfolding body_reading
  at_leaf p f s h b = sym (leaf_largest (named f) (formula_only f) s.good.formula (counted f t i) v h (omega (arith, s.kinds v h)))

  pub at_modal : (r : ℕ) → 4 ≤ kind_in table v → kind_in table v ≤ 5 → ReadsBody table (v + 1) i t r → ReadsBody table v i t r
  unfolding body_reading
  at_modal r p q e f s h b =
      let k = s.kinds v h in
      e f s (next_inside f table s v h (omega arith) q) b
      ∙ rw add-one (sym (one-largest (named f) (formula_only f) s.good.formula (counted f t i) v h (omega (arith, k)) (omega (arith, k))))

  -- the link of an and or an or is its right operand
  pub at_two : (l r : ℕ) → 2 ≤ kind_in table v → kind_in table v ≤ 3
      → ReadsBody table (v + 1) i t l → ReadsBody table (link_in table v) i t r → ReadsBody table v i t (max l r)
  unfolding body_reading
  at_two l r p q d e f s h b =
      let k = s.kinds v h in
      ap₂ max (d f s (next_inside f table s v h p (omega arith)) b) (e f s (right_inside f table s v h p q).1 b)
      ∙ rw (operand_is f table s v h p q, add-one)
      (sym (two_largest (named f) (formula_only f) s.good.formula (counted f t i) v h (omega (arith, k)) (omega (arith, k))))

  module _ (p : 6 ≤ kind_in table v) where
    pub at_target : link_in table v ≡ t → ReadsBody table v i t 1
    unfolding counted
    at_target e f s h b =
        sym (body_reference f table s v h p t i ∙ contribution_target f t i (link_in table v) (reading (formula_only f) t (link_in table v)) e)

    pub at_outer : (¬ (link_in table v ≡ t)) → link_in table v ≤ i → ReadsBody table v i t 0
    unfolding counted
    at_outer d l f s h b =
        sym (body_reference f table s v h p t i ∙ contribution_other f t i (link_in table v) (reading (formula_only f) t (link_in table v)) d l)

    -- the bit is 1 where the operators differ
    pub at_later : (j : ℕ) → j ≡ link_in table v → (¬ (j ≡ t)) → i < j
        → (r : ℕ) → ReadsEquation table j t r
        → (a b : Bool) → one a ≡ least_in table i → one b ≡ least_in table j
        → ReadsBody table v i t (r + bool_byte (not (beq a b)))
    unfolding counted
    at_later j q d l r e a b x y f s h g =
        let below : j < equation_count f = omega (arith, q, link_few f table s v h p) in
        ap₂ ◌+◌ (e f s below) (alternates_byte f table s i j g below a b x y)
        ∙ sym (contribution_later f t i j (reading (formula_only f) t j) d l)
        ∙ ap (counted f t i) q ∙ sym (body_reference f table s v h p t i)

-- reading an equation is reading its body
pub at_equation : (table : EquationTable) (t i r : ℕ) → ReadsBody table (body_in table i) i t r → ReadsEquation table i t r
unfolding counted body_reading body_tree
at_equation table t i r e f s h =
    e f s (body_few f table s i h) h ∙ rw (s.body i h) (sym (reading_equation (named f) (formula_only f) s.good.formula t i h))

-- ---- the struct's formula

pub count_few : (it : Equations) → equation_count it.formula.now ≤ 1_024
count_few it = listed_few it.formula.now it.table.now it.listed
