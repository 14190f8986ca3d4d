-- Formulas written: one law for each kind of a node, and that there is room for its parts. Assumes nothing.
use mathlib.Core.Path.{◌≡◌, sym, ap, ap₂, ◌∙◌, subst}
use mathlib.Core.Logic.{◌⊎◌, inl, inr}
use mathlib.Core.List.{List, [], ◌∷◌, map}
use Prim.Native.Nat.{ℕ, suc, min, ◌+◌, ◌-◌, ◌≤◌, ◌<◌}
use native.Mathlib.Omega.{arith}
use native.Mathlib.Numerals.{add-one}
use native.Mathlib.Decide.{ℕ_discrete}
use lib.ListN.{length-map, get_or}
use lib.Dec.{eqb}
use Rattle.node_kinds.specs.declared.FormulaKind.{FormulaKind}
use Rattle.node_kinds.specs.declared.FormulaKind.TheVariants as formula
use Rattle.node_kinds.specs.Codes.{formula_code}
use Rattle.rules.specs.Lists.{In, position}
use Rattle.rules.specs.Table.{size, kind, operand, regular_children}
use Rattle.lists.specs.Shapes.{Falling}
use Rattle.lists.proofs.Members.{map_at, position_below, position_at}
use Rattle.lists.proofs.Shapes.{falling_above}
use Rattle.lists.proofs.Equalities.{number_equality}
use Rattle.tables.specs.Good.{GoodFormulaNode}
use Rattle.tables.proofs.Decode.{fixpoint_low}
use Rattle.tables.proofs.Accepted.{formula_right_child, formula_refers}
use Rattle.writing.specs.FormulaSyntax.{FormulaOver}
use Rattle.writing.specs.FormulaReading.{syntax_at, Complete}
use Rattle.writing.proofs.FormulaNodes.{formula_some}
use Rattle.writing.proofs.FormulaReading.{complete_next, complete_more, complete_right}
use Rattle.regular_rules.specs.Regular.{regular_tree}
use Rattle.regular_rules.specs.Expand.{Modality, box, diamond, both_formula, again_formula, modal, expand}
use Rattle.regular_rules.specs.Sizes.{modal_size, size_at}
use Rattle.regular_rules.specs.Good.{GoodTables}
use Rattle.regular_rules.proofs.Formulas.{true_at, false_at, and_at, or_at, box_at, diamond_at, least_at, greatest_at, reference_at}
use Rattle.regular_rules.proofs.SizesAt.{size_leaf, size_reference, size_two, size_modal, size_fixpoint}
use Rattle.expanding.specs.declared.table.Part.{Part}
use Rattle.expanding.specs.Parts.{Roomy, part_size, Extended, Stands, Unwritten, Bound}
use Rattle.expanding.specs.Modalities.{modal_kind, both_kind, again_kind, ModalWritten}
use Rattle.expanding.specs.Formulas.{pending, FormulaWritten}
use Rattle.expanding.proofs.Standing.{same_later, same_then, roomy_then, stands_kept}
use Rattle.expanding.proofs.Operators.{stands_true, stands_false, stands_reference, stands_again, stands_both}
use Rattle.expanding.proofs.Modalities.{size_more}

-- ---- kinds that are written alike

pub two_of : (k : FormulaKind) → (k ≡ formula.And) ⊎ (k ≡ formula.Or) → (m : Modality) × (formula_code k ≡ both_kind m)
two_of k (inl e) = (box, ap formula_code e)
two_of k (inr e) = (diamond, ap formula_code e)

pub modal_of : (k : FormulaKind) → (k ≡ formula.Box) ⊎ (k ≡ formula.Diamond) → (m : Modality) × (formula_code k ≡ modal_kind m)
modal_of k (inl e) = (box, ap formula_code e)
modal_of k (inr e) = (diamond, ap formula_code e)

pub fixpoint_of : (k : FormulaKind) → (k ≡ formula.Least) ⊎ (k ≡ formula.Greatest) → (m : Modality) × (formula_code k ≡ again_kind m)
fixpoint_of k (inl e) = (diamond, ap formula_code e)
fixpoint_of k (inr e) = (box, ap formula_code e)

pub leaf_of : (k : FormulaKind) → (k ≡ formula.True) ⊎ (k ≡ formula.False) → formula_code k ≤ 1
leaf_of k (inl e) = omega (arith, ap formula_code e)
leaf_of k (inr e) = omega (arith, ap formula_code e)

both_low : (m : Modality) → (2 ≤ both_kind m) × (both_kind m ≤ 3)
both_low box = (omega arith, omega arith)
both_low diamond = (omega arith, omega arith)

modal_low : (m : Modality) → (4 ≤ modal_kind m) × (modal_kind m ≤ 5)
modal_low box = (omega arith, omega arith)
modal_low diamond = (omega arith, omega arith)

again_low : (m : Modality) → (6 ≤ again_kind m) × (again_kind m ≤ 7)
again_low box = (omega arith, omega arith)
again_low diamond = (omega arith, omega arith)

-- ---- fixpoints that are not written yet

pending_unwritten : (around : List ℕ) → Unwritten (map pending around)
pending_unwritten [] = tt
pending_unwritten (x ∷ xs) = (omega arith, pending_unwritten xs)

-- one that is nearer than all others is none of them
pending_new : (u : ℕ) (around : List ℕ) → Falling u around → ¬ In (pending u) (map pending around)
pending_new u [] f i = i
pending_new u (x ∷ xs) f (inl e) = omega (arith, f.0)
pending_new u (x ∷ xs) f (inr i) = pending_new u xs (falling_above x u xs (omega (arith, f.0)) f.1) i

module _ {regs f : List ℕ} (good : GoodTables regs f) {u : ℕ} (h : u < size f) where
  -- the expanded formula at a node
  abbrev at : List ℕ → ℕ → FormulaOver ℕ
  at around v = expand (syntax_at (regular_tree regs) f around v)

  node : GoodFormulaNode (size regs) f u
  node = good.formula.nodes u h

  -- the kind that its word is read as
  pub told : {w k : ℕ} → w ≡ kind f u → k ≡ min w 8 → kind f u ≡ k
  told e i = omega (arith, node.known)

  next : 2 ≤ kind f u → kind f u ≤ 7 → u + 1 < size f
  next a b = omega (arith, node.next a b)

  two_children : 2 ≤ kind f u → kind f u ≤ 3 → (u + 1 < operand f u) × (operand f u < size f)
  two_children a b = let (p, q) = node.right a b in (omega arith, q)

  -- ---- what it is

  both_is : (m : Modality) → kind f u ≡ both_kind m → (around : List ℕ)
      → at around u ≡ both_formula m (at around (u + 1)) (at around (operand f u))
  unfolding expand both_formula
  both_is box k around = rw add-one (ap expand (and_at (regular_tree regs) (size regs) f good.formula around u h k))
  both_is diamond k around = rw add-one (ap expand (or_at (regular_tree regs) (size regs) f good.formula around u h k))

  modal_is : (m : Modality) → kind f u ≡ modal_kind m → (around : List ℕ)
      → at around u ≡ modal m (regular_tree regs (operand f u)) (at around (u + 1))
  unfolding expand
  modal_is box k around = rw add-one (ap expand (box_at (regular_tree regs) (size regs) f good.formula around u h k))
  modal_is diamond k around = rw add-one (ap expand (diamond_at (regular_tree regs) (size regs) f good.formula around u h k))

  again_is : (m : Modality) → kind f u ≡ again_kind m → (around : List ℕ) → at around u ≡ again_formula m (at (u ∷ around) (u + 1))
  unfolding expand again_formula
  again_is box k around = rw add-one (ap expand (greatest_at (regular_tree regs) (size regs) f good.formula around u h k))
  again_is diamond k around = rw add-one (ap expand (least_at (regular_tree regs) (size regs) f good.formula around u h k))

  -- ---- how many nodes

  pub size_some : (v : ℕ) → 1 ≤ size_at regs f v
  unfolding size_at
  size_some v = formula_some (at [] v)

  leaf_size : kind f u ≤ 1 → size_at regs f u ≡ 1
  leaf_size = size_leaf regs (size regs) f good.formula u h

  both_size : (m : Modality) → kind f u ≡ both_kind m → size_at regs f u ≡ suc (size_at regs f (u + 1) + size_at regs f (operand f u))
  both_size m k =
      let (a, b) = both_low m in
      size_two regs (size regs) f good.formula u h (omega arith) (omega arith)

  modality_size : (m : Modality) → kind f u ≡ modal_kind m
      → size_at regs f u ≡ modal_size (regular_tree regs (operand f u)) (size_at regs f (u + 1))
  modality_size m k =
      let (a, b) = modal_low m in
      size_modal regs (size regs) f good.formula u h (omega arith) (omega arith)

  -- where its body stands in a part
  modality_is : (m : Modality) → kind f u ≡ modal_kind m → {o : ℕ} → o ≡ operand f u → {end : ℕ} {ws vs : List ℕ} {body : Part}
      → FormulaWritten regs f (u + 1) end ws vs body → size_at regs f u ≡ modal_size (regular_tree regs o) (part_size body)
  modality_is m k {o} e {body = body} a =
      let n : part_size body ≡ size_at regs f (u + 1) = omega (arith, a.begins, a.ends) in
      modality_size m k ∙ ap₂ (λ (v : ℕ) (i : ℕ). modal_size (regular_tree regs v) i) (sym e) (sym n)

  again_size : (m : Modality) → kind f u ≡ again_kind m → size_at regs f u ≡ suc (size_at regs f (u + 1))
  again_size m k =
      let (a, b) = again_low m in
      size_fixpoint regs (size regs) f good.formula u h (omega arith) (omega arith)

  -- ---- there is room for its parts, where there is room for the node up to node `end`

  module _ (m : Modality) where
    pub right_room : {o : ℕ} → kind f u ≡ both_kind m → o ≡ operand f u → {end : ℕ} → size_at regs f u ≤ end
        → (u < o) × (o < size f) × (size_at regs f o ≤ end)
    right_room k e space =
        let (a, b) = both_low m in
        let (x, y) = two_children (omega arith) (omega arith) in
        (omega arith, omega arith, omega (arith, both_size m k, ap (size_at regs f) e))

    module _ {o : ℕ} (k : kind f u ≡ both_kind m) (e : o ≡ operand f u) {end : ℕ} (space : size_at regs f u ≤ end) {ws vs : List ℕ} {right : Part}
        (roomy : Roomy ws) (inside : end ≤ size ws) (a : FormulaWritten regs f o end ws vs right) where
      pub left_room : (u + 1 < size f) × (Roomy vs × (right.start ≤ size vs)) × (size_at regs f (u + 1) ≤ right.start)
      left_room =
          let (lo, hi) = both_low m in
          let few = a.rest.few in (
            next (omega arith) (omega arith),
            (roomy_then a.rest roomy, omega (arith, a.begins)),
            omega (arith, a.begins, both_size m k, ap (size_at regs f) e),
          )

      pub join_room : {us : List ℕ} {left : Part} → FormulaWritten regs f (u + 1) right.start vs us left
          → Roomy us × (1 ≤ left.start) × (left.start ≤ size us) × (right.start < 4_294_967_296)
      join_room b =
          let few = a.rest.few in
          let more = b.rest.few in
          let most = roomy.1 in (
            roomy_then b.rest (roomy_then a.rest roomy),
            omega (arith, a.begins, b.begins, both_size m k, ap (size_at regs f) e),
            omega (arith, a.begins, b.begins),
            omega (arith, a.begins),
          )

    pub body_room : kind f u ≡ modal_kind m → {end : ℕ} → size_at regs f u ≤ end → (u + 1 < size f) × (size_at regs f (u + 1) ≤ end)
    body_room k space =
        let (a, b) = modal_low m in
        let more = size_more (regular_tree regs (operand f u)) (size_at regs f (u + 1)) in
        (next (omega arith) (omega arith), omega (arith, modality_size m k))

    pub modal_room : kind f u ≡ modal_kind m → {o : ℕ} → o ≡ operand f u → {end : ℕ} → size_at regs f u ≤ end → {ws vs : List ℕ} {body : Part}
        → FormulaWritten regs f (u + 1) end ws vs body → modal_size (regular_tree regs o) (part_size body) ≤ body.end
    modal_room k {o} e space {body = body} a = omega (arith, a.ends, modality_is m k e a)

    pub fixpoint_room : kind f u ≡ again_kind m → {end : ℕ} → size_at regs f u ≤ end → (u + 1 < size f) × (size_at regs f (u + 1) < end)
    fixpoint_room k space =
        let (a, b) = again_low m in
        (next (omega arith) (omega arith), omega (arith, again_size m k))

  -- ---- the fixpoints around its parts

  inner : kind f u < 6 → (around : List ℕ) → Complete f around u → Falling u around → Complete f around (u + 1) × Falling (u + 1) around
  inner k around c fall =
      let one : suc u ≡ u + 1 = omega arith in
      (subst (Complete f around) one (complete_next f around u (fixpoint_low f u h k) c), falling_above u (u + 1) around (omega arith) fall)

  second : 2 ≤ kind f u → kind f u ≤ 3 → (around : List ℕ) → Complete f around u → Falling u around
      → Complete f around (operand f u) × Falling (operand f u) around
  second a b around c fall =
      let (x, y, z, w) = formula_right_child (regular_children regs) (size regs) f good.kinds good.operands u h a b in
      (complete_right f around u (operand f u) (fixpoint_low f u h (omega arith)) x c, falling_above u (operand f u) around (omega arith) fall)

  -- ---- one law for each kind

  pub wrote_leaf : {k end : ℕ} {ws vs : List ℕ} {q : Part} → kind f u ≡ k → k ≤ 1 → Extended (record { start = end; end = end }) k 0 ws vs q
      → FormulaWritten regs f u end ws vs q
  unfolding expand
  wrote_leaf {k} {end} {ws} {vs} {q} e l x =
      record {
        rest = x.rest;
        begins = omega (arith, x.begins, leaf_size (omega arith));
        ends = x.ends;
        stands = λ around c fall. go (ℕ_discrete k 0) around;
      }
    where
      go : Dec (k ≡ 0) → (around : List ℕ) → Stands (at around u) (map pending around) q vs
      go (yes z) around = rw (true_at (regular_tree regs) (size regs) f good.formula around u h (e ∙ z)) (stands_true (rw z at x))
      go (no z) around =
          let o : k ≡ 1 = omega arith in
          rw (false_at (regular_tree regs) (size regs) f good.formula around u h (e ∙ o)) (stands_false (rw o at x))

  pub wrote_reference : {o end : ℕ} {ws vs : List ℕ} {q : Part} → o ≡ operand f u → kind f u ≡ 8
      → Extended (record { start = end; end = end }) 8 (pending o) ws vs q → FormulaWritten regs f u end ws vs q
  unfolding expand
  wrote_reference {o} {end} {ws} {vs} {q} e k x =
      record {
        rest = x.rest;
        begins = omega (arith, x.begins, size_reference regs (size regs) f good.formula u h k);
        ends = x.ends;
        stands = λ around c fall.
            let (a, b, d) = formula_refers (regular_children regs) (size regs) f good.kinds good.operands good.references u h (omega arith) in
            let i = c (operand f u) a b d in
            let l = position_below number_equality (operand f u) around i in
            let n = length-map around pending in
            let y = map_at pending around (position eqb (operand f u) around) 0 0 l in
            let z = position_at number_equality (operand f u) around 0 i in
            let p : pending o ≡ get_or (map pending around) (position eqb (operand f u) around) 0 = ap pending (e ∙ sym z) ∙ sym y in
            rw (reference_at (regular_tree regs) (size regs) f good.formula around u h k)
            (stands_reference (position eqb (operand f u) around) (omega arith) (rw p at x));
      }

  module _ (m : Modality) {end : ℕ} {ws vs : List ℕ} where
    pub wrote_two : {o : ℕ} {us xs : List ℕ} {right left q : Part} → end ≤ size ws → kind f u ≡ both_kind m → o ≡ operand f u
        → FormulaWritten regs f o end ws vs right → FormulaWritten regs f (u + 1) right.start vs us left
        → Extended (record { start = left.start; end = end }) (both_kind m) right.start us xs q → FormulaWritten regs f u end ws xs q
    wrote_two {o} {us} {xs} {right} {left} {q} inside k e a b x =
        let i = a.begins in
        let j = b.begins in
        let n = ap (size_at regs f) e in
        let joining = same_later {d = right.start} (omega arith) x.rest in
        record {
          rest = same_then (omega arith) a.rest (same_then (omega arith) b.rest joining);
          begins = omega (arith, x.begins, both_size m k);
          ends = x.ends;
          stands = λ around c fall.
              let (lo, hi) = both_low m in
              let few = a.rest.few in
              let more = b.rest.few in
              let (c1, fall1) = inner (omega arith) around c fall in
              let (c2, fall2) = second (omega arith) (omega arith) around c fall in
              let right_part = stands_kept b.rest (omega arith) (omega (arith, a.ends)) (a.stands around (rw e c2) (rw e fall2)) in
              let joined = subst (λ (n : ℕ). Extended (record { start = left.start; end = n }) (both_kind m) right.start us xs q) (sym a.ends) x in
              rw (both_is m k around, ← e) (stands_both m b.ends (omega (arith, a.ends)) joined (b.stands around c1 fall1) right_part);
        }

    pub wrote_modality : {o : ℕ} {us : List ℕ} {body q : Part} → kind f u ≡ modal_kind m → o ≡ operand f u
        → FormulaWritten regs f (u + 1) end ws vs body → ModalWritten m (regular_tree regs o) body vs us q → FormulaWritten regs f u end ws us q
    wrote_modality {o} k e a b =
        record {
          rest = same_then (omega (arith, a.begins)) a.rest b.rest;
          begins = omega (arith, b.begins, a.ends, modality_is m k e a);
          ends = b.ends ∙ a.ends;
          stands = λ around c fall.
              let (lo, hi) = modal_low m in
              let (c1, fall1) = inner (omega arith) around c fall in
              rw (modal_is m k around, ← e)
              (b.stands (at around (u + 1)) (map pending around) (pending_unwritten around) (a.stands around c1 fall1));
        }

    pub wrote_fixpoint : {us xs : List ℕ} {body q : Part} → end ≤ size ws → kind f u ≡ again_kind m → FormulaWritten regs f (u + 1) end ws vs body
        → Bound body (pending u) (body.start - 1) vs us → Extended body (again_kind m) 0 us xs q → FormulaWritten regs f u end ws xs q
    wrote_fixpoint {body = body} {q} inside k a b x =
        let i = a.begins in
        let e = a.ends in
        let binding = same_later {d = end} (omega arith) b.rest in
        let joining = same_later {d = end} (omega arith) x.rest in
        record {
          rest = same_then (omega arith) a.rest (same_then (omega arith) binding joining);
          begins = omega (arith, x.begins, again_size m k);
          ends = x.ends ∙ a.ends;
          stands = λ around c fall.
              let few = a.rest.few in
              let more = b.rest.few in
              let v : body.start - 1 ≡ q.start = omega (arith, x.begins) in
              let one : suc u ≡ u + 1 = omega arith in
              let there = a.stands (u ∷ around) (subst (Complete f (u ∷ around)) one (complete_more f around u c)) (omega arith, fall) in
              let bound = b.stands (at (u ∷ around) (u + 1)) (map pending around) (pending_new u around fall) there in
              rw (again_is m k around) (stands_again m (omega arith) x (rw v at bound));
        }
