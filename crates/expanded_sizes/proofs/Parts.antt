-- What is known of a node from what is known of the later ones. Assumes nothing.
use mathlib.Core.Path.{◌≡◌, sym, ap}
use mathlib.Core.Logic.{◌⊎◌, inl, inr}
use mathlib.Core.List.{List}
use Prim.Native.Nat.{ℕ, suc, ◌+◌, ◌≤◌, ◌<◌, min}
use native.Mathlib.Omega.{arith}
use lib.ListN.{get_or}
use Rattle.rules.specs.Table.{size, kind, operand}
use Rattle.tables.specs.Good.{GoodFormula}
use Rattle.regular_rules.specs.Regular.{regular_tree}
use Rattle.regular_rules.specs.Good.{GoodRegulars}
use Rattle.regular_rules.specs.Sizes.{capped, size_at}
use Rattle.regular_rules.proofs.Counting.{capped_most}
use Rattle.regular_rules.proofs.SizesAt.{size_leaf, size_reference, size_two, size_fixpoint}
use Rattle.expanded_sizes.specs.declared.growth.Growth.{Growth}
use Rattle.expanded_sizes.specs.Growths.{GrowsBy, GrowFrom, CountedFrom}

-- ---- of the regular formulas

module _ (regs : List ℕ) (good : GoodRegulars regs) (v : ℕ) (h : v < size regs) where
  -- the kind that the code reads is the node's
  pub regular_read : (k word : ℕ) → word ≡ kind regs v → k ≡ min word 4 → kind regs v ≡ k
  regular_read k word i e = omega (arith, (good.nodes v h).known)

  module _ (gs : List Growth) (later : GrowFrom regs (v + 1) gs) where
    pub grows_next : (d : Growth) → 1 ≤ kind regs v → GrowsBy (regular_tree regs (suc v)) (get_or gs (v + 1) d)
    grows_next d a =
        let n = (good.nodes v h).next a in
        let one : suc v ≡ v + 1 = omega arith in
        rw one (later (v + 1) d (omega arith) (omega arith))

    pub grows_right : (o : ℕ) (d : Growth) → 1 ≤ kind regs v → kind regs v ≤ 2 → o ≡ operand regs v
        → GrowsBy (regular_tree regs (operand regs v)) (get_or gs o d)
    grows_right o d a b i =
        let n = (good.nodes v h).right a b in
        rw (← i) (later o d (omega arith) (omega arith))

-- ---- of the formula

module _ (regs : List ℕ) (m : ℕ) (f : List ℕ) (good : GoodFormula m f) (v : ℕ) (h : v < size f) where
  -- true, false and a reference
  pub leaf_counted : (kind f v ≤ 1) ⊎ (8 ≤ kind f v) → 1 ≡ capped (size_at regs f v)
  unfolding capped
  leaf_counted (inl a) = ap capped (sym (size_leaf regs m f good v h a))
  leaf_counted (inr a) =
      let l = (good.nodes v h).known in
      ap capped (sym (size_reference regs m f good v h (omega arith)))

  module _ (ns : List ℕ) (later : CountedFrom regs f (v + 1) ns) where
    pub counted_next : 2 ≤ kind f v → kind f v ≤ 7 → get_or ns (v + 1) 0 ≡ capped (size_at regs f (v + 1))
    counted_next a b = let n = (good.nodes v h).next a b in later (v + 1) (omega arith) (omega arith)

    counted_right : (o : ℕ) → 2 ≤ kind f v → kind f v ≤ 3 → o ≡ operand f v
        → get_or ns o 0 ≡ capped (size_at regs f (operand f v))
    counted_right o a b i = let n = (good.nodes v h).right a b in rw (← i) (later o (omega arith) (omega arith))

    pub next_few : 2 ≤ kind f v → kind f v ≤ 7 → get_or ns (v + 1) 0 ≤ 1_025
    next_few a b = omega (arith, counted_next a b, capped_most (size_at regs f (v + 1)))

    pub right_few : (o : ℕ) → 2 ≤ kind f v → kind f v ≤ 3 → o ≡ operand f v → get_or ns o 0 ≤ 1_025
    right_few o a b i = omega (arith, counted_right o a b i, capped_most (size_at regs f (operand f v)))

    pub two_counted : (o : ℕ) → 2 ≤ kind f v → kind f v ≤ 3 → o ≡ operand f v
        → capped (1 + get_or ns (v + 1) 0 + get_or ns o 0) ≡ capped (size_at regs f v)
    unfolding capped
    two_counted o a b i =
        omega (arith, counted_next a (omega arith), counted_right o a b i, size_two regs m f good v h a b)

    pub fixpoint_counted : 6 ≤ kind f v → kind f v ≤ 7 → capped (1 + get_or ns (v + 1) 0) ≡ capped (size_at regs f v)
    unfolding capped
    fixpoint_counted a b = omega (arith, counted_next (omega arith) b, size_fixpoint regs m f good v h a b)
