-- The whole formula, written up to the last node: the words are its table, and zeros past it. Assumes nothing.
use mathlib.Core.Path.{◌≡◌, refl, sym, ap, ap₂, ◌∙◌}
use mathlib.Core.List.{List, [], ◌++◌}
use Prim.Native.Nat.{ℕ, ◌+◌, ◌-◌, ◌*◌, ◌≤◌}
use native.Mathlib.Omega.{arith}
use lib.ListN.{length, take, replicate}
use lib.Seq.{get_or-take, length-take-le}
use Rattle.rules.specs.Lists.{word}
use Rattle.rules.specs.Game.{padded}
use Rattle.rules.specs.Table.{size}
use Rattle.writing.specs.Nodes.{Node, table_words, Holds}
use Rattle.writing.specs.FormulaSyntax.{FormulaOver, write_over, words_over}
use Rattle.writing.proofs.Nodes.{holds_at, holds_from, table_only, table_length}
use Rattle.writing.proofs.FormulaNodes.{written_length}
use Rattle.regular_rules.specs.Regular.{regular_tree}
use Rattle.writing.specs.FormulaReading.{formula_syntax, itself}
use Rattle.regular_rules.specs.Expand.{expand}
use Rattle.regular_rules.specs.Refusals.{expanded_size}
use Rattle.regular_rules.specs.Refusals.{table_length as room}
use Rattle.regular_rules.specs.Sizes.{size_at}
use Rattle.expanding.specs.declared.table.Part.{Part}
use Rattle.expanding.specs.Formulas.{FormulaWritten}

-- ---- the words of a table, at the front of a slice

module _ (ns : List Node) (ws : List ℕ) (e : size ws ≡ length ns) (l : 1 + 2 * size ws ≤ length ws) where
  front : List ℕ
  front = take (1 + 2 * size ws) ws

  front_size : size front ≡ size ws
  unfolding front
  front_size = get_or-take (1 + 2 * size ws) ws 0 0 (omega arith)

  table_front : Holds ns ws 0 → take (1 + 2 * size ws) ws ≡ table_words ns
  unfolding front
  table_front h =
      table_only ns front (length-take-le (1 + 2 * size ws) ws l ∙ ap (λ (n : ℕ). 1 + 2 * n) (sym front_size)) (front_size ∙ e)
      (holds_from ns front 0 (λ i k.
      let (a, b) = holds_at ns ws 0 h i k in (
        get_or-take (1 + 2 * size ws) ws (1 + (0 + i)) 0 (omega arith) ∙ a,
        ap (λ (n : ℕ). word front (1 + n + (0 + i))) front_size ∙ get_or-take (1 + 2 * size ws) ws (1 + size ws + (0 + i)) 0 (omega arith) ∙ b,
      )))

module _ (regs f : List ℕ) where
  -- the nodes of the result are those of its first node
  pub whole_size : expanded_size regs f ≡ size_at regs f 0
  unfolding expanded_size size_at formula_syntax
  whole_size = refl

  abbrev whole : FormulaOver ℕ
  whole = expand (formula_syntax (regular_tree regs) f)

  pub written : (n : ℕ) → n ≡ expanded_size regs f → (ws vs us : List ℕ) (q : Part) → size ws ≡ n → length vs ≡ room → 1 + 2 * n ≤ room
      → FormulaWritten regs f 0 n ws vs q → us ≡ take (1 + 2 * n) vs ++ replicate (length vs - (1 + 2 * n)) 0
      → us ≡ padded room (words_over itself whole)
  unfolding formula_syntax words_over padded
  written n e ws vs us q few long fits a zeros =
      let s = a.stands [] (λ u k l b. absurd (omega arith)) tt in
      let begins : q.start ≡ 0 = omega (arith, a.begins, whole_size) in
      let h : Holds (write_over itself whole [] 0) vs 0 = rw begins at s.nodes in
      let w = written_length itself whole [] 0 in
      let m : size vs ≡ n = a.rest.few ∙ few in
      let k : size vs ≡ length (write_over itself whole [] 0) = omega (arith, s.ends, a.ends) in
      let t = table_front (write_over itself whole [] 0) vs k (omega arith) h in
      let c = table_length (write_over itself whole [] 0) in
      let d : length (table_words (write_over itself whole [] 0)) ≡ 1 + 2 * n = omega arith in
      let z : length vs - (1 + 2 * n) ≡ room - length (table_words (write_over itself whole [] 0)) = omega arith in
      let i : take (1 + 2 * n) vs ≡ table_words (write_over itself whole [] 0) = ap (λ (j : ℕ). take (1 + 2 * j) vs) (sym m) ∙ t in
      zeros ∙ ap₂ (λ (xs : List ℕ) (j : ℕ). xs ++ replicate j 0) i z
