-- What is wrong with an expansion, in the words of document 02, #104: one clause for each condition, with its number
-- and its place. A clause speaks of one condition; that earlier numbers pass is not asked. Theorem `expansion_exact`: a
-- call is refused with the first of these, and with none if there is none. Assumes nothing: these are definitions.
use Rattle.std.specs.Prelude.{◌≡◌, List, [], ◌∷◌, ℕ, suc, ◌+◌, ◌*◌, ◌≤◌, ◌<◌, length, eqb}
use Rattle.std.proofs.Math.Option.{none, some}
use Rattle.rules.specs.Lists.{In, position}
use Rattle.rules.specs.Words.{most_nodes}
use Rattle.rules.specs.Labels.{label_count}
use Rattle.rules.specs.Table.{size, kind, operand, action_children, regular_children, tree_end}
use Rattle.rules.specs.Rows.{Root}
use Rattle.rules.specs.Faulty.{FaultyLabels, FaultyActions, FaultyFormula, First}
use Rattle.regular_rules.specs.Refusals.{RegularInput, table_length, expanded_size}

-- "61 for a malformed regular table": a table "laid out like the action table: 0 action formula (operand: an action
-- tree), 1 sequence, 2 choice, 3 star, 4 plus". What 31 to 34 say of the action table, they say of it (theorem
-- `malformed_exactly`: these are the tables that `malformed` finds)
pub data Malformed (acts regs : List ℕ) : Type 0 where
  no_regular_words : length regs ≡ 0 → Malformed acts regs
  wrong_regular_words : (¬ (length regs ≡ 1 + 2 * size regs)) → Malformed acts regs
  many_regular_nodes : most_nodes < size regs → Malformed acts regs
  regular_kind_too_large : (v : ℕ) → v < size regs → 4 < kind regs v → Malformed acts regs
  regular_no_action : (v : ℕ) → v < size regs → kind regs v ≡ 0 → size acts ≤ operand regs v → Malformed acts regs
  regular_no_root : (v : ℕ) → v < size regs → kind regs v ≡ 0 → (¬ Root (action_children acts) (size acts) (operand regs v))
      → Malformed acts regs
  regular_not_right : (v e : ℕ) → v < size regs → In (kind regs v) (1 ∷ 2 ∷ []) → tree_end (regular_children regs) (size regs) (suc v) ≡ some e
      → (¬ (operand regs v ≡ e)) → Malformed acts regs
  regular_not_zero : (v : ℕ) → v < size regs → In (kind regs v) (3 ∷ 4 ∷ []) → (¬ (operand regs v ≡ 0)) → Malformed acts regs
  regular_unfinished : (v : ℕ) → v < size regs → tree_end (regular_children regs) (size regs) v ≡ none → Malformed acts regs

-- fault n at place p; `out` is the length of the slice lent
pub data FaultyExpansion (x : RegularInput) (out : ℕ) : (n p : ℕ) → Type 0 where
  wrong_out : (¬ (out ≡ table_length)) → FaultyExpansion x out 2 0
  wrong_labels : {n p : ℕ} → FaultyLabels x.labels n p → FaultyExpansion x out n p
  wrong_actions : {n p : ℕ} → FaultyActions (label_count x.labels) x.actions n p → FaultyExpansion x out n p
  wrong_regulars : Malformed x.actions x.regulars → FaultyExpansion x out 61 0
  -- "41 to 45 with modal operands judged against the regular trees"
  wrong_formula : {n p : ℕ} → FaultyFormula (regular_children x.regulars) (size x.regulars) x.formula n p → FaultyExpansion x out n p
  -- "62 where the result exceeds 1,024 nodes"
  too_many_nodes : most_nodes < expanded_size x.regulars x.formula → FaultyExpansion x out 62 0

-- "Refused, in this order: 2, 11 to 13, 31 to 34, 61 .., 41 to 45 .., 62"
unfoldable pub expansion_turn : ℕ → ℕ
expansion_turn n = position eqb n (2 ∷ 11 ∷ 12 ∷ 13 ∷ 31 ∷ 32 ∷ 33 ∷ 34 ∷ 61 ∷ 41 ∷ 42 ∷ 43 ∷ 44 ∷ 45 ∷ 62 ∷ [])

-- fault n at place p is the first of all
abbrev pub FirstFaultyExpansion : RegularInput → (out n p : ℕ) → Type 0
FirstFaultyExpansion x out n p = First expansion_turn (FaultyExpansion x out) n p
