-- The words that stand for the kinds of nodes (document 01, "Words handed over"; of regular formulas document
-- 02, #104). Assumes nothing: these are definitions.
use Rattle.std.specs.Prelude.{◌≡◌, ℕ, ◌<◌, Result, MatchResult}
use Rattle.node_kinds.specs.declared.ActionKind.{ActionKind}
use Rattle.node_kinds.specs.declared.ActionKind.TheVariants.{True, False, MultiAction, Union, Intersection, Negation}
use Rattle.node_kinds.specs.declared.RegularKind.{RegularKind}
use Rattle.node_kinds.specs.declared.RegularKind.TheVariants as regular
use Rattle.node_kinds.specs.declared.FormulaKind.{FormulaKind}
use Rattle.node_kinds.specs.declared.FormulaKind.TheVariants as formula
use Rattle.node_kinds.specs.declared.UnknownKind.{UnknownKind}

-- "0 true, 1 false, 2 multi-action, 3 union, 4 intersection, 5 negation"
abbrev pub action_code : ActionKind → ℕ
action_code True = 0
action_code False = 1
action_code MultiAction = 2
action_code Union = 3
action_code Intersection = 4
action_code Negation = 5

-- "0 action formula (operand: an action tree), 1 sequence, 2 choice, 3 star, 4 plus"
abbrev pub regular_code : RegularKind → ℕ
regular_code regular.Action = 0
regular_code regular.Sequence = 1
regular_code regular.Choice = 2
regular_code regular.Star = 3
regular_code regular.Plus = 4

-- "0 true, 1 false, 2 and, 3 or, 4 box, 5 diamond, 6 least, 7 greatest, 8 reference"
abbrev pub formula_code : FormulaKind → ℕ
formula_code formula.True = 0
formula_code formula.False = 1
formula_code formula.And = 2
formula_code formula.Or = 3
formula_code formula.Box = 4
formula_code formula.Diamond = 5
formula_code formula.Least = 6
formula_code formula.Greatest = 7
formula_code formula.Reference = 8

-- the kind of an action formula's node with this word, or an error with a word that none has
abbrev pub ReadsAction : ℕ → Result ActionKind UnknownKind → Type 0
ReadsAction word r = MatchResult r (λ kind. action_code kind ≡ word) (λ e. (e.0 ≡ word) × (5 < word))

-- the kind of a regular formula's node with this word, or an error with a word that none has
abbrev pub ReadsRegular : ℕ → Result RegularKind UnknownKind → Type 0
ReadsRegular word r = MatchResult r (λ kind. regular_code kind ≡ word) (λ e. (e.0 ≡ word) × (4 < word))

-- the kind of a formula's node with this word, or an error with a word that none has
abbrev pub ReadsFormula : ℕ → Result FormulaKind UnknownKind → Type 0
ReadsFormula word r = MatchResult r (λ kind. formula_code kind ≡ word) (λ e. (e.0 ≡ word) × (8 < word))
