-- Formulas as plain syntax trees, written as words, and the equations that they stand for (document 01, "Words handed
-- over": "one tree in the same order", and "Equations"). Assumes nothing: these are definitions.
use Rattle.std.specs.Prelude.{◌≡◌, Bool, true, false, cond, List, [], ◌∷◌, ◌++◌, map, ℕ, suc, ◌+◌, ◌≤◌, ◌<◌, length, get_or}
use Rattle.rules.specs.Answers.{Check}
use Rattle.std.specs.declared.result.Result.TheVariants.{Ok}
use Rattle.rules.specs.Words.{Input, most_nodes}
use Rattle.rules.specs.Labels.{label_count}
use Rattle.rules.specs.Actions.{Action}
use Rattle.rules.specs.Formula.{Operator, least, greatest, Equation, equations, Formula, truth, falsity, conjunction, disjunction, box, diamond, reference, body_tree}
use Rattle.rules.specs.Refusal.{refusal11, refusal12, refusal13, refusal21, refusal22, refusal23, refusal24, refusal25, refusal26}
use Rattle.rules.specs.Refusal.{names_no_tree, refusal41, refusal42, refusal43, refusal44, refusal45}
use Rattle.writing.specs.Nodes.{Node, table_words}
use Rattle.writing.specs.ActionSyntax.{ActionSyntax, true_action, row_words, first_node, RowFits, read_action}

-- A formula whose modalities carry something of any type M. A reference names a fixpoint around it by how many it
-- passes on the way outward
pub data FormulaOver (M : Type 0) : Type 0 where
  true_formula false_formula : FormulaOver M
  and_formula or_formula : (left right : FormulaOver M) → FormulaOver M
  box_formula diamond_formula : (modality : M) (formula : FormulaOver M) → FormulaOver M
  least_formula greatest_formula : (formula : FormulaOver M) → FormulaOver M
  reference_formula : (passed : ℕ) → FormulaOver M

-- a modality names one of the row's trees by its place
abbrev pub FormulaSyntax : Type 0
FormulaSyntax = FormulaOver ℕ

-- ---- writing

-- its number of nodes
unfoldable pub formula_size : {M : Type 0} → FormulaOver M → ℕ
formula_size true_formula = 1
formula_size false_formula = 1
formula_size (and_formula a b) = suc (formula_size a + formula_size b)
formula_size (or_formula a b) = suc (formula_size a + formula_size b)
formula_size (box_formula i a) = suc (formula_size a)
formula_size (diamond_formula i a) = suc (formula_size a)
formula_size (least_formula a) = suc (formula_size a)
formula_size (greatest_formula a) = suc (formula_size a)
formula_size (reference_formula i) = 1

module _ {M : Type 0} (operand_of : M → ℕ) where
  -- its nodes, the first of them being node v of the table; `around` are the nodes of the fixpoints around it, the
  -- nearest first. The operand of a modality is that of what it carries
  unfoldable pub write_over : FormulaOver M → (around : List ℕ) → (v : ℕ) → List Node
  write_over true_formula around v = (0, 0) ∷ []
  write_over false_formula around v = (1, 0) ∷ []
  write_over (and_formula a b) around v = (2, suc v + formula_size a) ∷ (write_over a around (suc v) ++ write_over b around (suc v + formula_size a))
  write_over (or_formula a b) around v = (3, suc v + formula_size a) ∷ (write_over a around (suc v) ++ write_over b around (suc v + formula_size a))
  write_over (box_formula m a) around v = (4, operand_of m) ∷ write_over a around (suc v)
  write_over (diamond_formula m a) around v = (5, operand_of m) ∷ write_over a around (suc v)
  write_over (least_formula a) around v = (6, 0) ∷ write_over a (v ∷ around) (suc v)
  write_over (greatest_formula a) around v = (7, 0) ∷ write_over a (v ∷ around) (suc v)
  write_over (reference_formula i) around v = (8, get_or around i 0) ∷ []

  unfoldable pub words_over : FormulaOver M → List ℕ
  words_over f = table_words (write_over f [] 0)

-- of a formula whose modalities name trees of a row: the operand is the first node of the tree
abbrev pub write_formula : (row : List ActionSyntax) → FormulaSyntax → (around : List ℕ) → (v : ℕ) → List Node
write_formula row = write_over (first_node row)

abbrev pub formula_words : (row : List ActionSyntax) → FormulaSyntax → List ℕ
formula_words row = words_over (first_node row)

-- ---- the limits

-- what every modality carries is fit, and every reference names one of so many fixpoints around the formula or one
-- inside it
abbrev pub Fits : {M : Type 0} → (fit : M → Type 0) → (around : ℕ) → FormulaOver M → Type 0
Fits fit around true_formula = Unit {0}
Fits fit around false_formula = Unit {0}
Fits fit around (and_formula a b) = Fits fit around a × Fits fit around b
Fits fit around (or_formula a b) = Fits fit around a × Fits fit around b
Fits fit around (box_formula m a) = fit m × Fits fit around a
Fits fit around (diamond_formula m a) = fit m × Fits fit around a
Fits fit around (least_formula a) = Fits fit (suc around) a
Fits fit around (greatest_formula a) = Fits fit (suc around) a
Fits fit around (reference_formula i) = i < around

-- every modality names one of so many trees
abbrev pub Names : (trees around : ℕ) → FormulaSyntax → Type 0
Names trees = Fits (λ i. i < trees)

-- no fixpoint stands around the whole: it is closed
pub record FormulaFits (trees : ℕ) (f : FormulaSyntax) : Type 0 where
  pub closed : Names trees 0 f
  pub few : formula_size f ≤ most_nodes

-- ---- what the rules say of the words

-- the words of the formula are not refused, given those of the action formulas
pub record FormulaAccepted (acts f : List ℕ) : Type 0 where
  pub long : refusal41 f ≡ Ok tt
  pub few : refusal42 f ≡ Ok tt
  pub kinds : refusal43 f ≡ Ok tt
  pub operands : refusal44 (names_no_tree acts) f ≡ Ok tt
  pub references : refusal45 f ≡ Ok tt

-- how many fixpoints stand in it
unfoldable pub fixpoints : FormulaSyntax → ℕ
fixpoints true_formula = 0
fixpoints false_formula = 0
fixpoints (and_formula a b) = fixpoints a + fixpoints b
fixpoints (or_formula a b) = fixpoints a + fixpoints b
fixpoints (box_formula i a) = fixpoints a
fixpoints (diamond_formula i a) = fixpoints a
fixpoints (least_formula a) = suc (fixpoints a)
fixpoints (greatest_formula a) = suc (fixpoints a)
fixpoints (reference_formula i) = 0

unfoldable pub begins_with_fixpoint : FormulaSyntax → Bool
begins_with_fixpoint true_formula = false
begins_with_fixpoint false_formula = false
begins_with_fixpoint (and_formula a b) = false
begins_with_fixpoint (or_formula a b) = false
begins_with_fixpoint (box_formula i a) = false
begins_with_fixpoint (diamond_formula i a) = false
begins_with_fixpoint (least_formula a) = true
begins_with_fixpoint (greatest_formula a) = true
begins_with_fixpoint (reference_formula i) = false

module _ (ls : List ℕ) (row : List ActionSyntax) where
  -- the tree of action formula i. The default is never used below the row's length
  abbrev pub read_tree : ℕ → Action
  read_tree i = read_action ls (get_or row i true_action)

  -- The formula as it stands in a body: a fixpoint is a reference to its equation. Its first fixpoint is equation
  -- `next`; `around` are the equations of the fixpoints around it, the nearest first
  unfoldable pub read_formula : FormulaSyntax → (around : List ℕ) → (next : ℕ) → Formula
  read_formula true_formula around next = truth
  read_formula false_formula around next = falsity
  read_formula (and_formula a b) around next = conjunction (read_formula a around next) (read_formula b around (next + fixpoints a))
  read_formula (or_formula a b) around next = disjunction (read_formula a around next) (read_formula b around (next + fixpoints a))
  read_formula (box_formula i a) around next = box (read_tree i) (read_formula a around next)
  read_formula (diamond_formula i a) around next = diamond (read_tree i) (read_formula a around next)
  read_formula (least_formula a) around next = reference next
  read_formula (greatest_formula a) around next = reference next
  read_formula (reference_formula i) around next = reference (get_or around i 0)

  -- the equations of the fixpoints in it, in order, each with its operator and its body
  unfoldable pub read_equations : FormulaSyntax → (around : List ℕ) → (next : ℕ) → List (Operator × Formula)
  read_equations true_formula around next = []
  read_equations false_formula around next = []
  read_equations (and_formula a b) around next = read_equations a around next ++ read_equations b around (next + fixpoints a)
  read_equations (or_formula a b) around next = read_equations a around next ++ read_equations b around (next + fixpoints a)
  read_equations (box_formula i a) around next = read_equations a around next
  read_equations (diamond_formula i a) around next = read_equations a around next
  read_equations (least_formula a) around next = (least, read_formula a (next ∷ around) (suc next)) ∷ read_equations a (next ∷ around) (suc next)
  read_equations (greatest_formula a) around next = (greatest, read_formula a (next ∷ around) (suc next)) ∷ read_equations a (next ∷ around) (suc next)
  read_equations (reference_formula i) around next = []

  -- all equations: "If node 0 is neither, a placeholder least equation with the whole formula as body comes first"
  unfoldable pub read_system : FormulaSyntax → List (Operator × Formula)
  read_system f = cond (begins_with_fixpoint f) (read_equations f [] 0) ((least, read_formula f [] 1) ∷ read_equations f [] 1)

-- the equations that a run goes by, each with its operator and its body
unfoldable pub equations_read : Input → List (Operator × Formula)
equations_read x = map (λ (q : Equation). (q.operator, body_tree x q)) (equations x.formula)

-- the words of an input are those of a row of action formulas and a closed formula, within the limits, and the run goes
-- by their equations
pub record Written (x : Input) : Type 0 where
  pub row : List ActionSyntax
  pub whole : FormulaSyntax
  pub row_fits : RowFits (label_count x.labels) row
  pub formula_fits : FormulaFits (length row) whole
  pub action_words : x.actions ≡ row_words row
  pub whole_words : x.formula ≡ formula_words row whole
  pub reads : equations_read x ≡ read_system x.labels row whole

-- the checks that do not concern the action formulas and the formula
abbrev pub label_and_system_checks : Input → List Check
label_and_system_checks x =
    refusal11 x.labels ∷ refusal12 x.labels ∷ refusal13 x.labels
    ∷ refusal21 x.system ∷ refusal22 x.system ∷ refusal23 x.system ∷ refusal24 x.system
    ∷ refusal25 x.labels x.system ∷ refusal26 x.system
    ∷ []
