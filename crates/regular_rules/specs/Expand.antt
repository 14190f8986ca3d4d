-- The expansion of regular formulas in modalities, clause by clause (document 02, #104: "by the mCRL2 formula language,
-- operands in the Rust's order: box of a choice is a conjunction, diamond a disjunction; box of a star is a greatest
-- equation, diamond a least one; plus is one pass followed by star"). Assumes nothing: these are definitions.
use Rattle.std.specs.Prelude.{ℕ, suc, cond, ltb, List}
use Rattle.writing.specs.FormulaSyntax.{FormulaOver, true_formula, false_formula, and_formula, or_formula, box_formula}
use Rattle.writing.specs.FormulaSyntax.{diamond_formula, least_formula, greatest_formula, reference_formula}
use Rattle.writing.specs.FormulaReading.{formula_syntax}
use Rattle.regular_rules.specs.Regular.{Regular, action, sequence, choice, star, plus, regular_tree}

pub data Modality : Type 0 where
  box diamond : Modality

-- the modality of an action formula
unfoldable pub modal_formula : Modality → ℕ → FormulaOver ℕ → FormulaOver ℕ
modal_formula box a f = box_formula a f
modal_formula diamond a f = diamond_formula a f

-- "box of a choice is a conjunction, diamond a disjunction"
unfoldable pub both_formula : Modality → FormulaOver ℕ → FormulaOver ℕ → FormulaOver ℕ
both_formula box f g = and_formula f g
both_formula diamond f g = or_formula f g

-- "box of a star is a greatest equation, diamond a least one"
unfoldable pub again_formula : Modality → FormulaOver ℕ → FormulaOver ℕ
again_formula box f = greatest_formula f
again_formula diamond f = least_formula f

-- The formula under one more fixpoint, to which it does not refer: references to the fixpoints around it pass one more.
-- References to its own fixpoints, of which `inner` stand on the way to the part at hand, stay
unfoldable pub below : {M : Type 0} → FormulaOver M → (inner : ℕ) → FormulaOver M
below true_formula inner = true_formula
below false_formula inner = false_formula
below (and_formula a b) inner = and_formula (below a inner) (below b inner)
below (or_formula a b) inner = or_formula (below a inner) (below b inner)
below (box_formula m a) inner = box_formula m (below a inner)
below (diamond_formula m a) inner = diamond_formula m (below a inner)
below (least_formula a) inner = least_formula (below a (suc inner))
below (greatest_formula a) inner = greatest_formula (below a (suc inner))
below (reference_formula i) inner = reference_formula (cond (ltb i inner) i (suc i))

-- "a star is a greatest equation .. a least one", where `pass` puts one pass before a formula
abbrev pub starred : Modality → (pass : FormulaOver ℕ → FormulaOver ℕ) → FormulaOver ℕ → FormulaOver ℕ
starred m pass f = again_formula m (both_formula m (pass (reference_formula 0)) (below f 0))

-- [R] f or <R> f, where f has been expanded:
--   [a] f                                    <a> f
--   [R . S] f = [R] [S] f                    <R . S> f = <R> <S> f
--   [R + S] f = [R] f and [S] f              <R + S> f = <R> f or <S> f
--   [R*] f = greatest I. ([R] I) and f       <R*> f = least I. (<R> I) or f
--   [R+] f = [R] [R*] f                      <R+> f = <R> <R*> f
unfoldable pub modal : Modality → Regular → FormulaOver ℕ → FormulaOver ℕ
modal m (action a) f = modal_formula m a f
modal m (sequence r s) f = modal m r (modal m s f)
modal m (choice r s) f = both_formula m (modal m r f) (modal m s f)
modal m (star r) f = starred m (modal m r) f
modal m (plus r) f = modal m r (starred m (modal m r) f)

-- a formula over regular formulas as one over action formulas
unfoldable pub expand : FormulaOver Regular → FormulaOver ℕ
expand true_formula = true_formula
expand false_formula = false_formula
expand (and_formula a b) = and_formula (expand a) (expand b)
expand (or_formula a b) = or_formula (expand a) (expand b)
expand (box_formula r a) = modal box r (expand a)
expand (diamond_formula r a) = modal diamond r (expand a)
expand (least_formula a) = least_formula (expand a)
expand (greatest_formula a) = greatest_formula (expand a)
expand (reference_formula i) = reference_formula i

-- what a formula is expanded to, and regular formulas, by their words
abbrev pub expansion_of : (regs f : List ℕ) → FormulaOver ℕ
expansion_of regs f = expand (formula_syntax (regular_tree regs) f)
