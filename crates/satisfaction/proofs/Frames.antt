-- The fixpoints of a formula, each with those around it, and the sets of states that they stand for if a least one is
-- iterated a number of times of its own. Assumes nothing.
use mathlib.Core.Path.{◌≡◌, refl, ap, ap₂, ◌∙◌}
use mathlib.Core.Bool.{Bool, true, false, ◌&&◌, ◌||◌}
use mathlib.Core.List.{List, [], ◌∷◌, ◌++◌, map}
use Prim.Native.Nat.{ℕ, suc, ◌+◌, ◌<◌}
use native.Mathlib.Omega.{arith}
use lib.ListN.{length, get_or, length-append}
use Rattle.rules.specs.Words.{Input}
use Rattle.rules.specs.System.{state_count}
use Rattle.rules.specs.Formula.{Operator, least, greatest, equation_number, Formula, truth, falsity, conjunction, disjunction, box, diamond, reference}
use Rattle.rules.specs.Pairs.{successors}
use Rattle.meaning.specs.Quantifiers.{all, any}
use Rattle.writing.specs.ActionSyntax.{ActionSyntax}
use Rattle.writing.specs.FormulaSyntax.{FormulaSyntax, true_formula, false_formula, and_formula, or_formula, box_formula, diamond_formula, least_formula, greatest_formula, reference_formula, formula_size, fixpoints}
use Rattle.meaning.specs.Satisfies.{StateSet, nowhere}
use Rattle.meaning.specs.Evaluation.{everywhere, iterate, evaluate}

-- a fixpoint: its operator, its body and its node
pub record Frame : Type 0 where
  pub operator : Operator
  pub body : FormulaSyntax
  pub node : ℕ

abbrev pub frame_nodes : List Frame → List ℕ
frame_nodes fs = map (λ (f : Frame). f.node) fs

abbrev pub frame : Operator → FormulaSyntax → ℕ → Frame
frame o f v = record { operator = o; body = f; node = v }

-- the fixpoints in a formula at node v, in order, each before those around it, the nearest first
unfoldable pub layout : FormulaSyntax → (around : List Frame) → (v : ℕ) → List (List Frame)
layout true_formula fs v = []
layout false_formula fs v = []
layout (and_formula f g) fs v = layout f fs (suc v) ++ layout g fs (suc v + formula_size f)
layout (or_formula f g) fs v = layout f fs (suc v) ++ layout g fs (suc v + formula_size f)
layout (box_formula i f) fs v = layout f fs (suc v)
layout (diamond_formula i f) fs v = layout f fs (suc v)
layout (least_formula f) fs v = (frame least f v ∷ fs) ∷ layout f (frame least f v ∷ fs) (suc v)
layout (greatest_formula f) fs v = (frame greatest f v ∷ fs) ∷ layout f (frame greatest f v ∷ fs) (suc v)
layout (reference_formula i) fs v = []

pub layout_length : (f : FormulaSyntax) (fs : List Frame) (v : ℕ) → length (layout f fs v) ≡ fixpoints f
unfolding layout fixpoints
layout_length true_formula fs v = refl
layout_length false_formula fs v = refl
layout_length (and_formula f g) fs v =
    length-append (layout f fs (suc v)) (layout g fs (suc v + formula_size f)) ∙ ap₂ ◌+◌ (layout_length f fs (suc v)) (layout_length g fs (suc v + formula_size f))
layout_length (or_formula f g) fs v =
    length-append (layout f fs (suc v)) (layout g fs (suc v + formula_size f)) ∙ ap₂ ◌+◌ (layout_length f fs (suc v)) (layout_length g fs (suc v + formula_size f))
layout_length (box_formula i f) fs v = layout_length f fs (suc v)
layout_length (diamond_formula i f) fs v = layout_length f fs (suc v)
layout_length (least_formula f) fs v = ap suc (layout_length f (frame least f v ∷ fs) (suc v))
layout_length (greatest_formula f) fs v = ap suc (layout_length f (frame greatest f v ∷ fs) (suc v))
layout_length (reference_formula i) fs v = refl

module _ (x : Input) (row : List ActionSyntax) where
  -- a least fixpoint is iterated so many times, a greatest one as often as there are states
  unfoldable pub turn_set : Operator → ℕ → (StateSet → StateSet) → StateSet
  turn_set least turns step = iterate turns step nowhere
  turn_set greatest turns step = iterate (state_count x.system) step everywhere

  -- turns: of an equation
  module _ (turns : ℕ → ℕ) where
    unfoldable pub frame_set : Frame → List StateSet → StateSet
    frame_set f env = turn_set f.operator (turns (equation_number x.formula f.node)) (λ E. evaluate x row f.body (E ∷ env))

    unfoldable pub frame_sets : List Frame → List StateSet
    frame_sets [] = []
    frame_sets (f ∷ fs) = frame_set f (frame_sets fs) ∷ frame_sets fs

    unfoldable pub inner_set : List Frame → StateSet
    inner_set [] = nowhere
    inner_set (f ∷ fs) = frame_set f (frame_sets fs)

  -- the sets depend on the turns of their fixpoints only
  pub same_sets : (turns other : ℕ → ℕ) (fs : List Frame)
      → ((i : ℕ) → i < length (frame_nodes fs) → turns (equation_number x.formula (get_or (frame_nodes fs) i 0)) ≡ other (equation_number x.formula (get_or (frame_nodes fs) i 0)))
      → frame_sets turns fs ≡ frame_sets other fs
  unfolding frame_sets frame_set
  same_sets turns other [] h = refl
  same_sets turns other (f ∷ fs) h =
      ap₂ (λ (n : ℕ) (env : List StateSet). turn_set f.operator n (λ E. evaluate x row f.body (E ∷ env)) ∷ env) (h 0 (omega arith))
      (same_sets turns other fs (λ i l. h (suc i) (omega arith)))

  -- a subformula in a state, if references stand for these sets
  module _ (value : ℕ → StateSet) where
    unfoldable pub holds_in : Formula → ℕ → Bool
    holds_in truth s = true
    holds_in falsity s = false
    holds_in (conjunction f g) s = holds_in f s && holds_in g s
    holds_in (disjunction f g) s = holds_in f s || holds_in g s
    holds_in (box a f) s = all (holds_in f) (successors x a s)
    holds_in (diamond a f) s = any (holds_in f) (successors x a s)
    holds_in (reference i) s = value i s
