use native.Mathlib.Omega.{arith}
use mathlib.Core.Path.{sym, ap, ◌∙◌}
use mathlib.Core.Bool.{not}
use Rattle.formula_words.proofs.References.{no_reference, inside_after, refers_outside, refers_inside}
use Rattle.formula_words.proofs.FormulaNode.is_bad_reference.Goals as goal

pub returns-then-not-is_reference : goal.returns-then-not-is_reference
returns-then-not-is_reference c =
    no_reference c.args.self.trees.now.words.now c.args.self.node c.args.self.inside (sym c.is_reference.ensures ∙ c.if-not-is_reference.true)

pub returns-then-not-is_inside : goal.returns-then-not-is_inside
returns-then-not-is_inside c =
    refers_outside c.args.self.trees.now.words.now c.args.self.node c.args.self.inside (sym c.is_reference.ensures ∙ c.if-not-is_reference.false)
    c.operand_at-named.ensures (sym c.is_inside.ensures ∙ c.if-not-is_inside.true)

pub invariant_of-outer : goal.invariant_of-outer
invariant_of-outer c =
    let before = inside_after c.args.self.trees.now.words.now c.operand_at-named.result c.args.self.node
    (sym c.is_inside.ensures ∙ c.if-not-is_inside.false) in
    omega (arith, before, c.args.self.inside)

pub returns : goal.returns
returns c =
    ap not c.is_fixpoint.ensures
    ∙ refers_inside c.args.self.trees.now.words.now c.args.self.node c.args.self.inside (sym c.is_reference.ensures ∙ c.if-not-is_reference.false)
    c.operand_at-named.ensures (sym c.is_inside.ensures ∙ c.if-not-is_inside.false)
