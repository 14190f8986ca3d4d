use mathlib.Core.Path.{◌∙◌}
use borrow.Author.Tests.{lt-leb}
use Rattle.formula_words.proofs.References.{not_inside, inside_whole, inside_broken}
use Rattle.formula_words.proofs.FormulaNode.is_inside.Goals as goal

pub returns-then-self-outer : goal.returns-then-self-outer
returns-then-self-outer c = not_inside c.args.self.trees.now.words.now c.args.outer c.args.self.node c.if-self-outer.true

pub returns-then-end-size : goal.returns-then-end-size
returns-then-end-size c =
    inside_whole c.args.self.trees.now.words.now c.args.outer c.args.self.node c.if-self-outer.false c.end-end.ensures
    c.size.ensures c.if-end-size.true

pub returns-else-end-size : goal.returns-else-end-size
returns-else-end-size c =
    lt-leb _ _ c.if-end-size.false
    ∙ inside_broken c.args.self.trees.now.words.now c.args.outer c.args.self.node c.if-self-outer.false c.end-end.ensures
    c.size.ensures c.if-end-size.false
