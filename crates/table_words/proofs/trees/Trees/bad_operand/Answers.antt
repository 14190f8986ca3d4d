use native.Mathlib.Numerals.{add-one}
use mathlib.Core.Path.{◌∙◌, ap}
use mathlib.Core.Bool.{not}
use lib.Dec.{eqb}
use Rattle.rules.specs.Refusal.{wrong_operand, differ}
use Rattle.table_words.proofs.Shaped.{judged_by}
use Rattle.table_words.proofs.trees.Trees.bad_operand.Goals as goal

pub returns-in-Zero : goal.returns-in-Zero
unfolding wrong_operand differ
returns-in-Zero g c = λ unnamed_at agrees.
    ap (λ o. not (eqb o 0)) c.operand_at-operand.ensures ∙ judged_by g.K.NodeKind.node_shape c.args.self.now.words.now c.args.node _ c.shape_at.ensures unnamed_at c.in-Zero.is

pub returns-in-RightChild : goal.returns-in-RightChild
unfolding wrong_operand
returns-in-RightChild g c = λ unnamed_at agrees.
    c.is_not_right_child.ensures ∙ rw (c.operand_at-operand.ensures, add-one)
    (judged_by g.K.NodeKind.node_shape c.args.self.now.words.now c.args.node _ c.shape_at.ensures unnamed_at c.in-RightChild.is)

pub returns-in-OutsideName : goal.returns-in-OutsideName
unfolding wrong_operand
returns-in-OutsideName g c = λ unnamed_at agrees.
    agrees c.unnamed.result (rw c.operand_at-operand.ensures at c.unnamed.ensures)
    ∙ judged_by g.K.NodeKind.node_shape c.args.self.now.words.now c.args.node _ c.shape_at.ensures unnamed_at c.in-OutsideName.is

pub returns : goal.returns
unfolding wrong_operand
returns g c = λ unnamed_at agrees. judged_by g.K.NodeKind.node_shape c.args.self.now.words.now c.args.node _ c.shape_at.ensures unnamed_at c.in-NotJudged.is
