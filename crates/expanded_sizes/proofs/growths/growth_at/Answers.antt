use native.Mathlib.Omega.{arith}
use Rattle.regular_rules.proofs.Regulars.{action_tree, sequence_tree, choice_tree, star_tree, plus_tree}
use Rattle.expanded_sizes.proofs.Parts.{regular_read, grows_next, grows_right}
use Rattle.expanded_sizes.proofs.growths.growth_at.Goals as goal

pub returns-in-Action : goal.returns-in-Action
returns-in-Action c =
    let (good, inside) = c.requires.good in
    let e = regular_read _ good _ inside 0 _ c.kind_at.ensures (rw c.in-Action.is at c.of.ensures) in
    rw (action_tree _ good _ inside e) (c.action.ensures _)

pub returns-in-Sequence : goal.returns-in-Sequence
returns-in-Sequence c =
    let (good, inside) = c.requires.good in
    let e = regular_read _ good _ inside 1 _ c.kind_at.ensures (rw c.in-Sequence.is at c.of.ensures) in
    rw (sequence_tree _ good _ inside e)
    (c.then.ensures _ _ (grows_next _ good _ inside _ c.requires.later _ (omega arith))
    (grows_right _ good _ inside _ c.requires.later _ _ (omega arith) (omega arith) c.operand_at-operand.ensures))

pub returns-in-Choice : goal.returns-in-Choice
returns-in-Choice c =
    let (good, inside) = c.requires.good in
    let e = regular_read _ good _ inside 2 _ c.kind_at.ensures (rw c.in-Choice.is at c.of.ensures) in
    rw (choice_tree _ good _ inside e)
    (c.or.ensures _ _ (grows_next _ good _ inside _ c.requires.later _ (omega arith))
    (grows_right _ good _ inside _ c.requires.later _ _ (omega arith) (omega arith) c.operand_at-operand.ensures))

pub returns-in-Star : goal.returns-in-Star
returns-in-Star c =
    let (good, inside) = c.requires.good in
    let e = regular_read _ good _ inside 3 _ c.kind_at.ensures (rw c.in-Star.is at c.of.ensures) in
    rw (star_tree _ good _ inside e) (c.again.ensures _ (grows_next _ good _ inside _ c.requires.later _ (omega arith)))

pub returns-in-Plus : goal.returns-in-Plus
returns-in-Plus c =
    let (good, inside) = c.requires.good in
    let e = regular_read _ good _ inside 4 _ c.kind_at.ensures (rw c.in-Plus.is at c.of.ensures) in
    rw (plus_tree _ good _ inside e)
    (c.once_and_again.ensures _ (grows_next _ good _ inside _ c.requires.later _ (omega arith)))
