use native.Mathlib.Omega.{arith}
use mathlib.Core.Path.{refl, ◌∙◌}
use mathlib.Core.Bool.{false}
use lib.ListN.{length-set}
use Rattle.tables.proofs.Ends.{end_number_past, end_number_most}
use Rattle.table_words.proofs.Marks.{firsts_start, firsts_more, firsts_all}
use Rattle.table_words.proofs.trees.first_nodes.Goals as goal

pub loop-node-init : goal.loop-node-init
loop-node-init c = (
  omega arith,
  c.fill.ensures.len ∙ c.told-firsts,
  λ children known. firsts_start children c.args.count c.fill.new.self (λ v l. c.fill.ensures.clones v false (omega (arith, c.told-firsts, c.requires.few)) refl),
)

pub loop-node-smaller : goal.loop-node-smaller
loop-node-smaller c =
    let l = c.loop-node in
    let (children, known) = c.requires.ends_known in
    omega (arith, known l.node (omega arith), end_number_past children c.args.count l.node (omega arith))

pub loop-node-preserved : goal.loop-node-preserved
loop-node-preserved c =
    let l = c.loop-node in
    let n = c.args.count in
    let (children, known) = c.requires.ends_known in (
      omega (arith, known l.node (omega arith), end_number_most children n l.node),
      simp length-set l.invariant.1,
      λ others ends. firsts_more others n l.node _ l.firsts (ends l.node (omega arith)) (omega arith) (omega arith) (l.invariant.2 others ends),
    )

pub returns : goal.returns
returns c =
    let l = c.loop-node in
    λ children known. firsts_all children c.args.count l.node l.firsts (omega arith) (l.invariant.2 children known)
