-- One more word stands behind those that were copied.
use Rattle.std.proofs.Common.{rules}
use Rattle.game_writer.proofs.Rows.{down_start, down_put, down_done}
use Rattle.game_writer.proofs.copy_down.Goals as goal

pub loop-i-init : goal.loop-i-init
loop-i-init c =
    let it = c.into_iter-i-iterator.result in
    down_start c.args.words.now it.iter.iter.rest.now it.count c.args.start _ (search rules) (search rules)

pub loop-i-preserved : goal.loop-i-preserved
loop-i-preserved c =
    let step = c.in-Some.ensures.steps in
    down_put c.args.words.now _ _ _ c.args.start _ step.0 c.loop-i.invariant _ _ step.1 step.2 c.requires

pub returns : goal.returns
returns c = down_done _ _ c.args.start _ c.in-None.ensures.steps.0.0 c.loop-i.invariant
