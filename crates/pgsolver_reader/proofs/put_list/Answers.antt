-- `put_list` meets its contract. Assumes nothing.
use Rattle.pgsolver_reader.proofs.Putting.{putting_start, putting_room, putting_more, putting_done, putting_holds}
use Rattle.pgsolver_reader.proofs.put_list.Goals as goal

pub loop-successor-init : goal.loop-successor-init
loop-successor-init c =
    putting_start c.args.start c.args.game.now
    (rw c.into_iter-successor-iterator.ensures.into_iter_gives c.new-successor-items.ensures) c.requires.listed.1

pub put_new-end-requires-clause-fits : goal.put_new-end-requires-clause-fits
put_new-end-requires-clause-fits c =
    putting_room c.loop-successor.invariant c.in-Some.ensures.steps c.requires.fits

pub loop-successor-preserved : goal.loop-successor-preserved
loop-successor-preserved c =
    putting_more c.loop-successor.invariant c.in-Some.ensures.steps c.put_new-end.auto.game
    c.put_new-end.ensures.wrote c.put_new-end.ensures.met

pub returns-clause-wrote : goal.returns-clause-wrote
returns-clause-wrote c = putting_done c.loop-successor.invariant c.in-None.ensures.steps.0

pub returns-clause-holds : goal.returns-clause-holds
returns-clause-holds c = putting_holds c.loop-successor.invariant c.in-None.ensures.steps.0

pub returns-clause-same_line : goal.returns-clause-same_line
returns-clause-same_line c = c.loop-successor.invariant.gone.line
