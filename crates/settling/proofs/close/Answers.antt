use Rattle.settling.proofs.Ending.{close_loop, close_others}
use Rattle.settling.proofs.close.Goals as goal

pub returns-then-counters-start : goal.returns-then-counters-start
returns-then-counters-start c =
    let appended = c.in_ok-looped.ensures in
    rw appended.2 (close_loop _ _ _ _ _ _ _ _ c.requires.0 c.requires.1 c.requires.3 c.if-counters-start.true
    appended.0 appended.1 c.put_word.ensures)

pub returns : goal.returns
returns c =
    close_others _ _ c.args.work.now _ c.args.work.now _ _ _ c.requires.0 c.requires.1 c.requires.3
    c.if-counters-start.false c.put_word-2.ensures
