use native.Mathlib.Omega.{arith}
use Rattle.settling.proofs.Buffer.{count_word, count_stored}
use Rattle.settling.proofs.raise_count.Goals as goal

pub overflow_add-work : goal.overflow_add-work
overflow_add-work c =
    let v = c.args.room.vertices in
    let e = c.args.room.edges in
    omega (
      arith,
      c.requires.can_rise,
      count_word v e c.args.place c.edge_word.result c.args.work.now c.requires.inside.0 c.edge_word.ensures,
    )

pub returns : goal.returns
returns c = count_stored _ _ _ _ _ c.requires.inside.0 c.edge_word.ensures
