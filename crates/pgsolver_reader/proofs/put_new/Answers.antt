-- `put_new` meets its contract. Assumes nothing.
use mathlib.Core.Path.{sym, ap}
use mathlib.Core.List.{[], ◌∷◌}
use native.Mathlib.Omega.{arith}
use lib.ListN.{length}
use Rattle.bitmap.specs.Marks.{marked}
use Rattle.words.proofs.Stretches.{start, put, done}
use Rattle.text_writer.proofs.Lines.{wrote_none, wrote_as}
use Rattle.text_writer.proofs.Appending.{unless_new, unless_old}
use Rattle.pgsolver_reader.proofs.put_new.Goals as goal

pub bounds-game-end : goal.bounds-game-end
bounds-game-end c =
    let e = unless_new (marked c.args.bits.now c.args.value) _ (c.args.value ∷ [])
    c.meet.ensures.0 c.if-meet.true in
    omega (arith, c.requires.fits, ap length e)

pub returns-then-meet-clause-wrote : goal.returns-then-meet-clause-wrote
returns-then-meet-clause-wrote c =
    let e = unless_new (marked c.args.bits.now c.args.value) _ (c.args.value ∷ [])
    c.meet.ensures.0 c.if-meet.true in
    wrote_as (sym e) (done (put (omega (arith, c.requires.fits, ap length e)) start))

pub returns-clause-wrote : goal.returns-clause-wrote
returns-clause-wrote c =
    wrote_none (unless_old (marked c.args.bits.now c.args.value) _ (c.args.value ∷ [])
    c.meet.ensures.0 c.if-meet.false)
