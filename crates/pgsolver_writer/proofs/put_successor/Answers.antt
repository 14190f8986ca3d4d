-- `put_successor` meets its contract: the bitmap tells whether the successor was met before. Assumes nothing.
use mathlib.Core.Path.{sym, ap}
use mathlib.Core.List.{◌∷◌}
use native.Mathlib.Omega.{arith}
use lib.ListN.{length}
use Rattle.rules.specs.Texts.{decimal}
use Rattle.text_writer.proofs.Appending.{appended_none, appended_as, appended_both}
use Rattle.bitmap.specs.Marks.{marked}
use Rattle.text_writer.proofs.Appending.{unless_new, unless_old}
use Rattle.pgsolver_writer.proofs.put_successor.Goals as goal

pub put_byte-requires : goal.put_byte-requires
put_byte-requires c =
    let new =
    unless_new (marked c.args.bits.now c.args.target) _ (c.args.separator ∷ decimal c.args.target)
    c.meet-new.ensures.0 c.if-new.true in
    omega (arith, c.requires.room, ap length new)

pub put_decimal-requires : goal.put_decimal-requires
put_decimal-requires c =
    let new =
    unless_new (marked c.args.bits.now c.args.target) _ (c.args.separator ∷ decimal c.args.target)
    c.meet-new.ensures.0 c.if-new.true in
    omega (arith, c.requires.room, ap length new, c.put_byte.ensures.long, c.put_byte.ensures.wrote.past)

pub returns-then-new-clause-wrote : goal.returns-then-new-clause-wrote
returns-then-new-clause-wrote c =
    let new =
    unless_new (marked c.args.bits.now c.args.target) _ (c.args.separator ∷ decimal c.args.target)
    c.meet-new.ensures.0 c.if-new.true in
    appended_as (sym new) (appended_both c.put_byte.ensures c.put_decimal.ensures)

pub returns-clause-wrote : goal.returns-clause-wrote
returns-clause-wrote c =
    let old =
    unless_old (marked c.args.bits.now c.args.target) _ (c.args.separator ∷ decimal c.args.target)
    c.meet-new.ensures.0 c.if-new.false in
    appended_as (sym old) appended_none
