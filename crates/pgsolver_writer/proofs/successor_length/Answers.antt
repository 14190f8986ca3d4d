-- `successor_length` meets its contract: the bitmap tells whether the successor was met before. Assumes nothing.
use mathlib.Core.Path.{ap}
use mathlib.Core.List.{◌∷◌}
use native.Mathlib.Omega.{arith}
use lib.ListN.{length}
use Rattle.rules.specs.Texts.{decimal}
use Rattle.game_texts.proofs.Decimals.{decimal-word}
use Rattle.bitmap.specs.Marks.{marked}
use Rattle.text_writer.proofs.Appending.{unless_new, unless_old}
use Rattle.pgsolver_writer.proofs.successor_length.Goals as goal

pub returns-then-new-clause-bytes : goal.returns-then-new-clause-bytes
returns-then-new-clause-bytes c =
    let target = c.args.target in
    let new = unless_new (marked c.args.bits.now target) _ (32 ∷ decimal target) c.meet-new.ensures.0 c.if-new.true in
    let size = c.digit_count.ensures.0 in
    let few = decimal-word target (omega (arith, c.requires)) in
    (omega (arith, ap length new, size), omega (arith, size, few))

pub returns-clause-bytes : goal.returns-clause-bytes
returns-clause-bytes c =
    let target = c.args.target in
    let old = unless_old (marked c.args.bits.now target) _ (32 ∷ decimal target) c.meet-new.ensures.0 c.if-new.false in
    (omega (arith, ap length old), omega arith)
