use Rattle.std.proofs.Common.{arith}
use Rattle.pairs.proofs.OneMore.{there, full, nowhere_full, added_by}
use Rattle.pairs.proofs.number.Goals as goal

pub returns-then-known-vertices : goal.returns-then-known-vertices
returns-then-known-vertices c =
    full _ _ _ _ _ c.requires _ _ (rw c.key_of-key.ensures at c.find.ensures _ c.requires.table) (rw c.in-Some-Free.field-0-is at c.in-Some-Free.is) c.if-known-vertices.true

pub returns-in-Some-Known : goal.returns-in-Some-Known
returns-in-Some-Known c =
    there _ _ _ _ _ c.requires _ _ (rw c.key_of-key.ensures at c.find.ensures _ c.requires.table) (rw c.in-Some-Known.field-0-is at c.in-Some-Known.is)

pub returns-else-known-vertices : goal.returns-else-known-vertices
returns-else-known-vertices c =
    added_by _ _ _ _ _ c.requires _ _ _ (omega (arith, c.if-known-vertices.false, c.requires.table.slots.room))
    (rw c.key_of-key.ensures at c.find.ensures _ c.requires.table) (rw c.in-Some-Free.field-0-is at c.in-Some-Free.is)
    (rw c.key_of-key.ensures at c.put_word.ensures)

pub returns-in-None : goal.returns-in-None
returns-in-None c =
    nowhere_full _ _ _ _ _ c.requires _ (rw c.key_of-key.ensures at c.find.ensures _ c.requires.table) c.in-None.is
