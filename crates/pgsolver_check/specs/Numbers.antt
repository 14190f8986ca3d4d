-- How the numbers of the lines stand. Assumes nothing: these are definitions.
use Rattle.std.specs.Prelude.{Bool, true, false}
use Rattle.pgsolver_check.specs.declared.Numbering.{Numbering}
use Rattle.pgsolver_check.specs.declared.Numbering.TheVariants.{InOrder, Different, Repeated}

-- they are 0, 1, 2, ..
unfoldable pub in_turn : Numbering → Bool
in_turn InOrder = true
in_turn Different = false
in_turn Repeated = false

-- those below 1,048,576 are different
unfoldable pub apart : Numbering → Bool
apart InOrder = true
apart Different = true
apart Repeated = false

-- with one line more, whose number was seen before, or is the next in order
unfoldable pub numbered_on : Numbering → (again next : Bool) → Numbering
numbered_on numbering true next = Repeated
numbered_on InOrder false true = InOrder
numbered_on InOrder false false = Different
numbered_on Different false next = Different
numbered_on Repeated false next = Repeated
