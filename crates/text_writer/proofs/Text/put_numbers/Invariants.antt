-- `put_numbers` meets its contract: the numbers from this one on are left. Assumes nothing.
use lib.ListN.{drop}
use Rattle.rules.specs.Texts.{spaced}
use Rattle.text_writer.proofs.Appending.{Left}
use Rattle.text_writer.proofs.Text.put_numbers.Given as goal

abbrev pub invariant-loop-number : goal.invariant-loop-number
invariant-loop-number l = Left (spaced (drop l.number-index l.numbers)) l.self (spaced l.numbers) l.initial.self
