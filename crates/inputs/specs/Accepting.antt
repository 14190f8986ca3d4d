-- What accepting an input says as a check. Assumes nothing: this is a definition.
use Rattle.std.specs.Prelude.{Result}
use Rattle.std.specs.declared.result.Result.TheVariants.{Ok, Err}
use Rattle.rules.specs.Answers.{Check}
use Rattle.rules.specs.declared.Fault.{Fault}
use Rattle.lent_input.specs.declared.Input.{Input}

-- it passes exactly where there is an input
abbrev pub checked : Result Input Fault → Check
checked (Ok input) = Ok tt
checked (Err f) = Err f
