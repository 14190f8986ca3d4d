-- The answer of a call whose checks hand a fault on. Assumes nothing: this is a definition.
use Rattle.std.specs.Prelude.{Result}
use Rattle.std.specs.declared.result.Result.TheVariants.{Ok, Err}
use Rattle.rules.specs.declared.Answer.{Answer}
use Rattle.rules.specs.declared.Answer.TheVariants.{Refused}
use Rattle.rules.specs.declared.Fault.{Fault}

-- a fault refuses
abbrev pub answer_of : Result Answer Fault → Answer
answer_of (Ok a) = a
answer_of (Err f) = Refused f.number f.place
