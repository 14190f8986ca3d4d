-- A fault that a check hands on by `?` is the call's answer. Assumes nothing.
use mathlib.Core.Path.{◌≡◌, ap}
use Rattle.std.specs.declared.result.Result.{Result}
use Rattle.std.specs.declared.result.Result.TheVariants.{Ok, Err}
use Rattle.std.specs.Result.{IsErrAnd}
use Rattle.rules.specs.declared.Answer.{Answer}
use Rattle.rules.specs.declared.Answer.TheVariants.{Refused}
use Rattle.rules.specs.declared.Fault.{Fault}
use Rattle.faults.specs.Answers.{answer_of}

pub handed_on : (r : Result Answer Fault) (f : Fault) → IsErrAnd r (λ g. g ≡ f) → answer_of r ≡ Refused f.number f.place
handed_on (Ok a) f e = absurd e
handed_on (Err g) f e = ap (λ (h : Fault). Refused h.number h.place) e
