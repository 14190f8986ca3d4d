-- `weight_of` meets its contract: the product of two numbers below 2^32 fits. Assumes nothing.
use mathlib.Core.Path.{refl}
use Rattle.labels.specs.Marks.{stirred, weight}
use Rattle.labels.proofs.Marks.{square_fits}
use Rattle.labels.proofs.weight_of.Goals as goal

pub overflow_mul-result : goal.overflow_mul-result
unfolding stirred
overflow_mul-result c = record { fits = square_fits c.args.action }

pub returns : goal.returns
unfolding stirred weight
returns c = refl
