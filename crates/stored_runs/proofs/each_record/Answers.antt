-- Each turn runs one record more. Assumes nothing.
use mathlib.Core.Path.{refl}
use native.Mathlib.Omega.{arith}
use Rattle.std.proofs.Common.{rules, of_calls}
use Rattle.stored_runs.proofs.Records.{one_more, as_many}
use Rattle.stored_runs.proofs.each_record.Goals as goal

pub loop-number-preserved : goal.loop-number-preserved
loop-number-preserved g c = (
  search (rules, of_calls),
  one_more _ _ _ _ c.in-Some.head c.loop-number.invariant.1 (record {
    whole = search rules;
    behind = c.read_array.new.input;
    read = search rules;
    head = c.from.result;
    made = search rules;
    ran = record { shown = _; shows = refl; left = _; called = c.in_ok-run.ensures; leaves = refl };
  }),
)

pub returns-in_default-clause-ran : goal.returns-in_default-clause-ran
returns-in_default-clause-ran g c =
    record { last = _; runs = c.loop-number.invariant.1; all = λ few. search rules }

pub returns-clause-ran : goal.returns-clause-ran
returns-clause-ran g c =
    record {
      last = _;
      runs = as_many _ _ _ _ (search rules) c.loop-number.invariant.1;
      all = λ few. absurd (omega arith);
    }
