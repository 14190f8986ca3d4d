-- `with_line` meets its contract. Assumes nothing.
use mathlib.Core.Path.{refl}
use Rattle.std.proofs.Common.{rules}
use Rattle.pgsolver_check.proofs.Numbers.{turn_after, new_after, again_after}
use Rattle.pgsolver_check.proofs.with_line.Goals as goal

pub returns : goal.returns
returns c =
    let s = c.seen_before-again in
    record {
      header = refl;
      begun = refl;
      many = refl;
      tops = search rules;
      ranks = search rules;
      lists = search rules;
      order = turn_after _ _ _ c.with_number.ensures;
      new = λ e. let (a, b) = new_after _ _ _ c.with_number.ensures e in (a, s.ensures.noted b);
      again = λ e f. s.ensures.again (again_after _ _ _ c.with_number.ensures e f);
    }
