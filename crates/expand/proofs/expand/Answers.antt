-- `expand` meets its contract: a fault refuses, or the formula is written. Assumes nothing.
use mathlib.Core.Path.{◌≡◌}
use Rattle.std.proofs.Common.{rules}
use Rattle.regular_rules.specs.Refusals.{regular_input}
use Rattle.regular_rules.specs.Expansion.{Expansion, expansion}
use Rattle.expand.proofs.Whole.{demanded, meant}
use Rattle.expand.proofs.expand.Goals as goal

pub returns-clause-demand : goal.returns-clause-demand
returns-clause-demand c =
    let x = regular_input c.args.labels.now c.args.actions.now c.args.regulars.now c.args.formula.now in
    let expanded : ◌≡◌ {A = Expansion} (record { answer = c.unwrap_or_else.result; out = c.write_formula.new.out })
    (expansion x c.args.out.now)
    = search rules in
    demanded x c.args.out.now _ _ expanded

pub returns-clause-means : goal.returns-clause-means
returns-clause-means c =
    let x = regular_input c.args.labels.now c.args.actions.now c.args.regulars.now c.args.formula.now in
    let expanded : ◌≡◌ {A = Expansion} (record { answer = c.unwrap_or_else.result; out = c.write_formula.new.out })
    (expansion x c.args.out.now)
    = search rules in
    meant x c.args.out.now _ _ expanded
