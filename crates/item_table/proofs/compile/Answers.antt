use mathlib.Core.Path.{refl}
use native.Mathlib.Omega.{arith}
use Rattle.rules.specs.Table.{size}
use Rattle.rules.specs.Depth.{by_depth}
use Rattle.lent_input.specs.Inputs.{input_in}
use Rattle.trees.proofs.Readings.{by_depth_words}
use Rattle.compiled.specs.Tables.{priorities_in}
use Rattle.modal_equation_system.specs.System.{formula_only}
use Rattle.modal_equation_system.proofs.Good.{good_formula}
use Rattle.item_table.proofs.Filling.{ranks_made, table_kept}
use Rattle.item_table.proofs.compile.Goals as goal

pub list_equations-requires : goal.list_equations-requires
list_equations-requires c =
    let i = c.args.input.now in good_formula (size i.actions.now) i.formula.now i.good.formula

pub returns-clause-item_table : goal.returns-clause-item_table
returns-clause-item_table c =
    let i = c.args.input.now in
    let made = c.make_items-items.new.out in
    table_kept (input_in i) i.good made c.put_priorities.new.compiled c.make_items-items.ensures.kinds_room
    c.make_items-items.ensures.shown_in
    c.put_priorities.ensures.priorities_only

pub returns-clause-ranks : goal.returns-clause-ranks
returns-clause-ranks c =
    let i = c.args.input.now in
    let x = input_in i in
    ranks_made x i.good by_depth (λ q. by_depth_words (formula_only x.formula) x q refl) c.list_equations.new.self.count _
    (priorities_in c.put_priorities.new.compiled) c.list_equations.ensures.entered.count
    (omega (arith, c.put_priorities.ensures.priorities_only.room)) c.put_priorities.ensures.ranked_by
