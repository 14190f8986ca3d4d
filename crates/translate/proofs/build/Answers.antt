-- `build` meets its contract: the tables are what the walk asks for, and their priorities show the ranking by depth.
-- Assumes nothing.
use Rattle.rules.specs.Depth.{by_depth}
use Rattle.lent_input.specs.Inputs.{input_in}
use Rattle.translate.proofs.Prepared.{prepared}
use Rattle.translate.proofs.build.Goals as goal

pub write_model_tables-requires : goal.write_model_tables-requires
write_model_tables-requires c =
    let good = c.args.input.now.good in
    (good.labels, (_, good.system))

pub build_game-requires : goal.build_game-requires
build_game-requires c =
    record {
      prepared = prepared (input_in c.args.input.now) _ _ _ c.compile-items.ensures.items_only c.args.input.now.good
          c.write_model_tables.ensures c.compile-items.ensures.value c.compile-items.ensures.item_table;
      accepted = c.requires;
    }

pub returns : goal.returns
returns c =
    c.build_game.ensures by_depth c.compile-items.ensures.ranks
