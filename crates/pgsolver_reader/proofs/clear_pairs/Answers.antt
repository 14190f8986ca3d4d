-- `clear_pairs` meets its contract. Assumes nothing.
use Rattle.std.proofs.Common.{◌≡◌, ◌-◌, replicate, rules}
use Rattle.pgsolver_reader.proofs.Clearing.{cleared}
use Rattle.pgsolver_reader.proofs.clear_pairs.Goals as goal

pub returns : goal.returns
returns c =
    let zeros : c.fill.new.self ≡ replicate (c.offsets_at-end.result - c.vertex_column_at-first.result) 0 = search rules in
    cleared c.args.vertices c.vertex_column_at-first.result c.offsets_at-end.result c.args.game.now c.fill.new.self
    c.vertex_column_at-first.ensures c.offsets_at-end.ensures c.requires.1 zeros
