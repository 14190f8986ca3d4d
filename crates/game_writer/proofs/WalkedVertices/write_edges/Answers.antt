-- The edges of a settled vertex stand in the buffer; one that is not settled has none.
use Prim.Native.Nat.{◌-◌}
use native.Mathlib.Omega.{arith}
use mathlib.Core.Path.{◌≡◌, sym, ap, ◌∙◌}
use mathlib.Core.List.{map}
use Rattle.compiled.specs.Tables.{kinds_in, priorities_in}
use Rattle.settling.specs.Stand.{settled_in, start_in, degree_in}
use Rattle.games.specs.Columns.{edge_column}
use Rattle.game_columns.proofs.Written.{wrote_as}
use Rattle.game_writer.proofs.Vertices.{wrote_some, wrote_none}
use Rattle.game_writer.proofs.Whole.{known_below, edges_at, degree_at}
use Rattle.game_writer.proofs.WalkedVertices.write_edges.Goals as goal

pub returns-in_default : goal.returns-in_default
returns-in_default c =
    let below = known_below (kinds_in c.args.self.now.compiled.now) (priorities_in c.args.self.now.compiled.now)
    c.args.self.now.slots.work.now c.args.self.now.slots.vertices c.args.self.now.edge_room _ _ c.requires.within.1 in
    let shown = edges_at (kinds_in c.args.self.now.compiled.now) (priorities_in c.args.self.now.compiled.now)
    c.args.self.now.slots.work.now c.args.self.now.slots.vertices c.args.self.now.edge_room _ _ below in
    wrote_as (ap (map (edge_column c.args.column)) shown)
    (wrote_none _ _ _ _ c.args.column _ _ (sym (c.in_default.ensures.settled
    ∙ (λ i. settled_in (c.at-known.ensures.0 i).slots.work.now (c.at-known.ensures.0 i).slots.vertices
    (c.at-known.ensures.1 i).0))))

pub copy_down-requires : goal.copy_down-requires
copy_down-requires c =
    let below = known_below (kinds_in c.args.self.now.compiled.now) (priorities_in c.args.self.now.compiled.now)
    c.args.self.now.slots.work.now c.args.self.now.slots.vertices c.args.self.now.edge_room _ _ c.requires.within.1 in
    let many = degree_at (kinds_in c.args.self.now.compiled.now) (priorities_in c.args.self.now.compiled.now)
    c.args.self.now.slots.work.now c.args.self.now.slots.vertices c.args.self.now.edge_room _ _ below in
    grind (arith, below, many)

pub returns : goal.returns
returns c =
    let below = known_below (kinds_in c.args.self.now.compiled.now) (priorities_in c.args.self.now.compiled.now)
    c.args.self.now.slots.work.now c.args.self.now.slots.vertices c.args.self.now.edge_room _ _ c.requires.within.1 in
    let shown = edges_at (kinds_in c.args.self.now.compiled.now) (priorities_in c.args.self.now.compiled.now)
    c.args.self.now.slots.work.now c.args.self.now.slots.vertices c.args.self.now.edge_room _ _ below in
    let known = c.at-known.ensures in
    let count : c.in-Some.degree
    ≡ degree_in c.args.self.now.slots.work.now c.args.self.now.slots.vertices c.args.vertex.0
    = c.in-Some.ensures.count
    ∙ (λ i. degree_in (known.0 i).slots.work.now (known.0 i).slots.vertices (known.1 i).0) in
    let first : c.region_word-first.result
    ≡ start_in c.args.self.now.slots.work.now c.args.self.now.slots.vertices c.args.vertex.0
    = c.region_word-first.ensures
    ∙ (λ i. start_in (known.0 i).slots.work.now (known.0 i).slots.vertices (known.1 i).0) in
    wrote_as (ap (map (edge_column c.args.column)) shown)
    (wrote_some c.args.self.now.slots.work.now c.args.self.now.slots.vertices c.args.self.now.edge_room c.args.vertex.0
    c.args.column (c.buffer_end.result - c.region_word-first.result) c.in-Some.degree c.requires.within.0
    (omega (arith, c.buffer_end.ensures, first)) count (grind (arith, below)) (grind (arith, below))
    c.copy_down.ensures)
