-- The edges that are shown of a vertex are as many as its degree.
use mathlib.Core.Path.{◌≡◌, sym, ◌∙◌}
use Rattle.compiled.specs.Tables.{kinds_in, priorities_in}
use Rattle.settling.specs.Stand.{degree_in}
use Rattle.game_writer.proofs.Whole.{known_below, degree_at}
use Rattle.game_writer.proofs.WalkedVertices.degree.Goals as goal

pub at-requires : goal.at-requires
at-requires c =
    known_below (kinds_in c.args.self.now.compiled.now) (priorities_in c.args.self.now.compiled.now)
    c.args.self.now.slots.work.now c.args.self.now.slots.vertices c.args.self.now.edge_room _ _ c.requires

pub returns : goal.returns
returns c =
    let kinds = kinds_in c.args.self.now.compiled.now in
    let priorities = priorities_in c.args.self.now.compiled.now in
    let below = known_below kinds priorities c.args.self.now.slots.work.now c.args.self.now.slots.vertices
    c.args.self.now.edge_room _ _ c.requires in
    let same : degree_in c.at.result.walked.slots.work.now c.at.result.walked.slots.vertices c.at.result.vertex.0
    ≡ degree_in c.args.self.now.slots.work.now c.args.self.now.slots.vertices c.args.vertex.0
    = λ i. degree_in (c.at.ensures.0 i).slots.work.now (c.at.ensures.0 i).slots.vertices (c.at.ensures.1 i).0 in
    c.unwrap_or.ensures ∙ c.degree.ensures.count ∙ same ∙ sym (degree_at kinds priorities _ _ _ _ _ below)
