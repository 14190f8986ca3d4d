-- The words are those of the edges that are kept.
use native.Mathlib.Omega.{arith}
use mathlib.Core.Path.{refl, ap, ◌∙◌}
use mathlib.Core.List.{map}
use Rattle.rules.specs.Lists.{word}
use Rattle.rules.specs.Game.{edge_words_in}
use Rattle.games.specs.Columns.{edge_column}
use Rattle.game_columns.proofs.Written.{wrote_as}
use Rattle.reachability.proofs.Edges.{leads_at}
use Rattle.reachability.proofs.Stretches.{reached_inside, edges_at, numbers_written, others_written}
use Rattle.reachability.proofs.ReachedVertices.write_edges.Goals as goal

pub write_numbers-requires-clause-inside : goal.write_numbers-requires-clause-inside
write_numbers-requires-clause-inside c =
    let game = c.args.self.now.game.words.now in
    let old = word c.args.self.now.vertices.now c.args.vertex.0 in
    let inside = reached_inside _ _ c.args.self.now.chosen _ old c.requires.within.1 refl in
    let targets = c.edge_words-held.ensures.words ∙ ap (λ d. edge_words_in game d old) c.if-column-eq-TARGET.true in
    λ p l. omega (
      arith,
      leads_at game c.args.self.now.chosen.good old _ inside targets p l,
      c.args.self.now.numbered.long,
    )

pub returns-then-column-eq-TARGET : goal.returns-then-column-eq-TARGET
returns-then-column-eq-TARGET c =
    let old = word c.args.self.now.vertices.now c.args.vertex.0 in
    let inside = reached_inside _ _ c.args.self.now.chosen _ old c.requires.within.1 refl in
    wrote_as
    (numbers_written _ _ _ c.args.self.now.chosen.good c.args.self.now.numbered old inside c.args.column _
    c.if-column-eq-TARGET.true c.edge_words-held.ensures.words
    ∙ ap (map (edge_column c.args.column)) (edges_at _ _ c.args.vertex.0 _ c.requires.within.1 refl))
    c.write_numbers.ensures

pub returns : goal.returns
returns c =
    let old = word c.args.self.now.vertices.now c.args.vertex.0 in
    let inside = reached_inside _ _ c.args.self.now.chosen _ old c.requires.within.1 refl in
    wrote_as
    (others_written _ _ c.args.column old _ c.args.self.now.chosen.good inside c.requires.within.0
    (omega (arith, c.if-column-eq-TARGET.false)) c.edge_words-held.ensures.words
    ∙ ap (map (edge_column c.args.column)) (edges_at _ _ c.args.vertex.0 _ c.requires.within.1 refl))
    c.copy.ensures
