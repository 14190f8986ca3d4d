-- The search's vertices can be written, and what is left is the restriction.
use mathlib.Core.Path.{◌∙◌}
use borrow.Author.Rules.{rules}
use Rattle.restrictions.proofs.Accepted.{good_game, accepted_slices}
use Rattle.reachability.proofs.Edges.{readable}
use Rattle.reachability.proofs.Stretches.{chosen, numbered, few_edges, fits}
use Rattle.reachability.proofs.Whole.{leaves, cleared}
use Rattle.reachability.proofs.restrict.Goals as goal

pub invariant_of-game : goal.invariant_of-game
invariant_of-game c = record { readable = readable _ (good_game _ (accepted_slices _ _ _ _ c.requires).0) }

pub explore-count-requires-clause-good_game : goal.explore-count-requires-clause-good_game
explore-count-requires-clause-good_game c = good_game _ (accepted_slices _ _ _ _ c.requires).0

pub explore-count-requires-clause-lengths : goal.explore-count-requires-clause-lengths
explore-count-requires-clause-lengths c =
    let l = accepted_slices _ _ _ _ c.requires in
    (l.2, l.3)

pub invariant_of-reached : goal.invariant_of-reached
invariant_of-reached c =
    let l = accepted_slices _ _ _ _ c.requires in
    let good = good_game _ l.0 in
    let long = c.explore-count.auto.mapping ∙ l.2 in
    record {
      chosen = chosen _ _ _ _ good c.explore-count.ensures.knows long;
      numbered = numbered _ _ _ _ good c.explore-count.ensures.knows long;
    }

pub count_edges-edges-requires : goal.count_edges-edges-requires
count_edges-edges-requires c =
    let l = accepted_slices _ _ _ _ c.requires in
    let long = c.explore-count.auto.mapping ∙ l.2 in
    record { few = few_edges _ _ (chosen _ _ _ _ (good_game _ l.0) c.explore-count.ensures.knows long) }

pub write_game-requires-clause-room : goal.write_game-requires-clause-room
write_game-requires-clause-room c =
    let l = accepted_slices _ _ _ _ c.requires in
    let long = c.explore-count.auto.mapping ∙ l.2 in
    fits _ _ (chosen _ _ _ _ (good_game _ l.0) c.explore-count.ensures.knows long) _ _ l.1 c.count_edges-edges.ensures

pub returns : goal.returns
returns c =
    let l = accepted_slices _ _ _ _ c.requires in
    leaves _ _ _ _ _ _ _ _ _ c.explore-count.ensures.knows (c.explore-count.auto.mapping ∙ l.2)
    c.explore-count.ensures.found c.count_edges-edges.ensures c.write_game.ensures
    (cleared _ _ _ c.explore-count.auto.work (c.fill.ensures.after (λ y e. search rules)))
