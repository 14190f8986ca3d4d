-- The search begins at the initial vertex; each turn meets the targets of one vertex.
use mathlib.Core.Path.{refl, ◌∙◌}
use native.Mathlib.Omega.{arith}
use borrow.Author.Rules.{rules}
use Rattle.reachability.proofs.Edges.{leads_at}
use Rattle.reachability.proofs.Meeting.{none_known, knows_at, filled}
use Rattle.reachability.proofs.Meets.{met_none, met_more}
use Rattle.reachability.proofs.Turns.{search-start, search_step, search_done}
use Rattle.reachability.proofs.explore.Goals as goal

pub discover-requires-clause-ready : goal.discover-requires-clause-ready
discover-requires-clause-ready c =
    none_known _ _ (omega (arith, c.fill.auto.self, c.requires.lengths))
    (omega (arith, c.fill.auto.self, c.requires.lengths, c.requires.good_game.few))
    (filled 4_294_967_295 _ _ c.fill.ensures.len (c.fill.ensures.after (λ y e. search rules)))

pub loop-i-init : goal.loop-i-init
loop-i-init c = (met_none c.discover.ensures.ready, search-start _ _ _ refl c.discover.ensures.known)

pub edge_words-targets-requires : goal.edge_words-targets-requires
edge_words-targets-requires c = (
  omega arith,
  omega (
    arith,
    knows_at c.loop-i.invariant.0.ready c.loop-i.i c.loop-i-test.true,
    c.loop-i.invariant.0.long,
    c.discover.ensures.long,
    c.fill.auto.self,
    c.requires.lengths,
  ),
)

pub discover_all-requires-clause-are_vertices : goal.discover_all-requires-clause-are_vertices
discover_all-requires-clause-are_vertices c =
    let met = knows_at c.loop-i.invariant.0.ready c.loop-i.i c.loop-i-test.true in
    let long = c.loop-i.invariant.0.long ∙ c.discover.ensures.long ∙ c.fill.auto.self ∙ c.requires.lengths.0 in
    λ p l. omega (
      arith,
      leads_at _ c.requires.good_game _ _ (omega (arith, met, long)) c.edge_words-targets.ensures p l,
      long,
    )

pub loop-i-preserved : goal.loop-i-preserved
loop-i-preserved c =
    let long = c.loop-i.invariant.0.long ∙ c.discover.ensures.long ∙ c.fill.auto.self ∙ c.requires.lengths.0 in (
      met_more c.loop-i.invariant.0 c.discover_all.ensures,
      search_step _ _ _ _ _ _ _ _ c.loop-i.invariant.0.ready long c.loop-i-test.true c.edge_words-targets.ensures
          c.discover_all.ensures.known c.loop-i.invariant.1,
    )

pub returns-clause-found : goal.returns-clause-found
returns-clause-found c =
    let found = search_done _ _ _ _ _ _ c.loop-i.invariant.0.ready c.loop-i-test.false c.loop-i.invariant.1 in
    search rules
