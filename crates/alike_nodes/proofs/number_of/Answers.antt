use mathlib.Core.Logic.{inl}
use Rattle.std.proofs.Common.{◌≡◌, rules, tests}
use Rattle.std.proofs.lemmas.Iterator.{IsFirst-from_position, YieldsList-from_slice}
use Rattle.std.proofs.option.Match.{if_some}
use Rattle.alike_nodes.specs.Laws.{shape_equal}
use Rattle.alike_nodes.proofs.Shapes.{shapes_differ}
use Rattle.alike_nodes.proofs.number_of.Goals as goal

pub returns-in-Some : goal.returns-in-Some
returns-in-Some g c =
    let s = c.args.shape in
    let one = g.met.T.Nodes.one_kind in
    let (below, here, before) = if_some _ _ _ c.in-Some.is
    (IsFirst-from_position _ _ _ (λ o. o ≡ s) (λ o. o ≡ s → ⊥) c.position.ensures.ran (YieldsList-from_slice _ c.iter.ensures.rest)
    (λ o q k. shape_equal o.now s (one o.now.kind s.kind (search (rules, tests))) (search (rules, tests)) (search (rules, tests))) (λ o q k. (search (rules, tests), shapes_differ g.T.Kind.PartialEq.eq g.met.T.Kind.Eq.laws.refl o.now s (search (rules, tests))))) in
    inl (c.in-Some.ahead, below, here, before, search rules)
