use native.Mathlib.Omega.{arith}
use Rattle.settling.proofs.Marking.{mark_inside, mark_raises, mark_of, met_below_mark, once_old}
use Rattle.settling.proofs.Marking.{once_appended, once_crowded, gathered_failed}
use Rattle.settling.proofs.meet_once.Goals as goal

pub returns-in_err-vertex : goal.returns-in_err-vertex
returns-in_err-vertex g c =
    λ w₀ c₀ ks same k.
    gathered_failed _ _ _ _ _ _ _ _ _ c.from_residual.ensures.0
    (once_crowded _ _ _ c.args.counters _ w₀ c₀ ks c.requires.0.0.table.slots.room c.in_err-vertex.ensures k.made)

pub region_word-mark-requires : goal.region_word-mark-requires
region_word-mark-requires g c =
    let p = c.in_ok-vertex.ensures in
    let mark = mark_of _ c.args.operand.item _ _ _ _ c.mark_index-index.ensures c.requires.1 in
    mark_inside _ _ _ _ _ _ _ _ c.requires.0.0 c.requires.0.2 p.rest c.meet.auto.work
    (met_below_mark _ _ _ _ _ _ _ _ c.requires.0.0 p c.meet.auto.work _
    c.requires.0.2.apart.0 _ _ _ _ mark)

pub raise_count-requires : goal.raise_count-requires
raise_count-requires g c =
    let p = c.in_ok-vertex.ensures in
    let mark = mark_of _ c.args.operand.item _ _ _ _ c.mark_index-index.ensures c.requires.1 in
    let it =
    mark_raises _ _ _ _ _ _ _ _ c.requires.0.0 c.requires.0.2 p.rest c.meet.auto.work
    (met_below_mark _ _ _ _ _ _ _ _ c.requires.0.0 p c.meet.auto.work _
    c.requires.0.2.apart.0 _ _ _ _ mark) _ c.region_word-mark.ensures.at_place c.if-operand-mark.true in
    record { inside = it.0; can_rise = it.1 }

pub returns-then-operand-mark : goal.returns-then-operand-mark
returns-then-operand-mark g c =
    let p = c.in_ok-vertex.ensures in
    let mark = mark_of _ c.args.operand.item _ _ _ _ c.mark_index-index.ensures c.requires.1 in
    λ w₀ c₀ ks same k.
    once_old _ _ _ _ _ _ _ _ c.requires.0.0 p c.meet.auto.work _ _
    c.requires.0.2.apart _ _ mark w₀ c₀ ks k _ _
    c.region_word-mark.ensures.at_place (omega (arith, same, c.if-operand-mark.true)) c.raise_count.ensures

pub put_word-requires : goal.put_word-requires
put_word-requires g c =
    let p = c.in_ok-vertex.ensures in
    let mark = mark_of _ c.args.operand.item _ _ _ _ c.mark_index-index.ensures c.requires.1 in
    mark_inside _ _ _ _ _ _ _ _ c.requires.0.0 c.requires.0.2 p.rest c.meet.auto.work
    (met_below_mark _ _ _ _ _ _ _ _ c.requires.0.0 p c.meet.auto.work _
    c.requires.0.2.apart.0 _ _ _ _ mark)

pub returns : goal.returns
returns g c =
    let p = c.in_ok-vertex.ensures in
    let mark = mark_of _ c.args.operand.item _ _ _ _ c.mark_index-index.ensures c.requires.1 in
    λ w₀ c₀ ks same k.
    once_appended _ _ _ _ _ _ _ _ c.requires.0.0 p c.meet.auto.work _ _
    c.requires.0.2.apart _ _ mark w₀ c₀ ks k _ _ _
    (omega (arith, same, c.region_word-mark.ensures.at_place, c.if-operand-mark.false)) c.put_word.ensures
    c.append_edge.ensures
