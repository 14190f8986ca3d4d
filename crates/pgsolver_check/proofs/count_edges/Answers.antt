-- `count_edges` meets its contract. Assumes nothing.
use native.Mathlib.Omega.{arith}
use mathlib.Core.Path.{sym, ◌∙◌}
use Rattle.pgsolver_check.proofs.Walking.{walk_later}
use Rattle.pgsolver_check.proofs.Fields.{number_stands, priority_stands, owner_stands, successors_stand}
use Rattle.pgsolver_check.proofs.Fields.{fields_line}
use Rattle.pgsolver_check.proofs.Edging.{edging_start, edging_beyond, edging_more, edging_done}
use Rattle.pgsolver_check.proofs.count_edges.Goals as goal

pub loop-place-init : goal.loop-place-init
loop-place-init c = edging_start c.args.room c.requires.readable c.clear.ensures

pub known_field-number-requires : goal.known_field-number-requires
known_field-number-requires c = number_stands c.requires c.loop-place.invariant.walk c.loop-place-test.true

pub known_field-priority-requires : goal.known_field-priority-requires
known_field-priority-requires c =
    priority_stands c.requires c.loop-place.invariant.walk c.loop-place-test.true
    c.known_field-number.result c.known_field-number.ensures

pub known_field-owner-requires : goal.known_field-owner-requires
known_field-owner-requires c =
    owner_stands c.requires c.loop-place.invariant.walk c.loop-place-test.true
    c.known_field-number.result c.known_field-number.ensures
    c.known_field-priority.result c.known_field-priority.ensures

pub count_list-counted-requires : goal.count_list-counted-requires
count_list-counted-requires c = (
  (successors_stand c.requires c.loop-place.invariant.walk c.loop-place-test.true
      c.known_field-number.result c.known_field-number.ensures
      c.known_field-priority.result c.known_field-priority.ensures
      c.known_field-owner.result c.known_field-owner.ensures).1,
  c.loop-place.invariant.holds,
)

pub returns-then-room-edges : goal.returns-then-room-edges
returns-then-room-edges c =
    let listed = successors_stand c.requires c.loop-place.invariant.walk c.loop-place-test.true
    c.known_field-number.result c.known_field-number.ensures
    c.known_field-priority.result c.known_field-priority.ensures
    c.known_field-owner.result c.known_field-owner.ensures in
    edging_beyond c.requires.readable c.loop-place.invariant c.loop-place-test.true
    c.known_field-owner.result.next listed.0 c.count_list-counted.ensures.counted c.if-room-edges.true

pub loop-place-smaller : goal.loop-place-smaller
loop-place-smaller c =
    let line = fields_line c.requires c.loop-place.invariant.walk c.loop-place-test.true
    c.known_field-number.result c.known_field-number.ensures
    c.known_field-priority.result c.known_field-priority.ensures
    c.known_field-owner.result c.known_field-owner.ensures in
    omega (
      arith,
      c.loop-place-test.true,
      walk_later c.requires.readable c.loop-place.invariant.walk c.loop-place-test.true,
      line,
      c.count_list-counted.ensures.same_line,
      c.past_line-place.ensures,
    )

pub loop-place-preserved : goal.loop-place-preserved
loop-place-preserved c =
    let listed = successors_stand c.requires c.loop-place.invariant.walk c.loop-place-test.true
    c.known_field-number.result c.known_field-number.ensures
    c.known_field-priority.result c.known_field-priority.ensures
    c.known_field-owner.result c.known_field-owner.ensures in
    let line = fields_line c.requires c.loop-place.invariant.walk c.loop-place-test.true
    c.known_field-number.result c.known_field-number.ensures
    c.known_field-priority.result c.known_field-priority.ensures
    c.known_field-owner.result c.known_field-owner.ensures in
    edging_more c.requires.readable c.loop-place.invariant c.loop-place-test.true
    c.known_field-owner.result.next listed.0 c.count_list-counted.ensures.counted c.if-room-edges.false
    (c.past_line-place.ensures ∙ sym (line ∙ c.count_list-counted.ensures.same_line))
    c.count_list-counted.ensures.emptied

pub returns : goal.returns
returns c = edging_done c.loop-place.invariant c.loop-place-test.false
