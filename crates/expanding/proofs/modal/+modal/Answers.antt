-- There is room for each part that is written, and together they are the modality.
use Prim.Native.Nat.{◌+◌}
use mathlib.Core.Path.{ap}
use native.Mathlib.Omega.{arith}
use Rattle.rules.specs.Table.{size}
use Rattle.expanding.specs.declared.table.Part.{Part}
use Rattle.expanding.proofs.Branches.{told, one_child, two_children, action_is, sequence_is, choice_is, star_is, plus_is}
use Rattle.expanding.proofs.Branches.{at_action, at_sequence, at_choice, at_star, at_plus}
use Rattle.expanding.proofs.Modalities.{before_room, copy_room, first_room, join_room, reference_room, pass_room, bind_room}
use Rattle.expanding.proofs.Modalities.{join_star_room, fixpoint_room}
use Rattle.expanding.proofs.Modalities.{wrote_action, wrote_sequence, wrote_choice, wrote_star, wrote_plus}
use Rattle.expanding.proofs.modal.+modal.Goals as goal

-- ---- write_modal

pub write_modal-extend-requires : goal.write_modal-extend-requires
write_modal-extend-requires t c =
    let (good, h) = c.requires.regular in
    let k = told good h c.kind_at.ensures c.in-Action.ensures in
    let some = at_action good h _ c.requires.space k in
    let fits = c.type_inv.regulars (1 + size c.args.regulars.now + c.args.node) in
    let room = c.requires.room in
    (room.roomy, omega arith, omega arith, omega (arith, c.operand_at-operand.ensures))

pub write_modal-returns-in-Action : goal.write_modal-returns-in-Action
write_modal-returns-in-Action t c =
    let (good, h) = c.requires.regular in
    let k = told good h c.kind_at.ensures c.in-Action.ensures in
    rw (action_is good h c.operand_at-operand.ensures k)
    (wrote_action c.requires.room (rw c.kind.ensures at c.extend.ensures))

pub write_modal-write_modal-second-requires : goal.write_modal-write_modal-second-requires
write_modal-write_modal-second-requires t c =
    let (good, h) = c.requires.regular in
    let k = told good h c.kind_at.ensures c.in-Sequence.ensures in
    let (later, below) = two_children good h c.operand_at-operand.ensures (omega arith) (omega arith) in
    let (space, all) = at_sequence good h _ c.requires.space c.operand_at-operand.ensures k in
    (omega arith, ((good, below), (c.requires.room, space)))

pub write_modal-write_modal-requires : goal.write_modal-write_modal-requires
write_modal-write_modal-requires t c =
    let (good, h) = c.requires.regular in
    let k = told good h c.kind_at.ensures c.in-Sequence.ensures in
    let (space, all) = at_sequence good h _ c.requires.space c.operand_at-operand.ensures k in
    let room = before_room c.requires.room c.write_modal-second.ensures _ all in
    (omega arith, ((good, one_child good h (omega arith)), room))

pub write_modal-returns-in-Sequence : goal.write_modal-returns-in-Sequence
write_modal-returns-in-Sequence t c =
    let (good, h) = c.requires.regular in
    let k = told good h c.kind_at.ensures c.in-Sequence.ensures in
    rw (sequence_is good h c.operand_at-operand.ensures k)
    (wrote_sequence c.requires.room c.write_modal-second.ensures c.write_modal.ensures)

pub write_modal-write_star-requires : goal.write_modal-write_star-requires
write_modal-write_star-requires t c =
    let (good, h) = c.requires.regular in
    let k = told good h c.kind_at.ensures c.in-Star.ensures in
    (omega arith, ((good, one_child good h (omega arith)), (c.requires.room, at_star good h _ c.requires.space k)))

pub write_modal-returns-in-Star : goal.write_modal-returns-in-Star
write_modal-returns-in-Star t c =
    let (good, h) = c.requires.regular in
    let k = told good h c.kind_at.ensures c.in-Star.ensures in
    rw (star_is good h k) c.write_star.ensures

pub write_modal-write_star-star-requires : goal.write_modal-write_star-star-requires
write_modal-write_star-star-requires t c =
    let (good, h) = c.requires.regular in
    let k = told good h c.kind_at.ensures c.in-Plus.ensures in
    let (space, all) = at_plus good h _ c.requires.space k in
    (omega arith, ((good, one_child good h (omega arith)), (c.requires.room, space)))

pub write_modal-write_modal-requires-in-Plus : goal.write_modal-write_modal-requires-in-Plus
write_modal-write_modal-requires-in-Plus t c =
    let (good, h) = c.requires.regular in
    let k = told good h c.kind_at.ensures c.in-Plus.ensures in
    let (space, all) = at_plus good h _ c.requires.space k in
    let room = before_room c.requires.room c.write_star-star.ensures _ all in
    (omega arith, ((good, one_child good h (omega arith)), room))

pub write_modal-returns-in-Plus : goal.write_modal-returns-in-Plus
write_modal-returns-in-Plus t c =
    let (good, h) = c.requires.regular in
    let k = told good h c.kind_at.ensures c.in-Plus.ensures in
    rw (plus_is good h k) (wrote_plus c.requires.room c.write_star-star.ensures c.write_modal-in-Plus.ensures)

-- ---- write_choice

pub write_choice-write_modal-second-requires : goal.write_choice-write_modal-second-requires
write_choice-write_modal-second-requires t c =
    let (good, h, k) = c.requires.regular in
    let (later, below) = two_children good h c.operand_at-right.ensures (omega arith) (omega arith) in
    let space = at_choice good h _ c.requires.space c.operand_at-right.ensures k in
    (omega arith, ((good, below), (c.requires.room, omega arith)))

pub write_choice-copy-copied-requires : goal.write_choice-copy-copied-requires
write_choice-copy-copied-requires t c =
    let (good, h, k) = c.requires.regular in
    let space = at_choice good h _ c.requires.space c.operand_at-right.ensures k in
    copy_room c.requires.room c.write_modal-second.ensures _ space

pub write_choice-write_modal-first-requires : goal.write_choice-write_modal-first-requires
write_choice-write_modal-first-requires t c =
    let (good, h, k) = c.requires.regular in
    let space = at_choice good h _ c.requires.space c.operand_at-right.ensures k in
    let room = first_room c.requires.room c.write_modal-second.ensures c.copy-copied.ensures _ space in
    (omega arith, ((good, one_child good h (omega arith)), room))

pub write_choice-extend-requires : goal.write_choice-extend-requires
write_choice-extend-requires t c =
    let (good, h, k) = c.requires.regular in
    let space = at_choice good h _ c.requires.space c.operand_at-right.ensures k in
    join_room c.requires.room c.write_modal-second.ensures c.copy-copied.ensures c.write_modal-first.ensures space

pub write_choice-returns : goal.write_choice-returns
write_choice-returns t c =
    let (good, h, k) = c.requires.regular in
    rw (choice_is good h c.operand_at-right.ensures k)
    (wrote_choice c.requires.room c.write_modal-second.ensures c.copy-copied.ensures c.write_modal-first.ensures
    (rw c.both.ensures at c.extend.ensures))

-- ---- write_star

pub write_star-extend-reference-requires : goal.write_star-extend-reference-requires
write_star-extend-reference-requires t c =
    let some = reference_room c.requires.room _ c.requires.space in
    let e = ap (λ (p : Part). p.start) c.empty.ensures in
    let room = c.requires.room in
    (room.roomy, omega arith, omega arith, omega arith)

pub write_star-write_modal-pass-requires : goal.write_star-write_modal-pass-requires
write_star-write_modal-pass-requires t c =
    let reference = rw c.empty.ensures at c.extend-reference.ensures in
    (omega arith, (c.requires.regular, pass_room c.requires.room reference _ c.requires.space))

pub write_star-overflow_sub-pass : goal.write_star-overflow_sub-pass
write_star-overflow_sub-pass t c =
    let reference = rw c.empty.ensures at c.extend-reference.ensures in
    let (two, there) = bind_room c.requires.room reference c.write_modal-pass.ensures c.requires.space in
    omega arith

pub write_star-extend-body-requires : goal.write_star-extend-body-requires
write_star-extend-body-requires t c =
    let reference = rw c.empty.ensures at c.extend-reference.ensures in
    join_star_room c.requires.room reference c.write_modal-pass.ensures c.bind.ensures.rest c.requires.space

pub write_star-extend-requires : goal.write_star-extend-requires
write_star-extend-requires t c =
    let reference = rw c.empty.ensures at c.extend-reference.ensures in
    let (roomy, some, inside) =
    fixpoint_room c.requires.room reference c.write_modal-pass.ensures c.bind.ensures.rest c.extend-body.ensures c.requires.space in
    (roomy, some, inside, omega arith)

pub write_star-returns : goal.write_star-returns
write_star-returns t c =
    let reference = rw c.empty.ensures at c.extend-reference.ensures in
    wrote_star c.requires.room reference c.write_modal-pass.ensures c.bind.ensures (omega arith, tt)
    (rw c.both.ensures at c.extend-body.ensures) (rw c.again.ensures at c.extend.ensures)
