-- There is room for each part that is written, and together they are the formula.
use mathlib.Core.Path.{◌≡◌, sym, ap, ◌∙◌}
use native.Mathlib.Omega.{arith}
use Rattle.node_kinds.specs.Codes.{formula_code}
use Rattle.expanding.specs.declared.table.Part.{Part}
use Rattle.expanding.specs.Modalities.{modality_of}
use Rattle.expanding.proofs.Standing.{roomy_then}
use Rattle.expanding.proofs.Formulas.{leaf_of, two_of, modal_of, fixpoint_of, told, size_some}
use Rattle.expanding.proofs.Formulas.{right_room, left_room, join_room, body_room, modal_room, fixpoint_room}
use Rattle.expanding.proofs.Formulas.{wrote_leaf, wrote_reference, wrote_two, wrote_modality, wrote_fixpoint}
use Rattle.expanding.proofs.formula.+write_formula.Goals as goal

-- ---- true, false

pub extend-requires : goal.extend-requires
extend-requires t c =
    let (good, h) = c.requires.tables in
    let some = size_some good h c.args.node in
    let e = ap (λ (p : Part). p.start) c.empty.ensures in
    (c.requires.room.0, omega arith, omega arith, omega arith)

pub returns-in-True : goal.returns-in-True
returns-in-True t c =
    let (good, h) = c.requires.tables in
    let l = leaf_of c.of-kind.result c.in-True.is in
    let k = told good h c.kind_at.ensures c.of-kind.ensures in
    wrote_leaf good h k l (rw c.empty.ensures at c.extend.ensures)

-- ---- "and", "or"

pub write_formula-right-requires : goal.write_formula-right-requires
write_formula-right-requires t c =
    let (good, h) = c.requires.tables in
    let (m, e) = two_of c.of-kind.result c.in-And.is in
    let k = told good h c.kind_at.ensures c.of-kind.ensures ∙ e in
    let (later, below, space) = right_room good h m k c.operand_at-operand.ensures c.requires.space in
    (omega arith, ((good, below), (c.requires.room, space)))

pub write_formula-left-requires : goal.write_formula-left-requires
write_formula-left-requires t c =
    let (good, h) = c.requires.tables in
    let (m, e) = two_of c.of-kind.result c.in-And.is in
    let k = told good h c.kind_at.ensures c.of-kind.ensures ∙ e in
    let (next, room, space) =
    left_room good h m k c.operand_at-operand.ensures c.requires.space c.requires.room.0 c.requires.room.1 c.write_formula-right.ensures in
    (omega arith, ((good, next), (room, space)))

pub extend-requires-in-And : goal.extend-requires-in-And
extend-requires-in-And t c =
    let (good, h) = c.requires.tables in
    let (m, e) = two_of c.of-kind.result c.in-And.is in
    let k = told good h c.kind_at.ensures c.of-kind.ensures ∙ e in
    join_room good h m k c.operand_at-operand.ensures c.requires.space c.requires.room.0 c.requires.room.1 c.write_formula-right.ensures
    c.write_formula-left.ensures

pub returns-in-And : goal.returns-in-And
returns-in-And t c =
    let (good, h) = c.requires.tables in
    let (m, e) = two_of c.of-kind.result c.in-And.is in
    let k = told good h c.kind_at.ensures c.of-kind.ensures ∙ e in
    wrote_two good h m c.requires.room.1 k c.operand_at-operand.ensures c.write_formula-right.ensures c.write_formula-left.ensures
    (rw e at c.extend-in-And.ensures)

-- ---- modalities

pub write_formula-body-requires : goal.write_formula-body-requires
write_formula-body-requires t c =
    let (good, h) = c.requires.tables in
    let (m, e) = modal_of c.of-kind.result c.in-Box.is in
    let k = told good h c.kind_at.ensures c.of-kind.ensures ∙ e in
    let (next, space) = body_room good h m k c.requires.space in
    (omega arith, ((good, next), (c.requires.room, space)))

pub write_modal-requires-clause-space : goal.write_modal-requires-clause-space
write_modal-requires-clause-space t c =
    let (good, h) = c.requires.tables in
    let (m, e) = modal_of c.of-kind.result c.in-Box.is in
    let k = told good h c.kind_at.ensures c.of-kind.ensures ∙ e in
    modal_room good h m k c.operand_at-operand.ensures c.requires.space c.write_formula-body.ensures

pub returns-in-Box : goal.returns-in-Box
returns-in-Box t c =
    let (good, h) = c.requires.tables in
    let k = told good h c.kind_at.ensures c.of-kind.ensures ∙ sym c.of.ensures in
    wrote_modality good h (modality_of c.of.result) k c.operand_at-operand.ensures c.write_formula-body.ensures c.write_modal.ensures

-- ---- fixpoints

pub write_formula-body-requires-in-Least : goal.write_formula-body-requires-in-Least
write_formula-body-requires-in-Least t c =
    let (good, h) = c.requires.tables in
    let (m, e) = fixpoint_of c.of-kind.result c.in-Least.is in
    let k = told good h c.kind_at.ensures c.of-kind.ensures ∙ e in
    let (next, space) = fixpoint_room good h m k c.requires.space in
    (omega arith, ((good, next), (c.requires.room, omega arith)))

pub overflow_sub-body : goal.overflow_sub-body
overflow_sub-body t c =
    let (good, h) = c.requires.tables in
    let (m, e) = fixpoint_of c.of-kind.result c.in-Least.is in
    let k = told good h c.kind_at.ensures c.of-kind.ensures ∙ e in
    let (next, space) = fixpoint_room good h m k c.requires.space in
    omega (arith, c.write_formula-body-in-Least.ensures.begins)

pub extend-requires-in-Least : goal.extend-requires-in-Least
extend-requires-in-Least t c =
    let (good, h) = c.requires.tables in
    let (m, e) = fixpoint_of c.of-kind.result c.in-Least.is in
    let k = told good h c.kind_at.ensures c.of-kind.ensures ∙ e in
    let (next, space) = fixpoint_room good h m k c.requires.space in
    let begins = c.write_formula-body-in-Least.ensures.begins in
    let few = c.write_formula-body-in-Least.ensures.rest.few in
    let more = c.bind.ensures.rest.few in (
      roomy_then c.bind.ensures.rest (roomy_then c.write_formula-body-in-Least.ensures.rest c.requires.room.0),
      omega arith,
      omega arith,
      omega arith,
    )

pub returns-in-Least : goal.returns-in-Least
returns-in-Least t c =
    let (good, h) = c.requires.tables in
    let (m, e) = fixpoint_of c.of-kind.result c.in-Least.is in
    let k = told good h c.kind_at.ensures c.of-kind.ensures ∙ e in
    wrote_fixpoint good h m c.requires.room.1 k c.write_formula-body-in-Least.ensures c.bind.ensures (rw e at c.extend-in-Least.ensures)

-- ---- references

pub extend-requires-in-Reference : goal.extend-requires-in-Reference
extend-requires-in-Reference t c =
    let (good, h) = c.requires.tables in
    let e : formula_code c.of-kind.result ≡ 8 = ap formula_code c.in-Reference.is in
    let k = told good h c.kind_at.ensures c.of-kind.ensures ∙ e in
    let some = size_some good h c.args.node in
    let few = good.formula.few in
    let (below, names) = (good.formula.nodes c.args.node h).refers (omega arith) in
    let i = ap (λ (p : Part). p.start) c.empty-in-Reference.ensures in
    (c.requires.room.0, omega arith, omega arith, omega (arith, c.operand_at-operand.ensures))

pub returns-in-Reference : goal.returns-in-Reference
returns-in-Reference t c =
    let (good, h) = c.requires.tables in
    let e : formula_code c.of-kind.result ≡ 8 = ap formula_code c.in-Reference.is in
    let k = told good h c.kind_at.ensures c.of-kind.ensures ∙ e in
    let leaf = rw (e, c.empty-in-Reference.ensures) at c.extend-in-Reference.ensures in
    wrote_reference good h c.operand_at-operand.ensures k leaf
