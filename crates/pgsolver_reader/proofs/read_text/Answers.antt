-- `read_text` meets its contract. Assumes nothing.
use Prim.Native.Nat.{◌+◌}
use native.Mathlib.Omega.{arith}
use mathlib.Core.Path.{refl, sym}
use lib.ListN.{length}
use Rattle.pgsolver_reader.proofs.Assembling.{room_sizes, plan_whole, plan_small, plan_ready}
use Rattle.pgsolver_reader.proofs.Assembling.{read_done, read_bad, read-refused}
use Rattle.pgsolver_check.proofs.Checking.{handed_on}
use Rattle.pgsolver_reader.proofs.read_text.Goals as goal

pub returns-in_err-check_lent : goal.returns-in_err-check_lent
returns-in_err-check_lent c =
    let fault = c.in_err-check_lent.field-0.0 in
    let e = handed_on _ fault c.from_residual.ensures.1 in
    rw e (read-refused c.args.text.now c.args.game.now c.args.room fault c.in_err-check_lent.ensures)

pub check_text-requires : goal.check_text-requires
check_text-requires c =
    (room_sizes c.args.room.vertices c.args.room.edges (length c.args.game.now) (sym c.in_ok-check_lent.ensures)).0

pub returns-in_err-plan : goal.returns-in_err-plan
returns-in_err-plan c =
    let fault = c.in_err-plan.field-0.0 in
    let e = handed_on _ fault c.from_residual-in_err-plan.ensures.1 in
    rw e
    (read_bad c.args.text.now c.args.game.now c.args.room fault (sym c.in_ok-check_lent.ensures) c.in_err-plan.ensures)

pub invariant_of-source : goal.invariant_of-source
invariant_of-source c =
    let sizes = room_sizes c.args.room.vertices c.args.room.edges (length c.args.game.now)
    (sym c.in_ok-check_lent.ensures) in
    record { whole = plan_whole c.in_ok-plan.ensures sizes.0; few = omega (arith, plan_small c.in_ok-plan.ensures, sizes.1) }

pub write_game-edges-requires : goal.write_game-edges-requires
write_game-edges-requires c =
    let sizes = room_sizes c.args.room.vertices c.args.room.edges (length c.args.game.now)
    (sym c.in_ok-check_lent.ensures) in
    plan_ready c.in_ok-plan.ensures (length c.args.game.now) sizes.0 sizes.1 sizes.2

pub overflow_cast-result-3 : goal.overflow_cast-result-3
overflow_cast-result-3 c =
    let sizes = room_sizes c.args.room.vertices c.args.room.edges (length c.args.game.now)
    (sym c.in_ok-check_lent.ensures) in
    omega (arith, plan_small c.in_ok-plan.ensures, sizes.1, c.write_game-edges.ensures.value)

pub returns : goal.returns
returns c =
    read_done c.in_ok-plan.ensures c.args.game.now _ (c.in_ok-plan.plan.highest + 1) c.write_game-edges.result
    (sym c.in_ok-check_lent.ensures) refl c.write_game-edges.ensures.value c.write_game-edges.ensures.game_after
