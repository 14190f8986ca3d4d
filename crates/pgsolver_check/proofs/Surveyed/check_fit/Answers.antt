-- `check_fit` meets its contract. Assumes nothing.
use native.Mathlib.Omega.{arith}
use mathlib.Core.Path.{◌∙◌, sym}
use Rattle.rules.specs.Answers.{fault_if}
use borrow.Author.Tests.{ltb-true, ltb-false, leb-true, leb-false}
use Rattle.pgsolver_check.proofs.Checking.{handed_on, found_fault, found_none}
use Rattle.pgsolver_check.proofs.Checking.{beyond_vertices, beyond_rank, listed_fits, right_narrow, edges_told}
use Rattle.rules.specs.Words.{room_of}
use Rattle.pgsolver_check.proofs.Surveyed.check_fit.Goals as goal

pub returns-in_err-fault_if : goal.returns-in_err-fault_if
returns-in_err-fault_if c =
    let (bad, is) = found_fault 93 c.fault_if.ensures c.in_err-fault_if.was in
    handed_on _ _ c.from_residual.ensures.1 ∙ is
    ∙ sym (beyond_vertices c.args.self.now.seen (omega arith) c.requires.right (room_of c.args.vertices c.args.edges) (leb-true _ _ bad))

pub returns-in_err-fault_if-2 : goal.returns-in_err-fault_if-2
returns-in_err-fault_if-2 c =
    let (bad, is) = found_fault 93 c.fault_if-2.ensures c.in_err-fault_if-2.was in
    handed_on _ _ c.from_residual-in_err-fault_if-2.ensures.1 ∙ is
    ∙ sym (beyond_rank c.args.self.now.seen (omega arith) c.requires.right (room_of c.args.vertices c.args.edges) (ltb-true _ _ bad))

pub returns-then-found-edges : goal.returns-then-found-edges
unfolding fault_if
returns-then-found-edges c =
    sym (listed_fits c.args.self.now.seen (omega arith) c.requires.right (room_of c.args.vertices c.args.edges)
    (leb-false _ _ (found_none 93 c.fault_if.ensures c.in_ok-fault_if.was))
    (ltb-false _ _ (found_none 93 c.fault_if-2.ensures c.in_ok-fault_if-2.was)) c.if-found-edges.true)

pub count_edges-fit-requires : goal.count_edges-fit-requires
count_edges-fit-requires c =
    right_narrow c.args.self.now.seen (omega arith) c.requires.right (room_of c.args.vertices c.args.edges)
    (leb-false _ _ (found_none 93 c.fault_if.ensures c.in_ok-fault_if.was))
    (ltb-false _ _ (found_none 93 c.fault_if-2.ensures c.in_ok-fault_if-2.was)) c.requires.most

pub returns : goal.returns
returns c =
    c.fault_if-3.ensures
    ∙ sym (edges_told c.args.self.now.seen (omega arith) c.requires.right (room_of c.args.vertices c.args.edges)
    (leb-false _ _ (found_none 93 c.fault_if.ensures c.in_ok-fault_if.was))
    (ltb-false _ _ (found_none 93 c.fault_if-2.ensures c.in_ok-fault_if-2.was)) c.count_edges-fit.result
    c.count_edges-fit.ensures)
