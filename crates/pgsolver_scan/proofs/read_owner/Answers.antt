-- `read_owner` meets its contract. Assumes nothing.
use Rattle.pgsolver_scan.proofs.Lines.{owner_none, owner_large, owner_told}
use Rattle.pgsolver_scan.proofs.read_owner.Goals as goal

pub returns-in_err-owner : goal.returns-in_err-owner
returns-in_err-owner c =
    rw c.from_residual.ensures (owner_none c.args.text.now c.args.place c.in_err-owner.ensures)

pub returns-then-nobody : goal.returns-then-nobody
returns-then-nobody c =
    owner_large c.args.text.now c.args.place c.in_ok-owner.owner c.in_ok-owner.ensures c.if-nobody.true

pub returns : goal.returns
returns c =
    owner_told c.args.text.now c.args.place c.in_ok-owner.owner c.in_ok-owner.ensures c.if-nobody.false
