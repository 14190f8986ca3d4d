-- `read_named` meets its contract. Assumes nothing.
use Rattle.pgsolver_scan.proofs.Scanning.{byte_stands, byte_lacking}
use Rattle.pgsolver_scan.proofs.Naming.{named_end, named_bad, named_told}
use Rattle.pgsolver_scan.proofs.read_named.Goals as goal

pub returns-then-not-byte_at : goal.returns-then-not-byte_at
returns-then-not-byte_at c =
    named_end c.args.text.now c.args.place c.requires
    (λ h. byte_lacking c.args.text.now c.args.place 32 c.byte_at.ensures.place_value h c.if-not-byte_at.true)

pub returns-then-byte_at : goal.returns-then-byte_at
returns-then-byte_at c =
    let h = c.byte_at.ensures.place_in_bounds c.if-not-byte_at.false in
    named_told c.args.text.now c.args.place h
    (byte_stands c.args.text.now c.args.place 32 c.byte_at.ensures.place_value h c.if-not-byte_at.false)
    c.byte_at-2.ensures.place_value c.read_name.result c.if-byte_at.true c.read_name.ensures

pub returns : goal.returns
returns c =
    let h = c.byte_at.ensures.place_in_bounds c.if-not-byte_at.false in
    named_bad c.args.text.now c.args.place h
    (byte_stands c.args.text.now c.args.place 32 c.byte_at.ensures.place_value h c.if-not-byte_at.false)
    c.byte_at-2.ensures.place_value c.if-byte_at.false
