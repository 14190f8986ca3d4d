-- `decode` meets its contract: each way out is a law of the accepted bytes. Assumes nothing.
use mathlib.Core.Bool.{true, false}
use mathlib.Core.Path.{◌≡◌}
use Prim.Native.Nat.{◌/◌}
use lib.ListN.{length}
use native.Mathlib.Omega.{arith}
use Rattle.std.proofs.Common.{rules}
use Rattle.words.specs.Bytes.{words_at}
use Rattle.gate_text.proofs.Decoding.{refused_broken, refused_long, refused_short, agreed}
use Rattle.gate_text.proofs.decode.Goals as goal
use Rattle.gate_text.proofs.decode.Goals.{then-size-ne0-via-then-size-ne0, then-size-ne0-via-else-size-ne0+then-size-lt16, then-size-ne0-via-else-size-ne0+else-size-lt16+then-size-gt8192}

pub returns-then-size-ne0 : goal.returns-then-size-ne0
returns-then-size-ne0 c =
    elim c.then-size-ne0.branch [
      | then-size-ne0-via-then-size-ne0 w ↦ refused_broken c.args.bytes.now w.if-size-ne0.true
      | then-size-ne0-via-else-size-ne0+then-size-lt16 w ↦ refused_short c.args.bytes.now w.if-size-lt16.true
      | then-size-ne0-via-else-size-ne0+else-size-lt16+then-size-gt8192 w ↦
          refused_long c.args.bytes.now w.if-size-gt8192.true
    ]

pub returns-then-lengths_agree : goal.returns-then-lengths_agree
returns-then-lengths_agree c =
    let words = c.read_words.new.words in
    let many : length words ≡ length c.args.bytes.now / 4 = search rules in
    let read : words ≡ words_at (length words) c.args.bytes.now = rw many (search rules) in
    agreed c.args.bytes.now words (omega arith) c.if-size-gt8192.false c.if-size-lt16.false read _
    c.lengths_agree.ensures true c.if-lengths_agree.true

pub returns : goal.returns
returns c =
    let words = c.read_words.new.words in
    let many : length words ≡ length c.args.bytes.now / 4 = search rules in
    let read : words ≡ words_at (length words) c.args.bytes.now = rw many (search rules) in
    agreed c.args.bytes.now words (omega arith) c.if-size-gt8192.false c.if-size-lt16.false read _
    c.lengths_agree.ensures false c.if-lengths_agree.false
