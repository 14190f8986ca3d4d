-- The bytes up to the buffer's length, or all where there are fewer.
use Rattle.std.proofs.Common.{◌≡◌, rules, min, length, take, ap, ◌∙◌}
use Rattle.std.proofs.lemmas.List.{take_min}
use Rattle.texts.proofs.front.Goals as goal

pub returns : goal.returns
returns c =
    let input = c.args.input.now in
    let least : c.min.result ≡ min 8193 (length input) = search rules in
    ap (λ n. take n input) least ∙ take_min 8193 input
