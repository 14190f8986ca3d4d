-- `put_decimal` meets its contract: the library's digits are the rules'. Assumes nothing.
use mathlib.Core.Path.{◌≡◌, refl, sym, ap, ◌∙◌, subst}
use Prim.Native.Nat.{ℕ, ◌+◌}
use native.Mathlib.Omega.{arith}
use mathlib.Core.List.{List, ◌++◌}
use lib.ListN.{length, take, drop}
use Rattle.std.specs.Fmt.{decimal as std_decimal}
use Rattle.std.proofs.Common.{rules}
use Rattle.rules.specs.Texts.{decimal}
use Rattle.words.specs.Stretches.{Wrote}
use Rattle.text_writer.proofs.Digits.{same_digits}
use Rattle.text_writer.proofs.Lines.{wrote_between}
use Rattle.text_writer.proofs.Text.put_decimal.Goals as goal

pub write_digits-requires : goal.write_digits-requires
write_digits-requires c =
    let same = ap length (same_digits c.args.number c.ranges.number.fits) in
    (omega (arith, same, c.digit_count.ensures), omega (arith, c.requires, c.digit_count.ensures))

pub returns : goal.returns
returns c =
    let same = same_digits c.args.number c.ranges.number.fits in
    let at : ℕ = c.args.self.now.size in
    let start : c.write_digits.result ≡ at =
    omega (arith, c.write_digits.ensures.start, ap length same, c.digit_count.ensures) in
    let end : at + c.digit_count.result ≡ at + length (decimal c.args.number) =
    omega (arith, c.digit_count.ensures) in
    let old : List ℕ = c.args.self.now.bytes.now in
    let new : List ℕ = c.write_digits.new.buf in
    let before = subst (λ (r : ℕ). take r new ≡ take r old) start c.write_digits.ensures.before in
    let written = subst (λ (r : ℕ). drop r new ≡ std_decimal c.args.number ++ drop (at + c.digit_count.result) old) start c.write_digits.ensures.written in
    let behind : drop at new ≡ decimal c.args.number ++ drop (at + length (decimal c.args.number)) old =
    written
    ∙ ap (λ (ds : List ℕ). ds ++ drop (at + c.digit_count.result) old) same
    ∙ ap (λ (p : ℕ). decimal c.args.number ++ drop p old) end in
    record {
      same = refl;
      long = search (rules);
      wrote = subst (λ (r : ℕ). Wrote at (decimal c.args.number) old new r) (sym end)
          (wrote_between at (decimal c.args.number) old new (omega (arith, c.requires)) before behind);
    }
