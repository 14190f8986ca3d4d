-- `skip_blocks` meets its contract: the blocks passed lack both bytes. Assumes nothing.
use borrow.Author.Rules.{rules}
use borrow.Author.Tests.{tests}
use mathlib.Core.Path.{◌≡◌, sym, ap, ◌∙◌}
use native.Mathlib.Omega.{arith}
use Rattle.std.specs.Prelude.{ℕ}
use lib.ListN.{take, drop, length-drop}
use Rattle.std.proofs.Math.Seq.{take-length}
use Rattle.pgsolver_scan.proofs.Blocks.{lacks_run, item_at}
use Rattle.pgsolver_scan.proofs.skip_blocks.Goals as goal

pub returns : goal.returns
returns c =
    let u = c.count-passed.ensures.runs in
    let s = c.take_while.ensures.runs u.0 u.0.seen u.1 in
    let z : s.0.from.size ≡ 64 = ap (λ t. t.size) s.1 ∙ c.chunks_exact.ensures.size in
    let y = ap (λ t. t.rest.now) s.1 ∙ c.chunks_exact.ensures.rest in
    let rest = drop c.args.place c.args.text.now in
    let cut = ap (λ (n : ℕ). take n rest) (sym (length-drop c.args.place c.args.text.now)) ∙ take-length rest in
    let b = c.chunks_exact.ensures.runs s.0 s.0.seen (omega (arith, z)) in
    lacks_run c.args.text.now c.args.place c.count-passed.result s.0.len z (y ∙ cut) c.requires
    (omega (arith, s.2.0, u.3)) b.0
    (λ k l. s.2.1 k (omega (arith, l, u.3))) b.2
    (λ k l. item_at (u.0.at k) (u.0.reads k c.args.text (omega (arith, l, u.3)))
    ((s.2.2 (λ a r f q. search (rules, tests))).0 k) (λ x q. search (rules, tests)))
