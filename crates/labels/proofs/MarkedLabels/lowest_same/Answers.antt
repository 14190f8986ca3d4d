use mathlib.Core.Path.{◌≡◌, ◌∙◌}
use mathlib.Core.Bool.{true, false}
use borrow.Author.Rules.{rules}
use borrow.Author.Tests.{tests}
use Prim.Native.Nat.{ℕ}
use Rattle.std.proofs.lemmas.Iterator.{first_from_Range}
use Rattle.rules.specs.Labels.{same_label}
use Rattle.labels.proofs.Tables.{lowest_searched}
use Rattle.labels.proofs.MarkedLabels.lowest_same.Goals as goal

pub returns : goal.returns
returns c =
    let ls = c.args.self.labels.words.now in
    let first = first_from_Range _ _ _ c.find.result (λ (z : ℕ). same_label ls z c.args.self.label ≡ true)
    (λ (z : ℕ). same_label ls z c.args.self.label ≡ false) c.find.ensures.ran
    (λ z q k. search (rules, tests)) (λ z q k. search (rules, tests)) in
    c.unwrap_or.ensures ∙ lowest_searched ls c.args.self.label c.find.result first
