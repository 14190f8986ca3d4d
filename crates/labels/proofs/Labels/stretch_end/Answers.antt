use mathlib.Core.Path.{◌≡◌}
use borrow.Author.Rules.{rules}
use borrow.Author.Tests.{tests}
use Prim.Native.Nat.{ℕ}
use Rattle.std.proofs.lemmas.Iterator.{first_from_Range}
use Rattle.rules.specs.Labels.{label_at}
use Rattle.labels.proofs.Stretched.{stretch_searched}
use Rattle.labels.proofs.Labels.stretch_end.Goals as goal

pub returns : goal.returns
returns c =
    let x = c.args in
    let first = first_from_Range _ _ _ c.find.result (λ (p : ℕ). ¬ (label_at x.self.words.now p ≡ x.label))
    (λ (p : ℕ). label_at x.self.words.now p ≡ x.label) c.find.ensures.ran
    (λ p q k. search (rules, tests)) (λ p q k. search (rules, tests)) in
    rw c.unwrap_or.ensures
    (stretch_searched x.self.words.now x.label x.from _ c.find.result x.self.good c.requires c.action_count-count.ensures first)
