-- The lengths tell, or the numbers of the one.
use borrow.Author.Rules.{rules}
use borrow.Author.Tests.{tests}
use Rattle.std.proofs.lemmas.Iterator.{YieldsList-from_slice}
use Rattle.std.proofs.lemmas.Iterator.Search.{all_from_yields_List}
use Rattle.labels.proofs.Listed.{CountedAlike, lengths_agree, lengths_differ}
use Rattle.labels.proofs.same_multiset.Goals as goal

pub returns-then-own-other : goal.returns-then-own-other
returns-then-own-other c =
    let own = c.args.own.now in
    let other = c.args.other.now in
    lengths_agree own other c.all.result
    (all_from_yields_List (CountedAlike own other) _ _ c.all.result c.all.ensures.ran (YieldsList-from_slice own cc)
    (λ x b q k. search (rules, tests)))
    c.if-own-other.true

pub returns-else-own-other : goal.returns-else-own-other
returns-else-own-other c = lengths_differ c.args.own.now c.args.other.now c.if-own-other.false
