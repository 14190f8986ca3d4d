-- `next` gives the first number that is left. Assumes nothing.
use mathlib.Core.Path.{subst}
use Rattle.pgsolver_scan.specs.Successors.{GoesFrom}
use Rattle.pgsolver_scan.proofs.Going.{list_stands, gave_more, gave_last, more_goes, last_goes}
use Rattle.pgsolver_scan.proofs.SuccessorsIterator.next.Goals as goal

pub known_number-number-requires : goal.known_number-number-requires
known_number-number-requires c = list_stands (subst (GoesFrom c.args.self.now.text.now) c.in_ok-self.was c.requires)

pub returns-then-more-clause-steps : goal.returns-then-more-clause-steps
returns-then-more-clause-steps c =
    gave_more c.args.self.now _ _ c.in_ok-self.was c.requires c.known_number-number.ensures.told
    c.known_number-number.ensures.next_in_bounds c.if-more.true

pub returns-then-more-clause-goes : goal.returns-then-more-clause-goes
returns-then-more-clause-goes c =
    more_goes c.args.self.now _ _ c.in_ok-self.was c.requires c.known_number-number.ensures.told
    c.known_number-number.ensures.next_in_bounds c.if-more.true

pub returns-else-more-clause-steps : goal.returns-else-more-clause-steps
returns-else-more-clause-steps c =
    gave_last c.args.self.now _ _ c.in_ok-self.was c.requires c.known_number-number.ensures.told
    c.known_number-number.ensures.next_in_bounds c.if-more.false

pub returns-else-more-clause-goes : goal.returns-else-more-clause-goes
returns-else-more-clause-goes c =
    last_goes c.args.self.now _ _ c.in_ok-self.was c.requires c.known_number-number.ensures.told
    c.known_number-number.ensures.next_in_bounds c.if-more.false
