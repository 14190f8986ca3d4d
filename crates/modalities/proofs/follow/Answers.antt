-- `follow` meets its contract: the answer for the transition's label says whether its target is met. Assumes nothing.
use mathlib.Core.List.{append-nil}
use Rattle.modalities.specs.Matched.{answer}
use Rattle.modalities.proofs.Matches.{one_target, no_target}
use Rattle.modalities.proofs.follow.Goals as goal

pub returns-then-answers-label : goal.returns-then-answers-label
returns-then-answers-label g c =
    let one = one_target (answer c.args.answers.now) c.args.operand.item c.args.label c.args.target
    c.if-answers-label.true in
    λ w b ks e k. rw one (c.target_once.ensures w b ks e k)

pub returns : goal.returns
returns g c =
    let none = no_target (answer c.args.answers.now) c.args.operand.item c.args.label c.args.target
    c.if-answers-label.false in
    λ w b ks e k. rw (none, append-nil ks) k
