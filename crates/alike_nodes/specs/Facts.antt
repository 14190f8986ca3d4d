-- That nodes have their numbers is one fact: it holds in no two ways. Assumes nothing.
use mathlib.Core.Path.{◌≡◌, refl, sym, ap, ◌∙◌}
use mathlib.Core.Bool.{Bool, true, false, false≢true}
use mathlib.Core.HLevel.{hedberg}
use mathlib.Core.List.{List}
use Prim.Native.Nat.{ℕ}
use Rattle.std.proofs.Props.{props}
use Rattle.rules.specs.Words.{Input}
use Rattle.rules.specs.Actions.{Action, any_action}
use Rattle.rules.specs.Formula.{Formula, truth, falsity, conjunction, disjunction, box, diamond, reference}
use Rattle.rules.specs.Items.{alike}
use Rattle.arena.proofs.Alike.{alike_equal, alike_self}
use Rattle.alike_nodes.specs.Nodes.{ActionNumbers, EquationNumbers}

action_in : Formula → Action
action_in (box a f) = a
action_in truth = any_action
action_in falsity = any_action
action_in (conjunction f g) = any_action
action_in (disjunction f g) = any_action
action_in (diamond a f) = any_action
action_in (reference i) = any_action

action_discrete : (a b : Action) → Dec (a ≡ b)
unfolding action_in
action_discrete a b = go (alike (box a truth) (box b truth)) refl
  where
    go : (t : Bool) → alike (box a truth) (box b truth) ≡ t → Dec (a ≡ b)
    go true h = yes (ap action_in (alike_equal (box a truth) (box b truth) h))
    go false h =
        no
        (λ e. false≢true (sym h ∙ ap (λ (z : Action). alike (box a truth) (box z truth)) (sym e) ∙ alike_self (box a truth)))

pub action_set : IsSet Action
action_set = hedberg action_discrete

pub action_numbers_prop : (x : Input) (acts : List ℕ) → IsProp (ActionNumbers x acts)
action_numbers_prop x acts = Prim.hlevel (props, action_set)

pub equation_numbers_prop : (f numbers : List ℕ) → IsProp (EquationNumbers f numbers)
equation_numbers_prop f numbers = Prim.hlevel props
