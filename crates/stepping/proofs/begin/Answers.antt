-- `begin` meets its contract: the tables of pairs, marks and starts are cleared, and the first pair is met. Assumes
-- nothing.
use borrow.Author.Rules.{rules}
use mathlib.Core.Path.{◌≡◌, ◌∙◌}
use native.Mathlib.Omega.{arith}
use Rattle.lent_input.specs.Inputs.{input_in}
use Rattle.settling.specs.Keys.{key_targets, root_key}
use Rattle.stepping.proofs.Starts.{no_counts, empty_ready, start_full, start_made}
use Rattle.stepping.proofs.begin.Goals as goal

pub meet-requires : goal.meet-requires
meet-requires c =
    let same = c.clear-2.ensures.long ∙ c.clear.ensures.long ∙ c.start.auto.work in
    let none : c.default-none.result ≡ no_counts = search rules in
    let system = c.args.input.now.good.system in (
      rw none (empty_ready _ _ _ _ _ _ c.requires c.start.ensures c.clear.ensures c.clear-2.ensures same),
      record { state_fits = omega (arith, system.initial, system.states); item_fits = omega arith },
    )

pub returns-in_err-met : goal.returns-in_err-met
returns-in_err-met c =
    let x = input_in c.args.input.now in
    let same = c.clear-2.ensures.long ∙ c.clear.ensures.long ∙ c.start.auto.work in
    let none : c.default-none.result ≡ no_counts = search rules in
    start_full _ _ _ _ _ _ c.requires c.start.ensures c.clear.ensures c.clear-2.ensures same
    (key_targets x) (root_key x) (rw none at c.in_err-met.ensures)

pub returns : goal.returns
returns c =
    let same = c.clear-2.ensures.long ∙ c.clear.ensures.long ∙ c.start.auto.work in
    let none : c.default-none.result ≡ no_counts = search rules in
    start_made _ _ _ _ _ _ c.requires c.start.ensures c.clear.ensures c.clear-2.ensures same _
    _ _ _ _ _ (rw none at c.in_ok-met.ensures)
    c.meet.auto.work
