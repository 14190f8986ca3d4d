-- The edges of all vertices, summed.
use borrow.Author.Rules.{rules}
use borrow.Author.Tests.{tests}
use Prim.Native.Nat.{ℕ, ◌-◌}
use mathlib.Core.Path.{◌≡◌, ◌∙◌}
use lib.ListN.{length}
use native.Mathlib.Omega.{arith}
use Rattle.std.specs.List.{range_with_len}
use Rattle.std.proofs.lemmas.Iterator.{YieldsList-from_range, YieldsList-from_map}
use Rattle.std.proofs.lemmas.Iterator.Consumers.{sum_by_from_yields_List, fits_by_from_yields_list}
use Rattle.game_columns.specs.Shown.{edges_of}
use Rattle.game_columns.proofs.Written.{summed}
use Rattle.game_columns.proofs.count_edges.Goals as goal

pub sum-requires-clause-fits : goal.sum-requires-clause-fits
sum-requires-clause-fits g c =
    let shown = g.V.Vertices.shown c.args.vertices.now in
    let degree = λ (i : ℕ). length (edges_of shown i) in
    let n : c.count.result - 0 ≡ length shown = omega (arith, c.count.ensures) in
    fits_by_from_yields_list degree (range_with_len 0 (length shown)) c.map.result _
    (YieldsList-from_map _ degree (YieldsList-from_range 0 c.count.result _ c.map.ensures.source n)
    c.map.ensures.closure (λ x r q k. search (rules, tests)))
    (omega (arith, summed shown, c.requires.few))

pub returns : goal.returns
returns g c =
    let shown = g.V.Vertices.shown c.args.vertices.now in
    let degree = λ (i : ℕ). length (edges_of shown i) in
    let n : c.count.result - 0 ≡ length shown = omega (arith, c.count.ensures) in
    sum_by_from_yields_List degree (range_with_len 0 (length shown)) c.map.result _ c.sum.ensures.ran
    (YieldsList-from_map _ degree (YieldsList-from_range 0 c.count.result _ c.map.ensures.source n)
    c.map.ensures.closure (λ x r q k. search (rules, tests)))
    ∙ summed shown
