use mathlib.Core.Path.{ap, ◌∙◌}
use native.Mathlib.Omega.{arith}
use Rattle.std.proofs.Common.{rules}
use Rattle.rules.specs.Lists.{one}
use Rattle.modal_equation_system.proofs.Listing.{byte_of, number_few, kind_read, linkable, listing_next}
use Rattle.modal_equation_system.proofs.EquationTable.list_node.Goals as goal

pub link_at-requires : goal.link_at-requires
link_at-requires c =
    let f = c.args.reader.words.now in
    linkable f c.requires.good c.args.reader.node c.requires.inside _ c.requires.listing _ _
    (kind_read f c.requires.good c.args.reader.node c.requires.inside _ _ c.kind.ensures c.of-kind.ensures)
    c.operand.ensures

pub offset_bounds-self-self : goal.offset_bounds-self-self
offset_bounds-self-self c =
    omega (arith, number_few _ c.requires.good _ c.requires.inside _ c.requires.listing)

pub bounds-self-self : goal.bounds-self-self
bounds-self-self c =
    omega (arith, number_few _ c.requires.good _ c.requires.inside _ c.requires.listing)

pub returns : goal.returns
returns c =
    let f = c.args.reader.words.now in
    listing_next f c.requires.good _ c.requires.inside _ c.requires.listing c.of-kind.result
    (kind_read f c.requires.good c.args.reader.node c.requires.inside _ _ c.kind.ensures c.of-kind.ensures)
    c.link_at.result c.from.result (search rules) (search rules) (search rules)
    _ c.operand.ensures c.link_at.ensures
    (c.from.ensures ∙ byte_of c.is_fixpoint.result ∙ ap one c.is_fixpoint.ensures)
