use mathlib.Core.Path.{refl, ap, ◌∙◌}
use mathlib.Core.List.{map}
use lib.ListN.{length, length-set}
use borrow.Author.Rules.{rules}
use Rattle.std.proofs.lemmas.List.{map-set, length-map}
use Rattle.node_kinds.specs.Codes.{formula_code}
use Rattle.item_table.proofs.put_entry.Goals as goal

pub returns : goal.returns
returns c =
    let t = c.args.compiled.now in
    let i = c.args.index in
    let q = c.args.item in
    let sized = ap length (map-set (λ x. formula_code x.kind) t.items i q)
    ∙ length-set (map (λ x. formula_code x.kind) t.items) i (formula_code q.kind) in
    record {
      kinds = map-set (λ x. formula_code x.kind) t.items i q;
      lefts = map-set (λ x. x.left) t.items i q;
      rights = map-set (λ x. x.right) t.items i q;
      kinds_room = length-map t.items (λ x. formula_code x.kind) ∙ (search rules);
      rooms = record {
        lefts = length-map t.items (λ x. x.left) ∙ (search rules);
        rights = length-map t.items (λ x. x.right) ∙ (search rules);
      };
      only = record { sized = sized; classes = refl; samples = refl };
    }
