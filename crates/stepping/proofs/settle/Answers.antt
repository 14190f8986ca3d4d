-- `settle` meets its contract: by the kind of the item the targets are those of a modality, with its counts, or the
-- operands at the same state, with none. Assumes nothing.
use mathlib.Core.Path.{refl, sym, ◌∙◌}
use Prim.Native.Nat.{◌/◌}
use native.Mathlib.Omega.{arith}
use borrow.Author.Tests.{eqb-true, eqb-false}
use Rattle.lent_input.specs.Inputs.{input_in}
use Rattle.modalities.specs.declared.Modality.{Modality}
use Rattle.modalities.proofs.Matches.{model_keys, model_counts}
use Rattle.node_kinds.specs.Codes.{formula_code}
use Rattle.stepping.proofs.ByKind.{item_small, kind_operands, kind_counts, operands_fit}
use Rattle.stepping.proofs.ByKind.{ModalityIn, modality_inside, modality_targets, modality-counts}
use Rattle.stepping.proofs.settle.Goals as goal

pub item_at-item-requires : goal.item_at-item-requires
item_at-item-requires c =
    item_small _ _ _ c.args.tables.now.made _ _ c.requires.inside

pub settle_modality-requires : goal.settle_modality-requires
settle_modality-requires c =
    let modal = eqb-true (formula_code c.item_at-item.result.kind / 2) 2 (sym c.is_modality.ensures ∙ c.if-is_modality.true) in (
      c.requires.unmarked,
      rw (c.model.ensures.words.1, c.model.ensures.words.2) (modality_inside _ _ _ c.args.tables.now.made _ _
          c.requires.inside _ c.item_at-item.ensures.kind _
          (record { state = refl; action = c.item_at-item.ensures.right; operand = c.item_at-item.ensures.left }) modal),
    )

pub returns-then-is_modality : goal.returns-then-is_modality
returns-then-is_modality c =
    let modal = eqb-true (formula_code c.item_at-item.result.kind / 2) 2 (sym c.is_modality.ensures ∙ c.if-is_modality.true) in
    let item = c.item_at-item in
    let modality : Modality = record { state = c.args.popped.pair.state; action = item.result.right; operand = item.result.left } in
    let t = c.args.tables.now.made in
    let kind = c.item_at-item.ensures.kind in
    let of : ModalityIn c.args.tables.now.compiled.now c.args.popped.pair.state c.args.popped.pair.item modality
    = record { state = refl; action = item.ensures.right; operand = item.ensures.left } in
    let keys = modality_targets _ _ _ t _ _ c.requires.inside _ kind modality of modal in
    let counts = modality-counts _ _ _ t _ _ c.requires.inside _ kind modality of modal in
    let words = c.model.ensures.words in
    let x = input_in c.args.tables.now.input in
    rw (
      keys,
      counts,
      ← model_keys c.model.result x words.0 words.1 words.2 modality,
      ← model_counts c.model.result x words.0 words.1 words.2 modality,
    ) c.settle_modality.ensures

pub settle_at_state-requires : goal.settle_at_state-requires
settle_at_state-requires c =
    let t = c.args.tables.now.made in
    let inside = c.requires.inside in
    let other = eqb-false (formula_code c.item_at-item.result.kind / 2) 2 (sym c.is_modality.ensures ∙ c.if-is_modality.false) in
    record {
      ready = c.requires.unmarked.0;
      all_fit = rw (c.item_at-item.ensures.left, c.item_at-item.ensures.right)
          (operands_fit _ _ _ t _ _ inside _ c.item_at-item.ensures.kind (λ h. omega (arith, other)));
    }

pub returns : goal.returns
returns c =
    let t = c.args.tables.now.made in
    let inside = c.requires.inside in
    let other = eqb-false (formula_code c.item_at-item.result.kind / 2) 2 (sym c.is_modality.ensures ∙ c.if-is_modality.false) in
    let state = c.args.popped.pair.state in
    let keys = kind_operands _ _ _ t state _ inside _ c.item_at-item.ensures.kind (λ h. omega (arith, other)) in
    let counts = kind_counts _ _ _ t state _ inside _ c.item_at-item.ensures.kind (λ h. omega (arith, other)) in
    rw (keys, counts, ← c.item_at-item.ensures.left, ← c.item_at-item.ensures.right) c.settle_at_state.ensures
