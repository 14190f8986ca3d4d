-- `moves_of` meets its contract: the state's transitions are the system's. Assumes nothing.
use mathlib.Core.Path.{refl}
use native.Mathlib.Omega.{arith}
use Rattle.modalities.proofs.Reading.{state_inside, labels_length, targets_length, read_within, read_below, read_moves}
use Rattle.modalities.proofs.moves_of.Goals as goal

pub overflow_add-end : goal.overflow_add-end
overflow_add-end c =
    let good = c.args.tables.now.made.system in
    let inside = state_inside _ _ good _ c.requires _ _ c.first_transition-first.ensures c.at.ensures.0 in
    omega (arith, inside, good.moves)

pub offset_bounds-labels-first : goal.offset_bounds-labels-first
offset_bounds-labels-first c =
    let good = c.args.tables.now.made.system in
    let inside = state_inside _ _ good _ c.requires _ _ c.first_transition-first.ensures c.at.ensures.0 in
    omega (arith, inside, good.moves)

pub offset_bounds-targets-first : goal.offset_bounds-targets-first
offset_bounds-targets-first c =
    let good = c.args.tables.now.made.system in
    let inside = state_inside _ _ good _ c.requires _ _ c.first_transition-first.ensures c.at.ensures.0 in
    omega (arith, inside, good.moves)

pub slice_bounds-result-end : goal.slice_bounds-result-end
slice_bounds-result-end c =
    let good = c.args.tables.now.made.system in
    let inside = state_inside _ _ good _ c.requires _ _ c.first_transition-first.ensures c.at.ensures.0 in
    let long = labels_length _ _ good _ c.requires _ _ c.first_transition-first.ensures c.at.ensures.0 _ _ c.split_at.result.1.now _ _
    c.at-2.ensures.0 c.at-3.ensures.0 refl c.split_at.ensures.front c.split_at.ensures.back in
    omega (arith, inside, long)

pub slice_bounds-result-end-2 : goal.slice_bounds-result-end-2
slice_bounds-result-end-2 c =
    let good = c.args.tables.now.made.system in
    let inside = state_inside _ _ good _ c.requires _ _ c.first_transition-first.ensures c.at.ensures.0 in
    let long = targets_length _ _ good _ c.requires _ _ c.first_transition-first.ensures c.at.ensures.0 _ _ _ _ _
    c.at-2.ensures.0 c.at-3.ensures.0 refl c.split_at.ensures.front c.split_at.ensures.back in
    omega (arith, inside, long)

pub invariant_of-result : goal.invariant_of-result
invariant_of-result c =
    record {
      within =
          read_within _ _ c.args.tables.now.made.system _ c.requires _ _ c.first_transition-first.ensures c.at.ensures.0 _ _ _ _ _
          c.at-2.ensures.0 c.at-3.ensures.0 refl c.split_at.ensures.front c.split_at.ensures.back;
    }

pub returns-clause-labels : goal.returns-clause-labels
returns-clause-labels c =
    read_below _ _ c.args.tables.now.made.system _ c.requires _ _ c.first_transition-first.ensures c.at.ensures.0 _ _ _ _ _
    c.at-2.ensures.0 c.at-3.ensures.0 refl c.split_at.ensures.front c.split_at.ensures.back

pub returns-clause-of_state : goal.returns-clause-of_state
returns-clause-of_state c =
    record {
      states = refl;
      moves =
          read_moves _ _ c.args.tables.now.made.system _ c.requires _ _ c.first_transition-first.ensures c.at.ensures.0 _ _ _ _ _
          c.at-2.ensures.0 c.at-3.ensures.0 refl c.split_at.ensures.front c.split_at.ensures.back;
    }
