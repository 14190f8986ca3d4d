-- The refusals of the restriction as a relation (specs/FaultyGame) at the edges of its conditions: a witness for each
-- clause, of what is just wrong, with its number and its place; a game that is just right, of which no clause holds;
-- and the order of the numbers. Assumes nothing.
use mathlib.Core.Path.{◌≡◌, refl}
use mathlib.Core.List.{List, [], ◌∷◌}
use Prim.Native.Nat.{ℕ, zero, suc, ◌≤◌, ◌<◌}
use native.Mathlib.Omega.{arith}
use lib.Dec.{lit<, lit≤}
use borrow.Author.Tests.{eqb-false}
use Rattle.rules.specs.Lists.{position}
use Rattle.rules.specs.FaultyGame.{FaultyGame, FaultyRestriction, faulty_game, few_game_words, wrong_game_words, no_vertex, vertices_above_room}
use Rattle.rules.specs.FaultyGame.{edges_above_room, offsets_begin, offset_falls, offsets_end, initial_too_large}
use Rattle.rules.specs.FaultyGame.{owner_too_large, target_too_large, wrong_out, wrong_map, wrong_work, restriction_turn}

pub game_faults : FaultyGame (1 ∷ 0 ∷ []) 51 0
    × FaultyGame (1 ∷ 1 ∷ 0 ∷ 0 ∷ 0 ∷ 3 ∷ 4 ∷ 0 ∷ 1 ∷ 0 ∷ 0 ∷ 0 ∷ []) 51 0
    × FaultyGame (1 ∷ 1 ∷ 0 ∷ 0 ∷ 0 ∷ 3 ∷ 4 ∷ 0 ∷ 1 ∷ 0 ∷ []) 51 0
    × FaultyGame (1 ∷ 1 ∷ 0 ∷ 0 ∷ 0 ∷ 0 ∷ 1 ∷ 0 ∷ 0 ∷ []) 51 0
    × FaultyGame (0 ∷ 0 ∷ 0 ∷ 0 ∷ []) 51 0
    × FaultyGame (1048577 ∷ 0 ∷ 0 ∷ []) 51 0
    × FaultyGame (1 ∷ 4194305 ∷ 0 ∷ []) 51 0
    × FaultyGame (1 ∷ 1 ∷ 0 ∷ 0 ∷ 0 ∷ 3 ∷ 4 ∷ 1 ∷ 1 ∷ 0 ∷ 0 ∷ []) 52 7
    × FaultyGame (2 ∷ 2 ∷ 0 ∷ 0 ∷ 0 ∷ 0 ∷ 0 ∷ 3 ∷ 5 ∷ 4 ∷ 6 ∷ 0 ∷ 5 ∷ 2 ∷ 0 ∷ 0 ∷ 0 ∷ 0 ∷ []) 52 13
    × FaultyGame (1 ∷ 1 ∷ 0 ∷ 0 ∷ 0 ∷ 3 ∷ 4 ∷ 0 ∷ 0 ∷ 0 ∷ 0 ∷ []) 52 8
    × FaultyGame (1 ∷ 1 ∷ 1 ∷ 0 ∷ 0 ∷ 3 ∷ 4 ∷ 0 ∷ 1 ∷ 0 ∷ 0 ∷ []) 53 2
    × FaultyGame (1 ∷ 0 ∷ 0 ∷ 2 ∷ 0 ∷ 3 ∷ 4 ∷ 0 ∷ 0 ∷ []) 53 3
    × FaultyGame (1 ∷ 1 ∷ 0 ∷ 0 ∷ 0 ∷ 3 ∷ 4 ∷ 0 ∷ 1 ∷ 1 ∷ 0 ∷ []) 53 9
    × FaultyRestriction (1 ∷ 0 ∷ 0 ∷ 1 ∷ 0 ∷ 3 ∷ 4 ∷ 0 ∷ 0 ∷ []) 8 1 1 2 0
    × FaultyRestriction (1 ∷ 0 ∷ 0 ∷ 1 ∷ 0 ∷ 3 ∷ 4 ∷ 0 ∷ 0 ∷ []) 10 1 1 2 0
    × FaultyRestriction (1 ∷ 0 ∷ 0 ∷ 1 ∷ 0 ∷ 3 ∷ 4 ∷ 0 ∷ 0 ∷ []) 9 0 1 2 0
    × FaultyRestriction (1 ∷ 0 ∷ 0 ∷ 1 ∷ 0 ∷ 3 ∷ 4 ∷ 0 ∷ 0 ∷ []) 9 2 1 2 0
    × FaultyRestriction (1 ∷ 0 ∷ 0 ∷ 1 ∷ 0 ∷ 3 ∷ 4 ∷ 0 ∷ 0 ∷ []) 9 1 0 2 0
    × FaultyRestriction (1 ∷ 0 ∷ 0 ∷ 1 ∷ 0 ∷ 3 ∷ 4 ∷ 0 ∷ 0 ∷ []) 9 1 2 2 0
game_faults = (
  few_game_words (lit< tt),
  wrong_game_words (eqb-false _ _ refl),
  wrong_game_words (eqb-false _ _ refl),
  wrong_game_words (eqb-false _ _ refl),
  no_vertex refl,
  vertices_above_room (lit< tt),
  edges_above_room (lit< tt),
  offsets_begin (eqb-false _ _ refl),
  offset_falls 1 (lit< tt) (lit< tt),
  offsets_end (eqb-false _ _ refl),
  initial_too_large (lit≤ tt),
  owner_too_large 0 (lit< tt) (lit< tt),
  target_too_large 0 (lit< tt) (lit≤ tt),
  wrong_out (eqb-false _ _ refl),
  wrong_out (eqb-false _ _ refl),
  wrong_map (eqb-false _ _ refl),
  wrong_map (eqb-false _ _ refl),
  wrong_work (eqb-false _ _ refl),
  wrong_work (eqb-false _ _ refl),
)

-- one vertex, of Odd, with an edge to itself, whatever its state, its item and the edge's count
abbrev loop : List ℕ
loop = 1 ∷ 1 ∷ 0 ∷ 1 ∷ 0 ∷ 3 ∷ 4 ∷ 0 ∷ 1 ∷ 0 ∷ 7 ∷ []

pub no_game_fault : (n p : ℕ) → ¬ FaultyGame loop n p
no_game_fault n p (few_game_words l) = let k : 11 < 3 = l in omega arith
no_game_fault n p (wrong_game_words d) = d refl
no_game_fault n p (no_vertex e) = let k : ◌≡◌ {A = ℕ} 1 0 = e in omega arith
no_game_fault n p (vertices_above_room l) = let k : 1_048_576 < 1 = l in omega arith
no_game_fault n p (edges_above_room l) = let k : 4_194_304 < 1 = l in omega arith
no_game_fault n p (offsets_begin d) = d refl
no_game_fault n p (offset_falls zero h l) = let k : 1 < 0 = l in omega arith
no_game_fault n p (offset_falls (suc v) h l) = let k : suc v < 1 = h in omega arith
no_game_fault n p (offsets_end d) = d refl
no_game_fault n p (initial_too_large l) = let k : 1 ≤ 0 = l in omega arith
no_game_fault n p (owner_too_large zero h l) = let k : 1 < 1 = l in omega arith
no_game_fault n p (owner_too_large (suc v) h l) = let k : suc v < 1 = h in omega arith
no_game_fault n p (target_too_large zero h l) = let k : 1 ≤ 0 = l in omega arith
no_game_fault n p (target_too_large (suc e) h l) = let k : suc e < 1 = h in omega arith

pub no_restriction_fault : (n p : ℕ) → ¬ FaultyRestriction loop 11 1 1 n p
no_restriction_fault n p (faulty_game f) = no_game_fault n p f
no_restriction_fault n p (wrong_out d) = d refl
no_restriction_fault n p (wrong_map d) = d refl
no_restriction_fault n p (wrong_work d) = d refl

-- 51, 52, 53, then 2
pub game_order : (restriction_turn 51 < restriction_turn 52) × (restriction_turn 52 < restriction_turn 53) × (restriction_turn 53 < restriction_turn 2)
unfolding restriction_turn position
game_order = (lit< tt, lit< tt, lit< tt)
