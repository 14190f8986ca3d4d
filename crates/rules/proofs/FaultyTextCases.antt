-- The refusals of the calls on PGSolver text as relations (specs/FaultyText) at the edges of their conditions: a
-- witness for each clause, of what is just wrong, with its number and its place; and the order of the numbers. That
-- nothing else is refused is theorem `reading_exact` with the worked cases. Assumes nothing.
use mathlib.Core.Path.{◌≡◌, refl, sym, subst}
use mathlib.Core.List.{List, [], ◌∷◌}
use mathlib.Core.Logic.{inl, inr}
use mathlib.Core.Option.{none, some}
use Prim.Native.Nat.{ℕ, ◌<◌}
use native.Mathlib.Omega.{arith}
use lib.Dec.{lit<, lit≤}
use borrow.Author.Tests.{eqb-false}
use Rattle.rules.specs.Lists.{In, position}
use Rattle.rules.specs.Words.{room_of}
use Rattle.rules.specs.Faulty.{many_vertices, wrong_game}
use Rattle.rules.specs.FaultyGame.{owner_too_large}
use Rattle.rules.specs.Pgsolver.{SolverLine, SolverText, ProperLine, HasForm}
use Rattle.rules.specs.FaultyText.{FaultyWriting, no_game, no_successor, short_text, writing_turn}
use Rattle.rules.specs.FaultyText.{FaultyReading, no_room, missing, given_twice, vertex_above, successor_above}
use Rattle.rules.specs.FaultyText.{vertices_beyond, edges_beyond, priority_beyond}
use Rattle.rules.proofs.Print.{words, characters}
use Rattle.rules.proofs.Unfold.{every_rule, every_solver_rule}

-- ---- writing

pub writing_faults : FaultyWriting (words "1 0 0, 2, 0, 3, 4, 0 0") 0 53 3
    × FaultyWriting (words "2 1 0, 1 1, 0 0, 3 5, 4 6, 0 1 1, 1, 0") 99 98 0
    × FaultyWriting (words "1 1 0, 0, 0, 3, 4, 0 1, 0, 0") 18 2 0
unfolding every_rule every_solver_rule
writing_faults = (
  no_game (owner_too_large 0 (lit< tt) (lit< tt)),
  no_successor 1 (lit< tt) refl,
  short_text (lit< tt),
)

-- 51, 52, 53, then 98, then 2
pub writing_order : (writing_turn 51 < writing_turn 52) × (writing_turn 52 < writing_turn 53)
    × (writing_turn 53 < writing_turn 98) × (writing_turn 98 < writing_turn 2)
unfolding writing_turn position
writing_order = (lit< tt, lit< tt, lit< tt, lit< tt)

-- ---- reading: texts that say this

-- a line of Even without a name
abbrev even_line : (number priority : ℕ) → List ℕ → SolverLine
even_line v p ss = record { number = v; priority = p; owner = 0; successors = ss; name = none }

-- it may be said, if it has a successor
even_proper : (v p s : ℕ) (ss : List ℕ) → ProperLine (even_line v p (s ∷ ss))
even_proper v p s ss = record { owned = omega arith; leads = omega arith; plain = tt }

abbrev says : ℕ → List SolverLine → SolverText
says h ls = record { highest = h; lines = ls }

abbrev line0 : SolverLine
line0 = even_line 0 0 (0 ∷ [])

abbrev line1 : SolverLine
line1 = even_line 1 0 (2 ∷ [])

abbrev ranked : SolverLine
ranked = even_line 0 4_294_967_296 (0 ∷ 0 ∷ [])

one_line : (v p s : ℕ) (ss : List ℕ) (l : SolverLine) → In l (even_line v p (s ∷ ss) ∷ []) → ProperLine l
one_line v p s ss l (inl e) = subst ProperLine (sym e) (even_proper v p s ss)
one_line v p s ss l (inr x') = elim x' [ ]

pub one_says : HasForm (characters "parity 0;\n0 0 0 0;\n") (says 0 (line0 ∷ []))
unfolding every_rule every_solver_rule
one_says = record { spelling = refl; proper = one_line 0 0 0 [] }

pub short_says : HasForm (characters "parity 1;\n0 0 0 0;\n") (says 1 (line0 ∷ []))
unfolding every_rule every_solver_rule
short_says = record { spelling = refl; proper = one_line 0 0 0 [] }

pub above_says : HasForm (characters "parity 0;\n1 0 0 2;\n") (says 0 (line1 ∷ []))
unfolding every_rule every_solver_rule
above_says = record { spelling = refl; proper = one_line 1 0 2 [] }

pub ranked_says : HasForm (characters "parity 0;\n0 4294967296 0 0,0;\n") (says 0 (ranked ∷ []))
unfolding every_rule every_solver_rule
ranked_says = record { spelling = refl; proper = one_line 0 4_294_967_296 0 (0 ∷ []) }

pub twice_says : HasForm (characters "parity 1;\n0 0 0 0;\n0 0 0 0;\n") (says 1 (line0 ∷ line0 ∷ []))
unfolding every_rule every_solver_rule
twice_says = record { spelling = refl; proper = either }
  where
    either : (l : SolverLine) → In l (line0 ∷ line0 ∷ []) → ProperLine l
    either l (inl e) = subst ProperLine (sym e) (even_proper 0 0 0 [])
    either l (inr m) = one_line 0 0 0 [] l m

-- a name behind the successors, in double quotes, a space before it
abbrev named : SolverLine
named = record { number = 0; priority = 0; owner = 1; successors = 0 ∷ []; name = some (59 ∷ []) }

pub named_says : HasForm (characters "parity 0;\n0 0 1 0 \";\";\n") (says 0 (named ∷ []))
unfolding every_rule every_solver_rule
named_says = record { spelling = refl; proper = alone }
  where
    other : (c : ℕ) → ¬ (◌≡◌ {A = ℕ} c 59) → ¬ In c (59 ∷ [])
    other c d (inl e) = d e
    other c d (inr x') = elim x' [ ]

    plain : ProperLine named
    plain =
        record {
          owned = omega arith;
          leads = omega arith;
          plain = (other 34 (eqb-false _ _ refl), other 10 (eqb-false _ _ refl));
        }

    alone : (l : SolverLine) → In l (named ∷ []) → ProperLine l
    alone l (inl e) = subst ProperLine (sym e) plain
    alone l (inr x') = elim x' [ ]

-- ---- and what is wrong with them

zero_alone : ¬ In {A = ℕ} 1 (0 ∷ [])
zero_alone (inl e) = let z : ◌≡◌ {A = ℕ} 1 0 = e in omega arith
zero_alone (inr x') = elim x' [ ]

pub reading_faults : FaultyReading (room_of 1048577 1) [] 0 1 0
    × FaultyReading (room_of 1 1) [] 12 2 0
    × FaultyReading (room_of 4 4) (characters "parity 1;\n0 0 0 0;\n") 32 92 0
    × FaultyReading (room_of 4 4) (characters "parity 1;\n0 0 0 0;\n0 0 0 0;\n") 32 92 0
    × FaultyReading (room_of 4 4) (characters "parity 0;\n1 0 0 2;\n") 32 92 0
    × FaultyReading (room_of 4 4) (characters "parity 0;\n1 0 0 2;\n") 32 92 0
    × FaultyReading (room_of 1 4) (characters "parity 1;\n0 0 0 0;\n") 17 93 0
    × FaultyReading (room_of 4 0) (characters "parity 0;\n0 0 0 0;\n") 24 93 0
    × FaultyReading (room_of 4 4) (characters "parity 0;\n0 4294967296 0 0,0;\n") 32 93 0
unfolding every_rule every_solver_rule
reading_faults = (
  no_room (many_vertices (lit< tt)),
  no_room (wrong_game (eqb-false _ _ refl)),
  missing _ short_says 1 (lit≤ tt) zero_alone,
  given_twice _ twice_says (λ d. d.0 (inl refl)),
  vertex_above _ above_says line1 (inl refl) (lit< tt),
  successor_above _ above_says line1 (inl refl) 2 (inl refl) (lit< tt),
  vertices_beyond _ short_says (lit≤ tt),
  edges_beyond _ one_says (lit< tt),
  priority_beyond _ ranked_says ranked (inl refl) (lit< tt),
)
