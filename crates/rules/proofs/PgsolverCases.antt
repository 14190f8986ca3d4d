-- PGSolver text by worked cases (document 02, #101), by computation: games as text, texts as games, and what is
-- refused. The entries E1 to E12 of docs/DECISIONS.md each have one. Lent slices hold nines before. Assumes nothing.
use mathlib.Core.Path.{◌≡◌, refl}
use Prim.Native.Nat.{ℕ}
use Prim.Native.String.{String}
use mathlib.Core.List.{List, [], ◌∷◌, ◌++◌, map}
use lib.ListN.{replicate}
use Rattle.rules.specs.declared.Answer.{Answer}
use Rattle.rules.specs.declared.Answer.TheVariants.{Done, Refused}
use Rattle.rules.specs.Words.{room_of, game_length}
use Rattle.rules.specs.Game.{padded}
use Rattle.rules.specs.Texts.{Written}
use Rattle.rules.specs.PgsolverWriting.{written_game}
use Rattle.rules.specs.PgsolverReading.{Readback, read_game}
use Rattle.rules.proofs.Print.{words, characters}
use Rattle.rules.proofs.Unfold.{every_rule, every_solver_rule}

-- ---- what is said of a case

pub data SolverCase : Type 0 where
  -- game g, written into so many bytes, is this text of so many, with zeros past it
  writes : (g : String) (slice : ℕ) (text : String) (size : ℕ) → SolverCase
  -- the call is refused, and the text slice stays
  writes_not : (g : String) (slice n p : ℕ) → SolverCase
  -- the text, read in room for v vertices and e edges, is game g, with zeros past it
  reads : (v e : ℕ) (text : String) (a : Answer) (g : String) → SolverCase
  -- the same, the text byte by byte
  reads_bytes : (v e : ℕ) (bytes : List ℕ) (a : Answer) (g : String) → SolverCase
  -- the call is refused at place 0, and the game slice stays
  reads_not : (v e : ℕ) (text : String) (n : ℕ) → SolverCase
  -- the same of a game slice of so many words
  reads_not_into : (words v e : ℕ) (text : String) (n : ℕ) → SolverCase

pub data Given : Type 0 where
  text_given : Written → Given
  game_given : Readback → Given

abbrev read_into : (size v e : ℕ) → List ℕ → Given
read_into size v e bytes = game_given (read_game (room_of v e) bytes (replicate size 9))

abbrev given : SolverCase → Given
given (writes g slice text size) = text_given (written_game (words g) (replicate slice 9))
given (writes_not g slice n p) = text_given (written_game (words g) (replicate slice 9))
given (reads v e text a g) = read_into (game_length (room_of v e)) v e (characters text)
given (reads_bytes v e bytes a g) = read_into (game_length (room_of v e)) v e bytes
given (reads_not v e text n) = read_into (game_length (room_of v e)) v e (characters text)
given (reads_not_into size v e text n) = read_into size v e (characters text)

abbrev game : (v e : ℕ) → Answer → String → Given
game v e a g = game_given (record { answer = a; game = padded (game_length (room_of v e)) (words g) })

abbrev untouched : (size n : ℕ) → Given
untouched size n = game_given (record { answer = Refused n 0; game = replicate size 9 })

abbrev expected : SolverCase → Given
expected (writes g slice text size) = text_given (record { answer = Done size 0 0; text = padded slice (characters text) })
expected (writes_not g slice n p) = text_given (record { answer = Refused n p; text = replicate slice 9 })
expected (reads v e text a g) = game v e a g
expected (reads_bytes v e bytes a g) = game v e a g
expected (reads_not v e text n) = untouched (game_length (room_of v e)) n
expected (reads_not_into size v e text n) = untouched size n

abbrev AllSolver : List SolverCase → Type 0
AllSolver cs = map given cs ≡ map expected cs

-- ---- games as text

abbrev case1 : String
case1 = "3 3 0, 0 0 1, 0 0 0, 0 0 0, 0 1 2, 0 1 2 3, 1 2 0, 0 1 0"

-- .. as it is read: "games read from text carry 0" (#102), and "0 in both", state and item (#105)
abbrev case1_read : String
case1_read = "3 3 0, 0 0 1, 0 0 0, 0 0 0, 0 0 0, 0 1 2 3, 1 2 0, 0 0 0"

abbrev text1 : String
text1 = "parity 2;\n0 0 0 1;\n1 0 0 2;\n2 0 1 0;\n"

abbrev written : List SolverCase
written =
    -- case 1, in a slice of just enough bytes, and in a longer one (E1); priority before owner
    writes case1 37 text1 37
    ∷ writes case1 40 text1 37
    ∷ writes "1 1 0, 0, 0, 3, 4, 0 1, 0, 5" 30 "parity 0;\n0 0 0 0;\n" 19
    -- "each once, by first appearance"
    ∷ writes "2 6 0, 0 1, 5 12, 3 6, 4 7, 0 5 6, 1 0 1 0 0 1, 0 0 0 0 0 0" 40 "parity 1;\n0 5 0 1,0;\n1 12 1 1;\n" 31
    ∷ writes "2 4 0, 0 1, 0 7, 3 3, 4 4, 0 2 4, 1 1 1 0, 1 2 3 4" 40 "parity 1;\n0 0 0 1;\n1 7 1 1,0;\n" 30
    -- a game that starts elsewhere (E3)
    ∷ writes "2 2 1, 0 0, 0 0, 3 4, 5 6, 0 1 2, 0 1, 0 0" 30 "parity 1;\n0 0 0 0;\n1 0 0 1;\n" 28
    -- the largest priority
    ∷ writes "1 1 0, 1, 4294967295, 4294967295, 4294967295, 0 1, 0, 4294967295" 30 "parity 0;\n0 4294967295 1 0;\n" 28
    -- a slice that is too short by a byte, and none
    ∷ writes_not case1 36 2 0
    ∷ writes_not case1 0 2 0
    -- 51, 52, 53 with their places, before 98 and 2; a game without states and items (#105) is refused 51
    ∷ writes_not "1 0 0, 0, 0, 3, 4, 0 0, 0" 0 51 0
    ∷ writes_not "1 1 0, 0, 0, 0 1, 0, 0" 30 51 0
    ∷ writes_not "1 0 0, 2, 0, 3, 4, 0 1" 0 52 8
    ∷ writes_not "1 0 0, 2, 0, 3, 4, 0 0" 0 53 3
    -- 98 at place 0 (E2), before 2; the first vertex, the last one
    ∷ writes_not "2 1 0, 1 1, 0 0, 3 5, 4 6, 0 1 1, 1, 0" 0 98 0
    ∷ writes_not "2 1 0, 1 1, 0 0, 3 5, 4 6, 0 1 1, 1, 0" 40 98 0
    ∷ writes_not "2 1 0, 1 1, 0 0, 3 5, 4 6, 0 0 1, 1, 0" 40 98 0
    ∷ []

pub written_cases : AllSolver written
unfolding every_rule every_solver_rule
written_cases = refl

-- ---- texts as games

abbrev read : List SolverCase
read =
    -- case 1; its lines in another order
    reads 3 3 text1 (Done 3 3 3) case1_read
    ∷ reads 4 5 "parity 2;\n2 0 1 0;\n0 0 0 1;\n1 0 0 2;\n" (Done 3 3 3) case1_read
    -- priority before owner; the largest priority
    ∷ reads 1 1 "parity 0;\n0 4294967295 1 0;\n" (Done 1 1 1) "1 1 0, 1, 4294967295, 0, 0, 0 1, 0, 0"
    ∷ reads 1 1 "parity 0;\n0 13568 1 0;\n" (Done 1 1 1) "1 1 0, 1, 13568, 0, 0, 0 1, 0, 0"
    -- "a repeated successor kept once", where it first stands; room for the edges that are kept (E8)
    ∷ reads 2 3 "parity 1;\n1 0 0 1,0,1,1;\n0 3 1 0,0;\n" (Done 2 2 3) "2 3 0, 1 0, 3 0, 0 0, 0 0, 0 1 3, 0 1 0, 0 0 0"
    -- names: none, an empty one (E5), one with commas and semicolons (E12), one with bytes that are no characters
    ∷ reads 1 1 "parity 0;\n0 0 0 0 \"\";\n" (Done 1 1 1) "1 1 0, 0, 0, 0, 0, 0 1, 0, 0"
    ∷ reads 1 1 "parity 0;\n0 0 0 0 \"a;b, 1 2\";\n" (Done 1 1 1) "1 1 0, 0, 0, 0, 0, 0 1, 0, 0"
    ∷ reads_bytes 1 1 (characters "parity 0;\n0 0 0 0 \"" ++ (0 ∷ 255 ∷ (characters "\";\n"))) (Done 1 1 1) "1 1 0, 0, 0, 0, 0, 0 1, 0, 0"
    ∷ []

pub read_cases : AllSolver read
unfolding every_rule every_solver_rule
read_cases = refl

-- ---- refused in reading

abbrev formless : List SolverCase
formless =
    -- no header, a header alone in part, `start` lines (E10), nothing
    reads_not 1 1 "0 0 0 0;\n" 91
    ∷ reads_not 1 1 "" 91
    ∷ reads_not 1 1 "parity 0;" 91
    ∷ reads_not 1 1 "parity 0\n0 0 0 0;\n" 91
    ∷ reads_not 1 1 "parity;\n0 0 0 0;\n" 91
    ∷ reads_not 1 1 "Parity 0;\n0 0 0 0;\n" 91
    ∷ reads_not 1 1 "parity 0;\nstart 0;\n0 0 0 0;\n" 91
    -- no owner but 0 and 1 (E11), no successor
    ∷ reads_not 1 1 "parity 0;\n0 0 2 0;\n" 91
    ∷ reads_not 1 1 "parity 0;\n0 0 0 ;\n" 91
    ∷ reads_not 1 1 "parity 0;\n0 0 0;\n" 91
    ∷ reads_not 1 1 "parity 0;\n0 0 0 0,;\n" 91
    -- "numbers are decimal without leading zeros"
    ∷ reads_not 1 1 "parity 00;\n0 0 0 0;\n" 91
    ∷ reads_not 1 1 "parity 0;\n0 01 0 0;\n" 91
    ∷ reads_not 1 1 "parity 0;\n0 0 0 00;\n" 91
    ∷ reads_not 1 1 "parity 0;\n0 +1 0 0;\n" 91
    ∷ reads_not 1 1 "parity 0;\n0 / 0 0;\n" 91
    ∷ reads_not 1 1 "parity 0;\n0 : 0 0;\n" 91
    -- "single spaces", none in the list of successors (E6)
    ∷ reads_not 1 1 "parity  0;\n0 0 0 0;\n" 91
    ∷ reads_not 1 1 "parity 0;\n0  0 0 0;\n" 91
    ∷ reads_not 1 1 "parity 0;\n 0 0 0 0;\n" 91
    ∷ reads_not 1 1 "parity 0;\n0 0 0 0 ;\n" 91
    ∷ reads_not 1 1 "parity 0;\n0 0 0 0, 0;\n" 91
    ∷ reads_not 1 1 "parity 0;\n0\t0 0 0;\n" 91
    -- names without a space before, with one behind (E5), unfinished, with a quote or a newline
    ∷ reads_not 1 1 "parity 0;\n0 0 0 0\"\";\n" 91
    ∷ reads_not 1 1 "parity 0;\n0 0 0 0 \"\" ;\n" 91
    ∷ reads_not 1 1 "parity 0;\n0 0 0 0 \"a;\n" 91
    ∷ reads_not 1 1 "parity 0;\n0 0 0 0 \"a\"b\";\n" 91
    ∷ reads_not 1 1 "parity 0;\n0 0 0 0 \"a\nb\";\n" 91
    -- "a newline ends each line": the last one too, no other line end, no blank line, nothing behind (E4)
    ∷ reads_not 1 1 "parity 0;\n0 0 0 0;" 91
    ∷ reads_not 1 1 "parity 0;\r\n0 0 0 0;\r\n" 91
    ∷ reads_not 1 1 "parity 0;\n\n0 0 0 0;\n" 91
    ∷ reads_not 1 1 "parity 0;\n0 0 0 0;\n\n" 91
    ∷ reads_not 1 1 "parity 0;\n0 0 0 0; \n" 91
    -- also where 92 and 93 would follow
    ∷ reads_not 1 1 "parity 7;\n0 4294967296 0 9;\n0 0 0 0" 91
    ∷ []

pub formless_cases : AllSolver formless
unfolding every_rule every_solver_rule
formless_cases = refl

abbrev misnumbered : List SolverCase
misnumbered =
    -- a vertex missing, all of them, given twice; too many vertices for the highest
    reads_not 4 4 "parity 1;\n0 0 0 0;\n" 92
    ∷ reads_not 4 4 "parity 0;\n" 92
    ∷ reads_not 4 4 "parity 1;\n0 0 0 0;\n0 0 0 0;\n" 92
    ∷ reads_not 4 4 "parity 1;\n0 0 0 0;\n1 0 0 0;\n1 0 0 0;\n" 92
    ∷ reads_not 4 4 "parity 0;\n0 0 0 0;\n1 0 0 0;\n" 92
    -- above the highest, as a vertex and as a successor; the highest itself is not
    ∷ reads_not 4 4 "parity 1;\n0 0 0 0;\n2 0 0 0;\n" 92
    ∷ reads_not 4 4 "parity 1;\n0 0 0 1,2;\n1 0 0 0;\n" 92
    ∷ reads 2 2 "parity 1;\n0 0 0 1;\n1 0 0 1;\n" (Done 2 2 2) "2 2 0, 0 0, 0 0, 0 0, 0 0, 0 1 2, 1 1, 0 0"
    -- numbers beyond 32 and beyond 64 bits (E7)
    ∷ reads_not 4 4 "parity 0;\n0 0 0 4294967296;\n" 92
    ∷ reads_not 4 4 "parity 0;\n18446744073709551616 0 0 0;\n" 92
    ∷ reads_not 4 4 "parity 18446744073709551616;\n0 0 0 0;\n" 92
    -- before 93: a missing vertex (E9), a priority
    ∷ reads_not 4 4 "parity 9;\n0 0 0 0;\n" 92
    ∷ reads_not 4 4 "parity 1;\n0 4294967296 0 0;\n" 92
    ∷ []

pub misnumbered_cases : AllSolver misnumbered
unfolding every_rule every_solver_rule
misnumbered_cases = refl

abbrev beyond : List SolverCase
beyond =
    -- a vertex too many, an edge too many, of those that are kept (E8)
    reads_not 1 9 "parity 1;\n0 0 0 0;\n1 0 0 0;\n" 93
    ∷ reads_not 2 2 "parity 1;\n0 0 0 0,1;\n1 0 0 0;\n" 93
    ∷ reads 2 3 "parity 1;\n0 0 0 0,1;\n1 0 0 0;\n" (Done 2 2 3) "2 3 0, 0 0, 0 0, 0 0, 0 0, 0 2 3, 0 1 0, 0 0 0"
    ∷ reads 1 1 "parity 0;\n0 0 0 0,0,0,0,0;\n" (Done 1 1 1) "1 1 0, 0, 0, 0, 0, 0 1, 0, 0"
    -- a priority beyond 32 bits, and beyond 64
    ∷ reads_not 1 1 "parity 0;\n0 4294967296 0 0;\n" 93
    ∷ reads_not 1 1 "parity 0;\n0 18446744073709551616 0 0;\n" 93
    -- "after 1 and 2"
    ∷ reads_not_into 6 0 1 "" 1
    ∷ reads_not_into 9 1 0 "" 1
    ∷ reads_not_into 0 1048577 1 "" 1
    ∷ reads_not_into 0 1 4194305 "" 1
    ∷ reads_not_into 10 1 1 text1 2
    ∷ reads_not_into 12 1 1 "" 2
    ∷ reads_not_into 9 1 1 "parity 0;\n0 0 0 0;\n" 2
    ∷ []

pub beyond_cases : AllSolver beyond
unfolding every_rule every_solver_rule
beyond_cases = refl
