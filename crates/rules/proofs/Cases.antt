-- Document 01, "Small games to check by": the cases marked * as one list with a theorem of its own, and beside it lists
-- of other cases, which tell the rules from wrong ones (each edit of specs/ in rules/must-fail is a wrong rule that a
-- case, or a theorem of FaultCases, refuses). A theorem says that the rules give what is said of each case of its list,
-- and is proved by computation. Inputs, games and texts are quoted as 01 prints them, each game with the states and the
-- items of its vertices behind its priorities, and the counts of its edges behind its targets (document 02, #102 and
-- #105: "01's expected games grow by these"). Assumes nothing.
use mathlib.Core.Path.{◌≡◌, refl}
use Prim.Native.Nat.{ℕ}
use Prim.Native.String.{String, ◌++◌ as ◌and◌}
use mathlib.Core.Bool.{Bool, true, false}
use mathlib.Core.List.{List, [], ◌∷◌, ◌++◌, map}
use mathlib.Core.Option.{Option, some}
use lib.ListN.{length, replicate}
use Rattle.rules.specs.declared.Answer.{Answer}
use Rattle.rules.specs.declared.Answer.TheVariants.{Done, Cut, Refused}
use Rattle.rules.specs.Answers.{Check}
use Rattle.std.specs.declared.result.Result.TheVariants.{Ok}
use Rattle.rules.specs.Answers.{fault}
use Rattle.rules.specs.Lists.{from}
use Rattle.rules.specs.declared.Room.{Room}
use Rattle.rules.specs.Words.{Input, input_of, room_of, game_length, work_length}
use Rattle.rules.specs.Formula.{equation_count}
use Rattle.rules.specs.Depth.{depth, by_depth}
use Rattle.rules.specs.Items.{items}
use Rattle.rules.specs.Reach.{N}
use Rattle.rules.specs.Game.{padded, vertex_count, pairs_in}
use Rattle.rules.specs.Refusal.{refusal1, refusal2, refusal11, refusal12, refusal13, refusal21, refusal22}
use Rattle.rules.specs.Refusal.{refusal23, refusal25, refusal26, refusal31, refusal32, refusal33, refusal41}
use Rattle.rules.specs.Refusal.{refusal42, refusal43, refusal}
use Rattle.rules.specs.GameRefusal.{above_room, game_refusal}
use Rattle.rules.specs.Restrict.{Restricted, restriction_refusal, restriction}
use Rattle.rules.specs.Program.{words_of, printed}
use Rattle.rules.specs.Run.{Outcome, run}
use Rattle.rules.proofs.Print.{words, characters, four_bytes}
use Rattle.rules.proofs.Unfold.{every_rule}

-- ---- inputs

-- a formula on a loop: "Label 0 is action 7; state 0 is the only state; a "loop" is on label 0. Action words are
-- 1, 2, 0"
abbrev pub looping : String → Input
looping f = input_of (words "1 1, 0, 7") (words "1 1 0, 1, 0, 0") (words "1, 2, 0") (words f)

-- the same with another system, other labels or other action formulas
abbrev pub moving : String → String → Input
moving ss f = input_of (words "1 1, 0, 7") (words ss) (words "1, 2, 0") (words f)

abbrev pub labelled : String → String → Input
labelled ls f = input_of (words ls) (words "1 1 0, 1, 0, 0") (words "1, 2, 0") (words f)

abbrev pub acting : String → String → Input
acting acts f = input_of (words "1 1, 0, 7") (words "1 1 0, 1, 0, 0") (words acts) (words f)

-- labels, system, action formulas and formula
abbrev pub input : String → String → String → String → Input
input ls ss acts f = input_of (words ls) (words ss) (words acts) (words f)

-- no transition
abbrev pub stuck : String → Input
stuck f = moving "1 0 0, 0" f

-- three states, three labels, every kind of action formula
abbrev pub three_states : Input
three_states =
    input "3 4, 0 1 2 2, 7 8 7 8" "3 6 0, 3 2 1, 0 1 2 1 0 2, 0 1 2 2 0 1"
    "11; 3 2 2 5 2 4 5 2 5 2 0; 2 0 1 0 0 8 0 0 0 2 0" "9; 2 5 4 1 3 5 0 4 1; 4 0 3 0 7 5 0 10 0"

-- three states, from the initial one of which label 0 leads to both others; diamond of (true and false)
abbrev pub branching : Input
branching = input "1 1, 0, 7" "3 2 1, 0 2 0, 0 0, 0 2" "1, 2, 0" "4; 5 2 0 1; 0 3 0 0"

abbrev pub formula1 : String
formula1 = "3; 7 5 8; 0 0 0"

abbrev pub game1 : String
game1 = "3 3 0, 0 0 1, 0 0 0, 0 0 0, 0 1 2, 0 1 2 3, 1 2 0, 0 1 0"

abbrev pub formula5 : String
formula5 = "6; 3 5 0 2 1 0; 3 0 0 5 0 0"

abbrev pub game5 : String
game5 = "6 8 0, 1 0 0 1 0 1, 1 0 0 0 1 0, 0 0 0 0 0 0, 0 1 2 4 5 3, 0 1 3 4 6 7 8, 1 2 3 5 4 5 4 5, 0 0 0 1 0 0 0 0"

-- ---- what is said of a case

pub data Case : Type 0 where
  -- the run on x in room r with limit k answers a and leaves the game g, with zeros past it, and a work slice of zeros
  runs : (x : Input) (r : Room) (k : ℕ) (a : Answer) (g : String) → Case
  -- the run on x in room r is refused, by number n and place p, and leaves both slices as they were
  refuses_in : (r : Room) (x : Input) (n p : ℕ) → Case
  -- the equations of x have these depths and priorities
  ranks : (x : Input) (depths priorities : String) → Case
  -- equation i of x has depth d
  deep : (x : Input) (i d : ℕ) → Case
  -- n pairs of x are reachable
  reaches : (x : Input) (n : ℕ) → Case
  -- x has n items
  counts : (x : Input) (n : ℕ) → Case
  -- a single check, a single test gives this
  checks : (check gives : Check) → Case
  tests : (test gives : Bool) → Case
  -- the restriction of g answers a and leaves the game h, with zeros past it, the map ns and a work slice of zeros
  restricts : (g : String) (a : Answer) (h ns : String) → Case
  -- the thin program reads these bytes as these words; if it reads these bytes, it writes this text
  reads : (bytes ws : String) → Case
  prints : (bytes : List ℕ) (text : String) → Case

-- the same in room for 6 vertices and 8 edges
abbrev pub refuses : Input → (n p : ℕ) → Case
refuses x n p = refuses_in (room_of 6 8) x n p

-- what the rules give, and what a case says that they give
pub data Given : Type 0 where
  run_gives : Outcome → Given
  restriction_gives : Restricted → Given
  words_given : List ℕ → Given
  ranks_given : (depths priorities : List ℕ) → Given
  words_read : Option (List ℕ) → Given
  check_gives : Check → Given
  test_gives : Bool → Given

-- the slices are lent with a 9 in each word
abbrev nines : ℕ → List ℕ
nines n = replicate n 9

abbrev pub equation_numbers : Input → List ℕ
equation_numbers x = from 0 (equation_count x.formula)

abbrev pub given : Case → Given
given (runs x r k a g) = run_gives (run by_depth x r k (nines (game_length r)) (nines (work_length r)))
given (refuses_in r x n p) = run_gives (run by_depth x r 512 (nines (game_length r)) (nines (work_length r)))
given (ranks x ds ps) = ranks_given (map (depth x) (equation_numbers x)) (map (by_depth x) (equation_numbers x))
given (deep x i d) = words_given (depth x i ∷ [])
given (reaches x n) = words_given (N x ∷ [])
given (counts x n) = words_given (length (items x) ∷ [])
given (checks c d) = check_gives c
given (tests b c) = test_gives b
given (restricts g a h ns) =
    let n = nines (vertex_count (words g)) in restriction_gives (restriction (words g) (nines (length (words g))) n n)
given (reads bytes ws) = words_read (words_of (words bytes))
given (prints bytes text) = words_given (printed bytes)

abbrev pub expected : Case → Given
expected (runs x r k a g) =
    run_gives (record { answer = a; game = padded (game_length r) (words g); work = replicate (work_length r) 0 })
expected (refuses_in r x n p) =
    run_gives (record { answer = Refused n p; game = nines (game_length r); work = nines (work_length r) })
expected (ranks x ds ps) = ranks_given (words ds) (words ps)
expected (deep x i d) = words_given (d ∷ [])
expected (reaches x n) = words_given (n ∷ [])
expected (counts x n) = words_given (n ∷ [])
expected (checks c d) = check_gives d
expected (tests b c) = test_gives c
expected (restricts g a h ns) =
    let zeroed : List ℕ = replicate (vertex_count (words g)) 0 in
    let out : List ℕ = padded (length (words g)) (words h) in
    restriction_gives (record { answer = a; out = out; mapping = words ns; work = zeroed })
expected (reads bytes ws) = words_read (some (words ws))
expected (prints bytes text) = words_given (characters text)

-- the rules give what is said of each of these cases
abbrev pub All : List Case → Type 0
All cs = map given cs ≡ map expected cs

-- ---- the cases marked *

abbrev pub starred : List Case
starred =
    -- 1
    runs (looping "3; 7 5 8; 0 0 0") (room_of 512 1_024) 512 (Done 3 3 3) "3 3 0, 0 0 1, 0 0 0, 0 0 0, 0 1 2, 0 1 2 3, 1 2 0, 0 1 0"
    -- 2
    ∷ runs (stuck "2; 5 0; 0 0") (room_of 6 8) 512 (Done 2 2 2) "2 2 0, 1 0, 1 1, 0 0, 0 1, 0 1 2, 1 1, 0 0"
    -- 3
    ∷ runs (stuck "2; 4 0; 0 0") (room_of 6 8) 512 (Done 2 2 2) "2 2 0, 1 1, 1 0, 0 0, 0 1, 0 1 2, 1 1, 0 0"
    -- 4
    ∷ runs (looping "3; 2 0 0; 2 0 0") (room_of 6 8) 512 (Done 3 3 4) "3 4 0, 1 1 1, 1 0 0, 0 0 0, 0 1 2, 0 1 3 4, 1 2 2 2, 0 0 0 0"
    -- 5
    ∷ runs (looping "6; 3 5 0 2 1 0; 3 0 0 5 0 0") (room_of 512 1_024) 512 (Done 6 6 8)
    "6 8 0, 1 0 0 1 0 1, 1 0 0 0 1 0, 0 0 0 0 0 0, 0 1 2 4 5 3, 0 1 3 4 6 7 8, 1 2 3 5 4 5 4 5, 0 0 0 1 0 0 0 0"
    -- 6
    ∷ runs (looping formula5) (room_of 6 8) 2 (Cut 2 4 3) "4 3 0, 1 0 2 2, 1 0 0 0, 0 0 0 0, 0 1 2 4, 0 1 3 3 3, 1 2 3, 0 0 0"
    -- 7
    ∷ runs (looping formula5) (room_of 6 8) 6 (Done 6 6 8) game5
    ∷ runs (looping formula5) (room_of 5 8) 6 (Refused 60 0) ""
    ∷ runs (looping formula5) (room_of 6 7) 6 (Refused 60 0) ""
    ∷ runs (looping formula5) (room_of 6 8) 5 (Cut 5 6 7)
    "6 7 0, 1 0 2 1 0 1, 1 0 0 0 1 0, 0 0 0 0 0 0, 0 1 2 4 5 3, 0 1 3 3 5 6 7, 1 2 3 4 5 4 5, 0 0 0 0 0 0 0"
    -- 8: greatest X, least Y, (diamond X or greatest Z, least W, diamond Y)
    ∷ ranks (looping "9; 7 6 3 5 8 7 6 5 8; 0 0 5 0 0 0 0 0 1") "3 3 1 0" "2 3 0 1"
    -- 9: greatest X, least Y, greatest Z, reference Z
    ∷ deep (looping "4; 7 6 7 8; 0 0 0 2") 0 2
    -- 10
    ∷ runs (looping formula1) (room_of 6 8) 0 (Cut 0 1 0) "1 0 0, 2, 0, 0, 0, 0 0"
    ∷ []

pub starred_cases : All starred
unfolding every_rule
starred_cases = refl

-- ---- games that the marked ones do not tell apart from those of wrong rules

abbrev pub games : List Case
games =
    -- 12: two loops on label 0. "case 12 differs from case 1 by a 2" (#102)
    runs (moving "1 2 0, 2, 0 0, 0 0" formula1) (room_of 6 8) 512 (Done 3 3 3)
    "3 3 0, 0 0 1, 0 0 0, 0 0 0, 0 1 2, 0 1 2 3, 1 2 0, 0 2 0"
    -- the same cut after two steps: the diamond is settled
    ∷ runs (moving "1 2 0, 2, 0 0, 0 0" formula1) (room_of 6 8) 2 (Cut 2 3 2) "3 2 0, 0 0 2, 0 0 0, 0 0 0, 0 1 2, 0 1 2 2, 1 2, 0 2"
    -- a loop on label 0 and one on label 1, which the diamond does not match
    ∷ runs (input "2 2, 0 1, 7 8" "1 2 0, 2, 0 1, 0 0" "1; 2; 0" formula1) (room_of 6 8) 512 (Done 3 3 3) game1
    -- an added self-loop of a modal vertex has count 0 (F1)
    ∷ runs (stuck formula1) (room_of 6 8) 512 (Done 2 2 2) "2 2 0, 0 0, 0 1, 0 0, 0 1, 0 1 2, 1 1, 0 0"
    -- the last shortcut: greatest X, least Y, diamond Y on a loop: "5 vertices instead of 4"; the node of Y carries the
    -- reference, which is item 2 (B2)
    ∷ runs (looping "4; 7 6 5 8; 0 0 0 1") (room_of 6 8) 512 (Done 4 4 4)
    "4 4 0, 0 1 1 0, 0 0 1 0, 0 0 0 0, 0 2 1 3, 0 1 2 3 4, 1 2 3 1, 0 0 0 1"
    -- the initial state is 1: diamond of true
    ∷ runs (moving "2 1 1, 0 1, 0, 0" "2; 5 0; 0 0") (room_of 6 8) 512 (Done 3 3 3)
    "3 3 0, 1 0 1, 1 0 0, 1 1 0, 0 1 2, 0 1 2 3, 1 2 2, 0 1 0"
    -- true and (true and false): items are numbered without gaps (B1)
    ∷ runs (looping "5; 2 0 2 0 1; 2 0 4 0 0") (room_of 6 8) 512 (Done 5 5 7)
    "5 7 0, 1 1 1 1 0, 1 0 0 0 1, 0 0 0 0 0, 0 1 2 3 4, 0 1 3 4 6 7, 1 2 3 2 2 4 4, 0 0 0 0 0 0 0"
    -- (true and false) or (false and true): by the lowest node, true is item 3 and false item 4, though the walk meets
    -- false first
    ∷ runs (looping "7; 3 2 0 1 2 1 0; 4 3 0 0 6 0 0") (room_of 6 10) 512 (Done 6 6 9)
    "6 9 0, 1 0 1 1 0 1, 1 0 0 0 1 0, 0 0 0 0 0 0, 0 1 2 5 4 3, 0 1 3 5 7 8 9, 1 2 3 5 4 4 5 4 5, 0 0 0 0 0 0 0 0 0"
    -- a waiting vertex has its state and its item: the pair that the run begins at; the conjunction in the states 0 and
    -- 2; the same in state 0, and its operands in state 2
    ∷ runs branching (room_of 6 8) 0 (Cut 0 1 0) "1 0 0, 2, 0, 1, 0, 0 0"
    ∷ runs branching (room_of 6 8) 2 (Cut 2 4 3) "4 3 0, 1 0 2 2, 1 0 0 0, 1 1 0 2, 0 1 2 2, 0 1 3 3 3, 1 2 3, 0 1 1"
    ∷ runs branching (room_of 6 8) 3 (Cut 3 6 5)
    "6 5 0, 1 0 2 1 2 2, 1 0 0 0 0 0, 1 1 0 2 2 2, 0 1 2 2 3 4, 0 1 3 3 5 5 5, 1 2 3 4 5, 0 1 1 0 0"
    -- true or true
    ∷ runs (looping "3; 3 0 0; 2 0 0") (room_of 6 8) 512 (Done 3 3 4) "3 4 0, 1 0 1, 1 0 0, 0 0 0, 0 1 2, 0 1 3 4, 1 2 2 2, 0 0 0 0"
    -- two labels with the actions 7, 8 and 8, 7: a modality of the one matches the other, and both operands of the and
    -- are one item (B3)
    ∷ runs (input "2 4, 0 0 1 1, 7 8 8 7" "1 1 0, 1, 1, 0" "2; 2 2; 0 1" "5; 2 5 0 5 0; 3 0 0 1 0")
    (room_of 6 8) 512 (Done 4 4 5) "4 5 0, 1 1 0 1, 1 0 0 0, 0 0 0 0, 0 1 2 3, 0 1 3 4 5, 1 2 2 3 3, 0 0 0 1 0"
    -- labels tau, {7, 7} and {7}: not (tau or {7, 7}); true
    ∷ runs
    (input "3 3, 1 1 2, 7 7 7" "2 3 0, 3 0, 1 0 2, 1 0 1" "5; 5 3 2 2 0; 0 3 0 1 0" "6; 2 5 0 4 5 0; 3 0 0 4 0 0")
    (room_of 6 8) 512 (Done 6 6 8)
    "6 8 0, 1 1 0 1 0 1, 1 0 0 0 1 0, 0 0 0 0 1 1, 0 1 2 4 2 3, 0 1 3 4 6 7 8, 1 2 3 5 4 2 4 5, 0 0 0 1 2 1 0 0"
    -- the action formulas true and false
    ∷ runs (acting "1; 0; 0" "2; 5 0; 0 0") (room_of 6 8) 512 (Done 3 3 3) "3 3 0, 1 0 1, 1 0 0, 0 0 0, 0 1 2, 0 1 2 3, 1 2 2, 0 1 0"
    ∷ runs (acting "1; 1; 0" "2; 5 0; 0 0") (room_of 6 8) 512 (Done 2 2 2) "2 2 0, 1 0, 1 1, 0 0, 0 1, 0 1 2, 1 1, 0 0"
    -- three states, three labels, every kind of action formula
    ∷ runs three_states (room_of 12 18) 512 (Done 12 12 18)
    ("12 18 0, 1 1 0 0 0 1 0 0 0 1 1 1, 1 0 0 0 0 0 1 1 1 0 0 0, 0 0 0 0 0 0 0 1 2 1 0 1, 0 1 2 5 6 8 4 4 4 7 3 3,"
    and " 0 1 3 5 7 8 11 12 13 14 15 17 18, 1 2 3 10 11 4 5 9 6 7 8 6 7 8 9 7 8 8, 0 0 0 1 1 0 0 1 1 1 1 0 0 0 0 1 1 1")
    -- a reference may skip inner fixpoints (A9)
    ∷ runs (looping "3; 7 6 8; 0 0 0") (room_of 6 8) 512 (Done 4 4 4)
    "4 4 0, 0 1 1 1, 2 0 1 0, 0 0 0 0, 0 2 1 3, 0 1 2 3 4, 1 2 3 0, 0 0 0 0"
    -- 4,096 labels without actions are tau (A13)
    ∷ runs (input "4096 0" "1 0 0, 0" "1; 2; 4095" "1; 0; 0") (room_of 6 8) 512 (Done 2 2 2)
    "2 2 0, 1 1, 1 0, 0 0, 0 1, 0 1 2, 1 1, 0 0"
    -- a cut game counts added self-loops (B6)
    ∷ runs (looping formula5) (room_of 6 8) 4 (Cut 4 6 6)
    "6 6 0, 1 0 2 1 2 1, 1 0 0 0 0 0, 0 0 0 0 0 0, 0 1 2 4 5 3, 0 1 3 3 5 5 6, 1 2 3 4 5 5, 0 0 0 0 0 0"
    -- waiting vertices are known (B7)
    ∷ runs (looping formula5) (room_of 5 8) 3 (Refused 60 0) ""
    -- the largest limit
    ∷ runs (looping formula1) (room_of 6 8) 4_294_967_295 (Done 3 3 3) game1
    ∷ []

pub game_cases : All games
unfolding every_rule
game_cases = refl

-- the pairs that a game shows, by its vertices' numbers: state, then item (#105)
pub pairs_shown : pairs_in (words "2 0 0, 2 2, 0 0, 7 8, 3 4, 0 0 0") ≡ (7, 3) ∷ (8, 4) ∷ []
unfolding every_rule
pairs_shown = refl

-- ---- depths and priorities, items, reachable pairs

abbrev pub readings : List Case
readings =
    -- the placeholder's depth: diamond of greatest Y, least Z, Z
    ranks (looping "4; 5 7 6 8; 0 0 0 2") "2 1 1" "3 0 1"
    -- references stand under a box, and on both sides of an and and of an or: greatest X, least Y, then X among them
    ∷ ranks (looping "4; 7 6 4 8; 0 0 0 0") "2 0" "2 1"
    ∷ ranks (looping "5; 7 6 2 8 0; 0 0 4 0 0") "2 0" "2 1"
    ∷ ranks (looping "5; 7 6 2 0 8; 0 0 4 0 0") "2 0" "2 1"
    ∷ ranks (looping "5; 7 6 3 8 0; 0 0 4 0 0") "2 0" "2 1"
    ∷ ranks (looping "5; 7 6 3 0 8; 0 0 4 0 0") "2 0" "2 1"
    -- equal operators do not alternate: greatest X, greatest Y, X; least X, least Y, X
    ∷ ranks (looping "3; 7 7 8; 0 0 0") "1 0" "0 0"
    ∷ ranks (looping "3; 6 6 8; 0 0 0") "1 0" "1 1"
    -- later than the equation that is read, not than the target: greatest X, least Y, greatest Z, Y
    ∷ ranks (looping "4; 7 6 7 8; 0 0 0 1") "2 2 0" "2 3 0"
    -- two equal fixpoints stay two equations (B5): 3 equations, and, 2 references, true
    ∷ counts (looping "5; 2 7 0 7 0; 3 0 0 0 0") 7
    -- alike by multiset (B3), not by what they match (B4)
    ∷ counts (input "2 4, 0 0 1 1, 7 8 8 7" "1 1 0, 1, 1, 0" "2; 2 2; 0 1" "5; 2 5 0 5 0; 3 0 0 1 0") 4
    ∷ counts (acting "4; 0 3 0 0; 0 3 0 0" "5; 2 5 0 5 0; 3 0 0 1 0") 5
    -- two that differ are two items: true and false; box and diamond; and and or
    ∷ counts (looping "3; 2 0 1; 2 0 0") 4
    ∷ counts (looping "5; 2 4 0 5 0; 3 0 0 0 0") 5
    ∷ counts (looping "7; 3 2 0 1 3 0 1; 4 3 0 0 6 0 0") 6
    -- .. conjunctions, disjunctions, boxes and diamonds by each operand: (true and true) and (true and false),
    -- (true and true) and (false and true), and so on
    ∷ counts (looping "7; 2 2 0 0 2 0 1; 4 3 0 0 6 0 0") 6
    ∷ counts (looping "7; 2 2 0 0 2 1 0; 4 3 0 0 6 0 0") 6
    ∷ counts (looping "7; 3 3 0 0 3 0 1; 4 3 0 0 6 0 0") 6
    ∷ counts (looping "7; 3 3 0 0 3 1 0; 4 3 0 0 6 0 0") 6
    ∷ counts (looping "5; 2 4 0 4 1; 3 0 0 0 0") 6
    ∷ counts (looping "5; 2 5 0 5 1; 3 0 0 0 0") 6
    -- .. diamonds by their action formulas: label 0 and its negation; boxes likewise
    ∷ counts (acting "3; 2 5 2; 0 0 0" "5; 2 5 0 5 0; 3 0 0 1 0") 5
    ∷ counts (acting "3; 2 5 2; 0 0 0" "5; 2 4 0 4 0; 3 0 0 1 0") 5
    -- .. true and false; a union and an intersection; two negations; unions and intersections by each operand
    ∷ counts (acting "2; 0 1; 0 0" "5; 2 5 0 5 0; 3 0 0 1 0") 5
    ∷ counts (acting "6; 3 0 1 4 0 1; 2 0 0 5 0 0" "5; 2 5 0 5 0; 3 0 0 3 0") 5
    ∷ counts (acting "4; 5 0 5 1; 0 0 0 0" "5; 2 5 0 5 0; 3 0 0 2 0") 5
    ∷ counts (acting "6; 3 0 0 3 0 1; 2 0 0 5 0 0" "5; 2 5 0 5 0; 3 0 0 3 0") 5
    ∷ counts (acting "6; 3 0 0 3 1 0; 2 0 0 5 0 0" "5; 2 5 0 5 0; 3 0 0 3 0") 5
    ∷ counts (acting "6; 4 0 0 4 0 1; 2 0 0 5 0 0" "5; 2 5 0 5 0; 3 0 0 3 0") 5
    ∷ counts (acting "6; 4 0 0 4 1 0; 2 0 0 5 0 0" "5; 2 5 0 5 0; 3 0 0 3 0") 5
    -- N of cases 1, 4 and 5, of the three states, and of case 1 on a chain of four states: more than there are items
    ∷ reaches (looping formula1) 3
    ∷ reaches (looping "3; 2 0 0; 2 0 0") 3
    ∷ reaches (looping formula5) 6
    ∷ reaches three_states 12
    ∷ reaches (moving "4 3 0, 1 1 1 0, 0 0 0, 1 2 3" formula1) 11
    ∷ []

pub reading_cases : All readings
unfolding every_rule
reading_cases = refl

-- ---- refusals of each number at each kind of place

abbrev pub refused : List Case
refused =
    -- 11 to 13
    refuses (labelled "1" formula1) 11 0
    ∷ refuses (labelled "1 2147483648" formula1) 11 0
    ∷ refuses (labelled "1 1, 1, 7" formula1) 13 2
    ∷ refuses (labelled "2 2, 1 0, 7 7" formula1) 13 3
    ∷ refuses (labelled "1 2, 0 1, 7 7" formula1) 13 3
    -- 21 to 26: degrees that sum to more, to less, to T only if the sum wraps; the first and second label and target
    ∷ refuses (moving "1 0 0" formula1) 21 0
    ∷ refuses (moving "0 0 0" formula1) 22 0
    ∷ refuses (moving "1 0 1, 0" formula1) 23 2
    ∷ refuses (moving "1 1 0, 2, 0, 0" formula1) 24 1
    ∷ refuses (moving "1 1 0, 0, 0, 0" formula1) 24 1
    ∷ refuses (moving "2 0 0, 2147483648 2147483648" formula1) 24 1
    ∷ refuses (moving "1 1 0, 1, 1, 0" formula1) 25 4
    ∷ refuses (moving "1 2 0, 2, 0 1, 0 0" formula1) 25 5
    ∷ refuses (moving "1 1 0, 1, 0, 1" formula1) 26 5
    ∷ refuses (moving "1 2 0, 2, 0 0, 0 1" formula1) 26 7
    -- 31 to 33
    ∷ refuses (acting "" formula1) 31 0
    ∷ refuses (acting "1025" formula1) 31 0
    ∷ refuses (acting "2; 2 6; 0 0" formula1) 33 1
    -- 41 to 43
    ∷ refuses (looping "") 41 0
    ∷ refuses (looping "2 0 0") 41 0
    ∷ refuses (looping "4294967295") 41 0
    ∷ refuses (looping "0") 42 0
    ∷ refuses (looping "1; 9; 0") 43 0
    ∷ refuses (looping "3; 0 2 9; 0 0 0") 43 2
    -- 34: an operand of each kind of node: true, false, multi-action, union, intersection, negation
    ∷ refuses (acting "1; 0; 1" formula1) 34 0
    ∷ refuses (acting "1; 1; 1" formula1) 34 0
    ∷ refuses (acting "1; 2; 1" formula1) 34 0
    ∷ refuses (acting "3; 3 0 1; 1 0 0" formula1) 34 0
    ∷ refuses (acting "3; 4 0 1; 1 0 0" formula1) 34 0
    ∷ refuses (acting "2; 5 0; 1 0" formula1) 34 0
    -- 34: a right child past the table (A5); operands inside an unfinished tree are judged (A6); an absent left tree is
    -- unfinished (A7)
    ∷ refuses (acting "2; 3 0; 2 0" formula1) 34 2
    ∷ refuses (acting "2; 3 0; 5 0" formula1) 34 0
    ∷ refuses (acting "1; 3; 9" formula1) 34 1
    ∷ refuses (acting "3; 5 3 0; 0 3 0" formula1) 34 3
    ∷ refuses (acting "2; 3 5; 9 0" formula1) 34 2
    -- 44: an operand of each kind of node: true, false, and, or, box, diamond, least, greatest
    ∷ refuses (looping "1; 0; 1") 44 0
    ∷ refuses (looping "1; 1; 1") 44 0
    ∷ refuses (looping "3; 2 0 0; 1 0 0") 44 0
    ∷ refuses (looping "3; 3 0 0; 1 0 0") 44 0
    ∷ refuses (looping "2; 4 0; 1 0") 44 0
    ∷ refuses (looping "2; 5 0; 1 0") 44 0
    ∷ refuses (looping "2; 6 0; 1 0") 44 0
    ∷ refuses (looping "2; 7 0; 1 0") 44 0
    -- 44: a node left over; an unfinished tree; one pool, of which the smallest place wins (A12)
    ∷ refuses (looping "2; 0 0; 0 0") 44 1
    ∷ refuses (looping "1; 6; 0") 44 1
    ∷ refuses (looping "4; 2 0 0 6; 9 0 0 5") 44 0
    ∷ refuses (looping "4; 2 0 0 6; 2 0 0 5") 44 3
    ∷ refuses (looping "3; 0 0 0; 0 0 5") 44 1
    -- 44: a modality names a whole tree of the row (A8)
    ∷ refuses (acting "2; 5 0; 0 0" "2; 5 0; 1 0") 44 0
    -- 45: a reference to no fixpoint, to itself, to a fixpoint that does not enclose it
    ∷ refuses (looping "2; 5 8; 0 0") 45 1
    ∷ refuses (looping "1; 8; 0") 45 0
    ∷ refuses (looping "4; 2 6 0 8; 3 0 0 1") 45 3
    ∷ []

pub refusal_cases : All refused
unfolding every_rule
refusal_cases = refl

-- ---- "Order for a run: 1, 2, then ascending, 60 last": two faults at once for each two neighbouring numbers

abbrev pub two_faults : List Case
two_faults =
    -- 1 and 2, 2 and 11
    checks (refusal (looping formula1) (room_of 0 8) 0 0) (fault 1 0)
    ∷ checks (refusal (labelled "" formula1) (room_of 6 8) 49 0) (fault 2 0)
    -- 11 and 12, 12 and 13, 13 and 21
    ∷ refuses (labelled "4097 1, 0" formula1) 11 0
    ∷ refuses (labelled "4097 2, 1 0, 7 7" formula1) 12 0
    ∷ refuses (input "1 1, 1, 7" "1 0 0" "1, 2, 0" formula1) 13 2
    -- 21 and 22, 22 and 23, 23 and 24, 24 and 25, 25 and 26, 26 and 31
    ∷ refuses (moving "0 0 0, 0" formula1) 21 0
    ∷ refuses (moving "0 0 0" formula1) 22 0
    ∷ refuses (moving "1 0 1, 1" formula1) 23 2
    ∷ refuses (moving "1 1 0, 2, 1, 0" formula1) 24 1
    ∷ refuses (moving "1 1 0, 1, 1, 1" formula1) 25 4
    ∷ refuses (input "1 1, 0, 7" "1 1 0, 1, 0, 1" "" formula1) 26 5
    -- 31 and 32, 32 and 33 (1,025 nodes of kind 6), 33 and 34, 34 and 41
    ∷ refuses (acting "1025" formula1) 31 0
    ∷ refuses (input_of (words "1 1, 0, 7") (words "1 1 0, 1, 0, 0") (1_025 ∷ replicate 2_050 6) (words formula1)) 32 0
    ∷ refuses (acting "2; 0 6; 1 0" formula1) 33 1
    ∷ refuses (acting "1; 0; 1" "") 34 0
    -- 41 and 42, 42 and 43 (1,025 nodes of kind 9), 43 and 44, 44 and 45
    ∷ refuses (looping "0 0") 41 0
    ∷ refuses (input_of (words "1 1, 0, 7") (words "1 1 0, 1, 0, 0") (words "1, 2, 0") (1_025 ∷ replicate 2_050 9)) 42 0
    ∷ refuses (looping "2; 0 9; 1 0") 43 1
    ∷ refuses (looping "2; 4 8; 1 0") 44 0
    -- 45 and 60: no room for a second vertex
    ∷ refuses_in (room_of 1 1) (looping "2; 5 8; 0 0") 45 1
    -- the modeller before the writer
    ∷ refuses (input "1 1, 0, 7" "1 0 1, 0" "" "") 23 2
    ∷ []

pub order_cases : All two_faults
unfolding every_rule
order_cases = refl

-- ---- single checks: the ends of each range

abbrev pub limits : List Case
limits =
    -- 1: each end of both ranges
    checks (refusal1 (room_of 0 1)) (fault 1 0)
    ∷ checks (refusal1 (room_of 1 0)) (fault 1 0)
    ∷ checks (refusal1 (room_of 1_048_577 1)) (fault 1 0)
    ∷ checks (refusal1 (room_of 1 4_194_305)) (fault 1 0)
    ∷ checks (refusal1 (room_of 1 1)) (Ok tt)
    ∷ checks (refusal1 (room_of 1_048_576 4_194_304)) (Ok tt)
    -- 2: each slice one word shorter and longer; a game slice without words for states and items (#105)
    ∷ checks (refusal2 (room_of 6 8) 50 64) (Ok tt)
    ∷ checks (refusal2 (room_of 6 8) 49 64) (fault 2 0)
    ∷ checks (refusal2 (room_of 6 8) 51 64) (fault 2 0)
    ∷ checks (refusal2 (room_of 6 8) 50 63) (fault 2 0)
    ∷ checks (refusal2 (room_of 6 8) 50 65) (fault 2 0)
    ∷ checks (refusal2 (room_of 6 8) 38 64) (fault 2 0)
    ∷ checks (refusal2 (room_of 6 8) 13_631_492 16_777_216) (fault 2 0)
    ∷ checks (refusal2 (room_of 1_048_576 4_194_304) 13_631_492 16_777_216) (Ok tt)
    -- 11, 21, 31, 41: one word shorter and longer
    ∷ checks (refusal11 (words "1 1, 0")) (fault 11 0)
    ∷ checks (refusal11 (words "1 1, 0, 7 0")) (fault 11 0)
    ∷ checks (refusal11 (words "0 0")) (Ok tt)
    ∷ checks (refusal21 (words "1 1 0, 1, 0")) (fault 21 0)
    ∷ checks (refusal21 (words "1 1 0, 1, 0, 0 0")) (fault 21 0)
    ∷ checks (refusal21 (words "1 0")) (fault 21 0)
    ∷ checks (refusal31 (words "1; 2")) (fault 31 0)
    ∷ checks (refusal31 (words "1; 2; 0 0")) (fault 31 0)
    ∷ checks (refusal31 (words "0")) (Ok tt)
    ∷ checks (refusal41 (words "1; 0")) (fault 41 0)
    ∷ checks (refusal41 (words "1; 0; 0 0")) (fault 41 0)
    -- 12, 22, 32, 42: each limit on both sides
    ∷ checks (refusal12 (words "4096 16384")) (Ok tt)
    ∷ checks (refusal12 (words "4097 0")) (fault 12 0)
    ∷ checks (refusal12 (words "0 16385")) (fault 12 0)
    ∷ checks (refusal22 (words "1 262144")) (Ok tt)
    ∷ checks (refusal22 (words "65535 0")) (Ok tt)
    ∷ checks (refusal22 (words "0 0")) (fault 22 0)
    ∷ checks (refusal22 (words "65536 0")) (fault 22 0)
    ∷ checks (refusal22 (words "1 262145")) (fault 22 0)
    ∷ checks (refusal32 (words "1024")) (Ok tt)
    ∷ checks (refusal32 (words "1025")) (fault 32 0)
    ∷ checks (refusal42 (words "1")) (Ok tt)
    ∷ checks (refusal42 (words "1024")) (Ok tt)
    ∷ checks (refusal42 (words "0")) (fault 42 0)
    ∷ checks (refusal42 (words "1025")) (fault 42 0)
    -- 23: the last state and the first that is none
    ∷ checks (refusal23 (words "2 0 1")) (Ok tt)
    ∷ checks (refusal23 (words "2 0 2")) (fault 23 2)
    -- 13, 25, 26, 33, 43: the last that passes
    ∷ checks (refusal13 (words "2 2, 1 1, 7 7")) (Ok tt)
    ∷ checks (refusal25 (words "2 0") (words "1 1 0, 1, 1, 0")) (Ok tt)
    ∷ checks (refusal26 (words "2 1 0, 1 0, 0, 1")) (Ok tt)
    ∷ checks (refusal33 (words "1; 5; 0")) (Ok tt)
    ∷ checks (refusal43 (words "1; 8; 0")) (Ok tt)
    -- 51: each room limit on both sides
    ∷ tests (above_room 1_048_576 4_194_304) false
    ∷ tests (above_room 1_048_577 0) true
    ∷ tests (above_room 1 4_194_305) true
    ∷ []

pub limit_cases : All limits
unfolding every_rule
limit_cases = refl

-- ---- games handed over

abbrev pub handed : List Case
handed =
    -- without edges (C1), beginning anywhere (C3), with words past its end (C4), cut (C5), with an offset above the
    -- edge count (C6), with a repeated edge (C7)
    checks (game_refusal (words "1 0 0, 1, 0, 3, 4, 0 0")) (Ok tt)
    ∷ checks (game_refusal (words "2 1 1, 0 0, 0 0, 3 5, 4 6, 0 0 1, 1, 4294967295")) (Ok tt)
    ∷ checks (game_refusal (words "1 1 0, 0, 0, 3, 4, 0 1, 0, 0 0")) (fault 51 0)
    ∷ checks (game_refusal (words "1 0 0, 2, 0, 3, 4, 0 0")) (fault 53 3)
    ∷ checks (game_refusal (words "2 2 0, 0 0, 0 0, 3 5, 4 6, 0 5 2, 0 0, 0 0")) (fault 52 13)
    ∷ checks (game_refusal (words "1 2 0, 0, 0, 3, 4, 0 2, 0 0, 1 0")) (Ok tt)
    -- states and items are not judged: the largest words, the same at two vertices (C7)
    ∷ checks (game_refusal (words "2 0 0, 0 0, 0 0, 4294967295 4294967295, 4294967295 4294967295, 0 0 0")) (Ok tt)
    -- without the counts (#102), without states and items, without one of the two (#105)
    ∷ checks (game_refusal (words "1 1 0, 0, 0, 3, 4, 0 1, 0")) (fault 51 0)
    ∷ checks (game_refusal (words "1 1 0, 0, 0, 0 1, 0, 0")) (fault 51 0)
    ∷ checks (game_refusal (words "1 1 0, 0, 0, 3, 0 1, 0, 0")) (fault 51 0)
    -- 51 to 53: too short, no vertex, a first offset, a last offset, an initial vertex, a target; the smallest place
    ∷ checks (game_refusal (words "1 0")) (fault 51 0)
    ∷ checks (game_refusal (words "0 0 0, 0")) (fault 51 0)
    ∷ checks (game_refusal (words "1 1 0, 0, 0, 3, 4, 1 1, 0, 0")) (fault 52 7)
    ∷ checks (game_refusal (words "1 1 0, 0, 0, 3, 4, 0 0, 0, 0")) (fault 52 8)
    ∷ checks (game_refusal (words "1 1 1, 0, 0, 3, 4, 0 1, 0, 0")) (fault 53 2)
    ∷ checks (game_refusal (words "1 1 0, 0, 0, 3, 4, 0 1, 1, 0")) (fault 53 9)
    ∷ checks (game_refusal (words "1 1 0, 2, 0, 3, 4, 0 1, 1, 0")) (fault 53 3)
    -- two faults at once: 51 and 52, 52 and 53
    ∷ checks (game_refusal (words "1 1 0, 0, 0, 3, 4, 1 1, 0, 0 0")) (fault 51 0)
    ∷ checks (game_refusal (words "1 1 1, 0, 0, 3, 4, 1 1, 0, 0")) (fault 52 7)
    ∷ []

pub handed_cases : All handed
unfolding every_rule
handed_cases = refl

-- ---- restrictions

abbrev pub restrictions : List Case
restrictions =
    -- five vertices from vertex 2: breadth first, 3 before 0; vertex 1 and 4 are not reached
    restricts
    "5 6 2, 0 1 0 1 0, 7 6 5 4 3, 11 12 13 14 15, 21 22 23 24 25, 0 1 2 4 5 6, 2 1 3 0 3 4, 1 2 3 0 5 6" (Done 3 3 4)
    "3 4 0, 0 1 0, 5 4 7, 13 14 11, 23 24 21, 0 2 3 4, 1 2 1 0, 3 0 5 1" "2 4294967295 0 1 4294967295"
    -- breadth first: vertex 1 is gone through before vertex 2
    ∷ restricts "5 6 0, 0 0 0 0 0, 1 2 3 4 5, 9 0 7 6 8, 6 7 8 9 0, 0 2 3 4 5 6, 1 2 3 4 3 4, 0 0 0 0 0 0" (Done 5 5 6)
    "5 6 0, 0 0 0 0 0, 1 2 3 4 5, 9 0 7 6 8, 6 7 8 9 0, 0 2 3 4 5 6, 1 2 3 4 3 4, 0 0 0 0 0 0" "0 1 2 3 4"
    -- it begins at 0 (C3)
    ∷ restricts "2 1 1, 0 0, 0 0, 3 5, 4 6, 0 0 1, 1, 4294967295" (Done 1 1 1)
    "1 1 0, 0, 0, 5, 6, 0 1, 0, 4294967295" "4294967295 0"
    -- states and items are copied unjudged (C7)
    ∷ restricts "2 2 1, 1 1, 5 6, 4294967295 4294967295, 4294967295 4294967295, 0 1 2, 0 0, 7 8" (Done 2 2 2)
    "2 2 0, 1 1, 6 5, 4294967295 4294967295, 4294967295 4294967295, 0 1 2, 1 1, 8 7" "1 0"
    -- without edges (C1), with a repeated edge (C7)
    ∷ restricts "1 0 0, 1, 0, 3, 4, 0 0" (Done 1 1 0) "1 0 0, 1, 0, 3, 4, 0 0" "0"
    ∷ restricts "1 2 0, 0, 0, 4, 3, 0 2, 0 0, 3 1" (Done 1 1 2) "1 2 0, 0, 0, 4, 3, 0 2, 0 0, 3 1" "0"
    -- 53 and 2 at once: 2 comes last (C2)
    ∷ checks (restriction_refusal (words "1 1 1, 0, 0, 3, 4, 0 1, 0, 0") 0 0 0) (fault 53 2)
    -- 2: each slice one word shorter and longer
    ∷ checks (restriction_refusal (words "1 0 0, 1, 0, 3, 4, 0 0") 9 1 1) (Ok tt)
    ∷ checks (restriction_refusal (words "1 0 0, 1, 0, 3, 4, 0 0") 8 1 1) (fault 2 0)
    ∷ checks (restriction_refusal (words "1 0 0, 1, 0, 3, 4, 0 0") 10 1 1) (fault 2 0)
    ∷ checks (restriction_refusal (words "1 0 0, 1, 0, 3, 4, 0 0") 9 0 1) (fault 2 0)
    ∷ checks (restriction_refusal (words "1 0 0, 1, 0, 3, 4, 0 0") 9 2 1) (fault 2 0)
    ∷ checks (restriction_refusal (words "1 0 0, 1, 0, 3, 4, 0 0") 9 1 0) (fault 2 0)
    ∷ checks (restriction_refusal (words "1 0 0, 1, 0, 3, 4, 0 0") 9 1 2) (fault 2 0)
    ∷ []

pub restriction_cases : All restrictions
unfolding every_rule
restriction_cases = refl

-- ---- what the thin program reads and prints

-- the four lengths and the four slices of case 1
abbrev pub bytes1 : List ℕ
bytes1 = four_bytes (words "4 6 3 7, 1 1 0 7, 1 1 0 1 0 0, 1 2 0, 3 7 5 8 0 0 0")

abbrev pub programs : List Case
programs =
    -- the lowest byte first
    reads "1 2 3 4, 255 255 255 255" "67305985 4294967295"
    -- case 1, whole
    ∷ prints bytes1 "done 3 3 3\n0 0 0 1\n1 0 0 2\n2 1 0 0\n"
    -- the formula true (D4)
    ∷ prints (four_bytes (words "4 6 3 3, 1 1 0 7, 1 1 0 1 0 0, 1 2 0, 1 0 0")) "done 2 2 2\n0 1 1 1\n1 1 0 1\n"
    -- no bytes, three words (D2), a last word of one, two and three bytes, lengths that disagree, lengths whose sum
    -- wraps
    ∷ prints [] "refused 2 0\n"
    ∷ prints (four_bytes (words "0 0 0")) "refused 2 0\n"
    ∷ prints (bytes1 ++ words "0") "refused 2 0\n"
    ∷ prints (bytes1 ++ words "0 0") "refused 2 0\n"
    ∷ prints (bytes1 ++ words "0 0 0") "refused 2 0\n"
    ∷ prints (four_bytes (words "1 0 0 0")) "refused 2 0\n"
    ∷ prints (four_bytes (words "2147483648 2147483648 0 0")) "refused 2 0\n"
    -- four empty slices (D3), the initial state 1 of 1 (A2)
    ∷ prints (four_bytes (words "0 0 0 0")) "refused 11 0\n"
    ∷ prints (four_bytes (words "4 6 3 3, 1 1 0 7, 1 1 1 1 0 0, 1 2 0, 1 0 0")) "refused 23 2\n"
    -- a place of three digits: label numbers that fall at word 100
    ∷ prints (four_bytes (words "200 0 0 0, 2 99" ++ (replicate 98 1 ++ (0 ∷ replicate 99 7)))) "refused 13 100\n"
    ∷ []

pub program_cases : All programs
unfolding every_rule
program_cases = refl
