-- Expansions by example: each reading that was chosen where document 02, #104, leaves room (docs/DECISIONS.md), and
-- cases that tell the definitions from wrong ones: each edit of specs/ in must-fail is a wrong definition that a case,
-- or a theorem, refuses. The theorems say that the definitions give what is said of each case, and are proved by
-- computation. Tables are quoted as document 01 prints words. Assumes nothing.
use mathlib.Core.Path.{◌≡◌, refl}
use mathlib.Core.List.{List, [], ◌∷◌, map}
use Prim.Native.Nat.{ℕ, ◌*◌}
use Prim.Native.String.{String, ◌++◌ as ◌and◌}
use lib.ListN.{length, replicate}
use Rattle.std.specs.declared.result.Result.TheVariants.{Ok}
use Rattle.rules.specs.declared.Answer.TheVariants.{Done, Refused}
use Rattle.rules.specs.Answers.{Check}
use Rattle.rules.specs.Game.{padded}
use Rattle.rules.proofs.Print.{words}
use Rattle.rules.proofs.Unfold.{every_rule}
use Rattle.regular_rules.specs.Refusals.{RegularInput, regular_input, table_length, expansion_refusal}
use Rattle.regular_rules.specs.Expansion.{Expansion, expansion}
use Rattle.regular_rules.proofs.Unfold.{every_expansion_rule}

-- ---- inputs

-- label 0 is action 7; the only action formula is label 0, or there are two, true and label 0
abbrev regular : String → String → RegularInput
regular regs f = regular_input (words "1 1, 0, 7") (words "1; 2; 0") (words regs) (words f)

abbrev acting : String → String → RegularInput
acting regs f = regular_input (words "1 1, 0, 7") (words "2; 0 2; 0 0") (words regs) (words f)

-- labels, action formulas, regular formulas, formula
abbrev input : String → String → String → String → RegularInput
input ls acts regs f = regular_input (words ls) (words acts) (words regs) (words f)

abbrev box_true : String
box_true = "2; 4 0; 0 0"

abbrev diamond_true : String
diamond_true = "2; 5 0; 0 0"

abbrev choice_of_two : String
choice_of_two = "3; 2 0 0; 2 0 0"

-- eight choices in sequence, and behind them an action formula; nine choices in sequence
abbrev eight_choices : String
eight_choices =
    "32; 1 2 0 0 1 2 0 0 1 2 0 0 1 2 0 0 1 2 0 0 1 2 0 0 1 2 0 0 2 0 0 0;"
    and " 4 3 0 0 8 7 0 0 12 11 0 0 16 15 0 0 20 19 0 0 24 23 0 0 28 27 0 0 30 0 0 0"

abbrev nine_choices : String
nine_choices =
    "35; 1 2 0 0 1 2 0 0 1 2 0 0 1 2 0 0 1 2 0 0 1 2 0 0 1 2 0 0 1 2 0 0 2 0 0;"
    and " 4 3 0 0 8 7 0 0 12 11 0 0 16 15 0 0 20 19 0 0 24 23 0 0 28 27 0 0 32 31 0 0 34 0 0"

-- ---- what is said of a case

pub data Case : Type 0 where
  -- x is expanded to this table, with zeros past it
  gives : (x : RegularInput) (table : String) → Case
  -- x, with a slice of so many words, is refused by number n and place p, and the slice is left as it was
  refuses : (x : RegularInput) (out n p : ℕ) → Case
  -- x is not refused
  passes : (x : RegularInput) → Case

-- what the definitions give, and what a case says that they give
pub data Given : Type 0 where
  expansion_gives : Expansion → Given
  check_gives : Check → Given

-- the slice is lent with a 9 in each word
abbrev nines : ℕ → List ℕ
nines n = replicate n 9

abbrev given : Case → Given
given (gives x table) = expansion_gives (expansion x (nines table_length))
given (refuses x out n p) = expansion_gives (expansion x (nines out))
given (passes x) = check_gives (expansion_refusal x table_length)

abbrev expected : Case → Given
expected (gives x table) =
    let ws : List ℕ = words table in
    expansion_gives (record { answer = Done (length ws) 0 0; out = padded table_length ws })
expected (refuses x out n p) = expansion_gives (record { answer = Refused n p; out = nines out })
expected (passes x) = check_gives (Ok tt)

-- ---- expanded tables

abbrev expansions : List Case
expansions =
    -- an action formula alone: the operand is the action tree that the regular tree names
    gives (acting "1; 0; 1" box_true) "2; 4 0; 1 0"
    ∷ gives (acting "1; 0; 1" diamond_true) "2; 5 0; 1 0"
    -- a sequence: the left operand stands outside
    ∷ gives (acting "3; 1 0 0; 2 0 1" box_true) "3; 4 4 0; 0 1 0"
    ∷ gives (acting "3; 1 0 0; 2 0 1" diamond_true) "3; 5 5 0; 0 1 0"
    -- box of a choice is a conjunction, of two plain actions too, diamond a disjunction (G1)
    ∷ gives (regular choice_of_two box_true) "5; 2 4 0 4 0; 3 0 0 0 0"
    ∷ gives (acting "3; 2 0 0; 2 0 1" diamond_true) "5; 3 5 0 5 0; 3 0 0 1 0"
    -- a star: greatest I. ([a] I) and true, least I. (<a> I) or true
    ∷ gives (regular "2; 3 0; 0 0" box_true) "5; 7 2 4 8 0; 0 4 0 0 0"
    ∷ gives (regular "2; 3 0; 0 0" diamond_true) "5; 6 3 5 8 0; 0 4 0 0 0"
    -- a plus: one pass, then the star
    ∷ gives (regular "2; 4 0; 0 0" box_true) "6; 4 7 2 4 8 0; 0 0 5 0 1 0"
    ∷ gives (regular "2; 4 0; 0 0" diamond_true) "6; 5 6 3 5 8 0; 0 0 5 0 1 0"
    -- plus of a sequence: its first pass is expanded too (G2)
    ∷ gives (regular "4; 4 1 0 0; 0 3 0 0" diamond_true) "8; 5 5 6 3 5 5 8 0; 0 0 0 7 0 0 2 0"
    -- plus of a choice of a sequence and an action
    ∷ gives (acting "6; 4 2 1 0 0 0; 0 5 4 0 1 0" box_true)
    "22; 2 4 4 7 2 2 4 4 8 4 8 0 4 7 2 2 4 4 8 4 8 0; 12 0 1 0 11 9 0 1 3 0 3 0 0 0 21 19 0 1 13 0 13 0"
    -- a star of a sequence; <(a*)*> true; [(a*)+] true
    ∷ gives (acting "4; 3 1 0 0; 0 3 0 1" "2; 4 1; 0 0") "6; 7 2 4 4 8 1; 0 5 0 1 0 0"
    ∷ gives (regular "3; 3 3 0; 0 0 0" diamond_true) "8; 6 3 6 3 5 8 8 0; 0 7 0 6 0 2 0 0"
    ∷ gives (regular "3; 4 3 0; 0 0 0" box_true) "12; 7 2 4 8 7 2 7 2 4 8 8 0; 0 4 0 0 0 11 0 10 0 6 4 0"
    -- what stands under a choice is copied, and a reference inside points to the copy's own fixpoint (G7): diamond of
    -- greatest X, X
    ∷ gives (regular choice_of_two "3; 5 7 8; 0 0 1") "7; 3 5 7 8 5 7 8; 4 0 0 2 0 0 5"
    -- <a*> over a fixpoint of its own: greatest X. [a] X, where the box names another regular tree
    ∷ gives (regular "3; 3 0 0; 0 0 0" "4; 5 7 4 8; 0 0 2 1") "7; 6 3 5 8 7 4 8; 0 4 0 0 0 0 4"
    -- a reference that leaves the star: greatest X. [a*] X
    ∷ gives (regular "2; 3 0; 0 0" "3; 7 4 8; 0 0 0") "6; 7 7 2 4 8 8; 0 0 5 0 1 0"
    -- references of both kinds: greatest X. [a*] least Y. X and Y
    ∷ gives (regular "2; 3 0; 0 0" "6; 7 4 6 2 8 8; 0 0 0 5 0 2") "9; 7 7 2 4 8 6 2 8 8; 0 0 5 0 1 0 8 0 5"
    -- a reference that leaves the star, below each kind of node: greatest X. [a*] (((X and true) or (false or X)) and
    -- (([b] X or <b> X) and (least Y. (X or Y) or greatest Z. (Z and X))))
    ∷ gives
    (acting "3; 3 0 0; 0 0 1"
    "25; 7 4 2 3 2 8 0 3 1 8 2 3 4 8 5 8 3 6 3 8 8 7 2 8 8; 0 0 10 7 6 0 0 9 0 0 16 14 2 0 2 0 21 0 20 0 17 0 24 21 0")
    ("28; 7 7 2 4 8 2 3 2 8 0 3 1 8 2 3 4 8 5 8 3 6 3 8 8 7 2 8 8;"
    and " 0 0 5 0 1 13 10 9 0 0 12 0 0 19 17 1 0 1 0 24 0 23 0 20 0 27 24 0")
    -- least X. <((a . b) + a)+> (X and true): the copies of the operand refer to one fixpoint around them
    ∷ gives (acting "6; 4 2 1 0 0 0; 0 5 4 0 1 0" "5; 6 5 2 8 0; 0 0 4 0 0")
    ("27; 6 3 5 5 6 3 3 5 5 8 5 8 2 8 0 5 6 3 3 5 5 8 5 8 2 8 0;"
    and " 0 15 0 1 0 12 10 0 1 4 0 4 14 0 0 0 0 24 22 0 1 16 0 16 26 0 0")
    -- several regular trees in a row: [a] true and (<b+> true or [a*] false)
    ∷ gives (acting "5; 0 4 0 3 0; 0 0 1 0 0" "8; 2 4 0 3 5 0 4 1; 3 0 0 6 1 0 3 0")
    "15; 2 4 0 3 5 6 3 5 8 0 7 2 4 8 1; 3 0 0 10 1 0 9 1 5 0 0 14 0 10 0"
    -- a formula without modalities stays as it is, and needs no regular formula
    ∷ gives (regular "0" "2; 7 8; 0 0") "2; 7 8; 0 0"
    ∷ []

pub expansion_cases : map given expansions ≡ map expected expansions
unfolding every_rule every_expansion_rule
expansion_cases = refl

-- ---- refusals

-- a regular table of so many action formulas
abbrev leaves : ℕ → RegularInput
leaves n = regular_input (words "1 1, 0, 7") (words "1; 2; 0") (n ∷ replicate (2 * n) 0) (words box_true)

abbrev refusals : List Case
refusals =
    -- every fault of the regular table is 61 at place 0 (G3): no words, a wrong length, an unfinished tree, a kind
    refuses (regular "" box_true) 2_049 61 0
    ∷ refuses (regular "1; 0" box_true) 2_049 61 0
    ∷ refuses (regular "1; 3; 0" box_true) 2_049 61 0
    ∷ refuses (regular "2; 0 5; 0 0" box_true) 2_049 61 0
    -- an action formula that names no tree: past the row, or a node inside a tree (not true)
    ∷ refuses (regular "2; 0 0; 0 9" box_true) 2_049 61 0
    ∷ refuses (regular "2; 0 0; 0 1" box_true) 2_049 61 0
    ∷ refuses (input "1 1, 0, 7" "2; 5 0; 0 0" "1; 0; 1" box_true) 2_049 61 0
    -- a right child that is not just past the left one; an operand of a star, of a plus
    ∷ refuses (regular "3; 1 0 0; 1 0 0" box_true) 2_049 61 0
    ∷ refuses (regular "3; 2 0 0; 3 0 0" box_true) 2_049 61 0
    ∷ refuses (regular "2; 3 0; 1 0" box_true) 2_049 61 0
    ∷ refuses (regular "2; 4 0; 1 0" box_true) 2_049 61 0
    -- at most 1,024 nodes (G4)
    ∷ passes (leaves 1_024)
    ∷ refuses (leaves 1_025) 2_049 61 0
    -- exactly 2,049 words (G5)
    ∷ refuses (regular choice_of_two box_true) 2_048 2 0
    ∷ refuses (regular choice_of_two box_true) 2_050 2 0
    -- a modality's operand is judged against the regular trees: node 1 of the choice is the first of no tree, though
    -- the action formulas have one there
    ∷ refuses (acting choice_of_two "2; 4 0; 1 0") 2_049 44 0
    ∷ refuses (acting choice_of_two "2; 5 0; 1 0") 2_049 44 0
    -- a result of 1,024 nodes passes, one of 1,025 does not: eight choices in sequence have 1,021
    ∷ passes (regular eight_choices "5; 4 4 4 4 0; 31 31 31 0 0")
    ∷ refuses (regular eight_choices "6; 4 4 4 4 4 0; 31 31 31 31 0 0") 2_049 62 0
    ∷ refuses (regular nine_choices box_true) 2_049 62 0
    -- the order: 2, then the labels, the action formulas, the regular formulas, the formula, the size
    ∷ refuses (input "" "" "" "") 2_048 2 0
    ∷ refuses (input "" "" "" "") 2_049 11 0
    ∷ refuses (input "4097 1, 4097, 7" "" "" "") 2_049 12 0
    ∷ refuses (input "1 1, 1, 7" "" "" "") 2_049 13 2
    ∷ refuses (input "1 1, 0, 7" "" "" "") 2_049 31 0
    ∷ refuses (input "1 1, 0, 7" "1; 6; 1" "" "") 2_049 33 0
    ∷ refuses (input "1 1, 0, 7" "1; 2; 1" "" "") 2_049 34 0
    ∷ refuses (regular "" "") 2_049 61 0
    ∷ refuses (regular choice_of_two "") 2_049 41 0
    ∷ refuses (regular choice_of_two "0") 2_049 42 0
    ∷ refuses (regular choice_of_two "2; 4 9; 1 0") 2_049 43 1
    ∷ refuses (regular choice_of_two "4; 2 8 4 0; 2 0 1 0") 2_049 44 2
    -- 44 and 45 before 62: a node left over, a reference to an "and"
    ∷ refuses (regular nine_choices "3; 4 0 0; 0 0 0") 2_049 44 2
    ∷ refuses (regular nine_choices "4; 2 8 4 0; 2 0 0 0") 2_049 45 1
    ∷ []

pub refusal_cases : map given refusals ≡ map expected refusals
unfolding every_rule every_expansion_rule
refusal_cases = refl
