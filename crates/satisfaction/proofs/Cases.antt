-- Verdicts on the games of small runs, by computation: formulas that hold, with verdicts that are accepted; one that
-- holds and has no such verdict under the ranks by depth; and one that does not hold and has one, under a ranking whose
-- order is wrong. Assumes nothing.
use mathlib.Core.Path.{◌≡◌, refl, sym, ap, subst, ◌∙◌}
use mathlib.Core.Bool.{Bool, true, false, cond, true≢false}
use mathlib.Core.List.{List, [], ◌∷◌}
use mathlib.Core.Logic.{◌⊎◌, inl, inr}
use Prim.Native.Nat.{ℕ, ◌≤◌, ◌<◌}
use native.Mathlib.Omega.{arith}
use lib.ListN.{get_or, replicate}
use lib.Dec.{eqb}
use Rattle.rules.specs.declared.Answer.TheVariants.{Done}
use Rattle.rules.specs.declared.Room.{Room}
use Rattle.rules.specs.Lists.{In}
use Rattle.rules.specs.Words.{Input, input_of, room_of, game_length, work_length}
use Rattle.rules.specs.Depth.{Ranking, by_depth}
use Rattle.rules.specs.Game.{owner_in, priority_in, targets_in}
use Rattle.rules.specs.Run.{Outcome, run}
use Rattle.rules.proofs.Unfold.{every_rule}
use Rattle.rules.proofs.Print.{words}
use Rattle.writing.specs.Nodes.{table_words}
use Rattle.writing.specs.ActionSyntax.{ActionSyntax, label_action, action_size, write_action, row_size, write_row, row_words, first_node, read_action}
use Rattle.writing.specs.FormulaSyntax.{FormulaSyntax, diamond_formula, least_formula, greatest_formula, reference_formula, Written, write_over, words_over}
use Rattle.writing.specs.FormulaSyntax.{formula_size, fixpoints, begins_with_fixpoint, read_formula, read_equations, read_system, equations_read}
use Rattle.meaning.specs.Quantifiers.{all, any}
use Rattle.meaning.specs.Satisfies.{nowhere, Satisfied}
use Rattle.meaning.specs.Evaluation.{everywhere, iterate, evaluate_by, evaluate}
use Rattle.meaning.proofs.Told.{satisfied_exactly}
use Rattle.satisfaction.specs.Ranks.{is_even, Parity, right_parity, is_right, right_nodes, is_sound}
use Rattle.satisfaction.specs.Verdict.{Kept, AcceptedVerdict, Verdict, right_numbers, right_edge, right_vertex, passes}
use Rattle.satisfaction.specs.Claims.{Finished}
use Rattle.satisfaction.proofs.Passes.{passes_accepted}
use Rattle.satisfaction.proofs.Nesting.{parity_tested, sound_tested, sound_pass_sound}
use Rattle.satisfaction.proofs.VerdictMeans.{done_good, verdict_means}

-- ---- formulas

-- Label 0 is the action 7, label 1 the action 8; the action formulas are the two labels, a and b. In `on_loop` state 0
-- is the only state, with a transition to itself on label 0; in `on_step` state 0 has a transition to state 1 on label
-- 0, and state 1 has none
abbrev row : List ActionSyntax
row = label_action 0 ∷ label_action 1 ∷ []

abbrev pub on_loop : List ℕ → Input
on_loop f = input_of (words "2 2, 0 1, 7 8") (words "1 1 0, 1, 0, 0") (words "2, 2 2, 0 1") f

abbrev pub on_step : List ℕ → Input
on_step f = input_of (words "2 2, 0 1, 7 8") (words "2 1 0, 1 0, 0, 1") (words "2, 2 2, 0 1") f

-- 01's case 1, greatest X, <a> X: a can go on for ever
abbrev for_ever : List ℕ
for_ever = words "3, 7 5 8, 0 0 0"

-- least X, [a] X: every run of a ends
abbrev ends : List ℕ
ends = words "3, 6 4 8, 0 0 0"

-- 01's case 8: greatest X, least Y, (<a> X or greatest Z, least W, <b> Y)
abbrev nested : List ℕ
nested = words "9, 7 6 3 5 8 7 6 5 8, 0 0 5 0 0 0 0 1 1"

-- greatest X, least Y, (X or greatest Z, Y)
abbrev alarm : List ℕ
alarm = words "6, 7 6 3 8 7 8, 0 0 4 0 0 1"

-- least X, greatest Z, <a> X: on the loop it does not hold, as least X, <a> X does not
abbrev never_inside : FormulaSyntax
never_inside = least_formula (greatest_formula (diamond_formula 0 (reference_formula 1)))

abbrev loop_never : Input
loop_never = on_loop (words "4, 6 7 5 8, 0 0 0 0")

-- ---- verdicts

-- ranking, input, room, region, picks, and the one row of numbers that matters, for priority p
pub record Example : Type 0 where
  pub rank : Ranking
  pub input : Input
  pub room : Room
  pub region : List Bool
  pub picks : List ℕ
  pub odd : ℕ
  pub row : List ℕ

abbrev pub outcome : Example → Outcome
outcome v = run v.rank v.input v.room 64 (replicate (game_length v.room) 9) (replicate (work_length v.room) 9)

abbrev region_of : Example → ℕ → Bool
region_of v u = get_or v.region u false

abbrev pick_of : Example → ℕ → ℕ
pick_of v u = get_or v.picks u 0

abbrev number_of : Example → (p u : ℕ) → ℕ
number_of v p u = cond (eqb p v.odd) (get_or v.row u 0) 0

-- the run is Done, with so many steps, vertices and edges, and the verdict passes
abbrev Passes : Example → (s n m : ℕ) → Type 0
Passes v s n m = ((outcome v).answer ≡ Done s n m) × (passes (outcome v).game (region_of v) (pick_of v) (number_of v) ≡ true)

accepted_example : (v : Example) → passes (outcome v).game (region_of v) (pick_of v) (number_of v) ≡ true → Verdict (outcome v).game
accepted_example v e =
    record { region = region_of v; pick = pick_of v; number = number_of v; accepted = passes_accepted (outcome v).game (region_of v) (pick_of v) (number_of v) e }

-- 01's case 1: Even keeps to the loop
abbrev pub case_for_ever : Example
case_for_ever =
    record {
      rank = by_depth;
      input = on_loop for_ever;
      room = room_of 3 3;
      region = true ∷ true ∷ true ∷ [];
      picks = 1 ∷ 2 ∷ 0 ∷ [];
      odd = 1;
      row = [];
    }

-- every run of a ends after one step: the number for priority 1 falls twice
abbrev pub case_ends : Example
case_ends =
    record {
      rank = by_depth;
      input = on_step ends;
      room = room_of 5 5;
      region = true ∷ true ∷ true ∷ true ∷ true ∷ [];
      picks = [];
      odd = 1;
      row = 2 ∷ 1 ∷ 1 ∷ 1 ∷ 0 ∷ [];
    }

-- 01's case 8 under the ranks 4, 3, 2, 1: play runs through X and Y for ever, and X is above Y
abbrev ranks4321 : Ranking
ranks4321 x i = get_or (4 ∷ 3 ∷ 2 ∷ 1 ∷ []) i 0

abbrev pub case_nested : Example
case_nested =
    record {
      rank = ranks4321;
      input = on_loop nested;
      room = room_of 11 12;
      region = true ∷ true ∷ true ∷ true ∷ true ∷ false ∷ false ∷ false ∷ false ∷ false ∷ true ∷ [];
      picks = 1 ∷ 0 ∷ 0 ∷ 4 ∷ 10 ∷ [];
      odd = 3;
      row = 0 ∷ 1 ∷ 1 ∷ [];
    }

-- greatest X, least Y, (X or greatest Z, Y) under the same ranks: Even always chooses X
abbrev case_alarm : Example
case_alarm =
    record {
      rank = ranks4321;
      input = on_loop alarm;
      room = room_of 7 8;
      region = true ∷ true ∷ true ∷ true ∷ true ∷ [];
      picks = 1 ∷ 0 ∷ 0 ∷ 4 ∷ [];
      odd = 3;
      row = 0 ∷ 1 ∷ 1 ∷ [];
    }

-- least X, greatest Z, <a> X with Z ranked above X: parity is right, the order is not, and Even seems to win
abbrev pub case_wrong : Example
case_wrong =
    record {
      rank = λ x i. get_or (1 ∷ 2 ∷ []) i 0;
      input = loop_never;
      room = room_of 5 5;
      region = true ∷ true ∷ true ∷ true ∷ true ∷ [];
      picks = 1 ∷ 2 ∷ 3 ∷ 4 ∷ 0 ∷ [];
      odd = 1;
      row = 1 ∷ 0 ∷ 0 ∷ 1 ∷ 1 ∷ [];
    }

abbrev pub alarm_run : Outcome
alarm_run = run by_depth (on_loop alarm) (room_of 7 8) 64 (replicate (game_length (room_of 7 8)) 9) (replicate (work_length (room_of 7 8)) 9)

-- vertices 0 to 6 stand for X, Y as it is referred to, Y, the choice, X and Z as they are referred to, Z: that is what
-- their items say, and each has state 0. Y's 3 beats X's 2. There is no modality: each of the 8 edges has count 0
abbrev alarm_game : List ℕ
alarm_game =
    7 ∷ 8 ∷ 0 ∷ 0 ∷ 1 ∷ 1 ∷ 0 ∷ 1 ∷ 1 ∷ 0 ∷ 2 ∷ 0 ∷ 3 ∷ 0 ∷ 0 ∷ 0 ∷ 0
    ∷ 0 ∷ 0 ∷ 0 ∷ 0 ∷ 0 ∷ 0 ∷ 0 ∷ 0 ∷ 3 ∷ 1 ∷ 4 ∷ 5 ∷ 6 ∷ 2
    ∷ 0 ∷ 1 ∷ 2 ∷ 3 ∷ 5 ∷ 6 ∷ 7 ∷ 8 ∷ 1 ∷ 2 ∷ 3 ∷ 4 ∷ 5 ∷ 0 ∷ 6 ∷ 1 ∷ 0 ∷ 0 ∷ 0 ∷ 0 ∷ 0 ∷ 0 ∷ 0 ∷ 0 ∷ []

-- ---- computed

abbrev Computed : Type 0
Computed =
    (is_sound by_depth (on_loop for_ever) ≡ true)
    × (is_sound by_depth (on_step ends) ≡ true)
    × (is_sound ranks4321 (on_loop nested) ≡ true)
    × (is_sound ranks4321 (on_loop alarm) ≡ true)
    × (is_sound by_depth (on_loop nested) ≡ false)
    × Passes case_for_ever 3 3 3
    × Passes case_ends 5 5 5
    × Passes case_nested 11 11 12
    × Passes case_alarm 7 7 8
    × (alarm_run.answer ≡ Done 7 7 8)
    × (alarm_run.game ≡ alarm_game)
    × (is_right case_wrong.rank loop_never ≡ true)
    × Passes case_wrong 5 5 5
    × (evaluate loop_never row never_inside [] 0 ≡ false)

computed : Computed
unfolding every_rule all any nowhere everywhere iterate evaluate_by read_action is_even right_parity is_right right_nodes is_sound right_numbers right_edge right_vertex passes
computed = (refl, refl, refl, refl, refl, (refl, refl), (refl, refl), (refl, refl), (refl, refl), refl, refl, refl, (refl, refl), refl)

-- ---- formulas that hold

holds : (v : Example) (s n m : ℕ) → is_sound v.rank v.input ≡ true → Passes v s n m → Satisfied v.input
holds v s n m sound (d, e) =
    verdict_means v.rank v.input v.room 64 (replicate (game_length v.room) 9) (replicate (work_length v.room) 9)
    (sound_pass_sound v.rank v.input ((sound_tested v.rank v.input).1 sound)) (s, n, m, d) (accepted_example v e)

pub satisfied_cases : Satisfied case_for_ever.input × Satisfied case_ends.input × Satisfied case_nested.input
satisfied_cases = (
  holds case_for_ever 3 3 3 computed.0 computed.5,
  holds case_ends 5 5 5 computed.1 computed.6,
  holds case_nested 11 11 12 computed.2 computed.7,
)

-- the ranks by depth are not sound in 01's case 8: Y's 3 beats X's 2
pub depth_unsound : is_sound by_depth case_nested.input ≡ false
depth_unsound = computed.4

-- ---- the order can't be dropped: parity is right, a verdict is accepted, and the formula does not hold

written_never : Written loop_never
unfolding every_rule table_words action_size write_action row_size write_row row_words first_node read_action formula_size write_over words_over fixpoints begins_with_fixpoint read_formula read_equations read_system equations_read
written_never =
    record {
      row = row;
      whole = never_inside;
      row_fits = record { below = (omega arith, (omega arith, tt)); few = omega arith };
      formula_fits = record { closed = (omega arith, omega arith); few = omega arith };
      action_words = refl;
      whole_words = refl;
      reads = refl;
    }

pub wrong_order : Parity case_wrong.rank loop_never × Finished (outcome case_wrong).answer × Verdict (outcome case_wrong).game × (¬ Satisfied loop_never)
unfolding written_never
wrong_order =
    let done : Finished (outcome case_wrong).answer = (5, 5, 5, computed.12.0) in (
      (parity_tested case_wrong.rank loop_never).1 computed.11,
      done,
      accepted_example case_wrong computed.12.1,
      λ h. true≢false (sym ((satisfied_exactly loop_never (done_good case_wrong.rank loop_never (room_of 5 5) 64 (replicate (game_length (room_of 5 5)) 9) (replicate (work_length (room_of 5 5)) 9) done) written_never).0 h) ∙ computed.13),
    )

-- ---- a false alarm: the formula holds, and under the ranks by depth no verdict is accepted

module _ (region : ℕ → Bool) (pick : ℕ → ℕ) (number : (p v : ℕ) → ℕ) (accepted : AcceptedVerdict alarm_game region pick number) where
  -- along a kept edge the number for 3 never rises, and falls after Y
  record Step (v w : ℕ) : Type 0 where
    claimed : region w ≡ true
    stays : number 3 w ≤ number 3 v
    falls : priority_in alarm_game v ≡ 3 → number 3 w < number 3 v

  kept_step : (v w : ℕ) → Kept alarm_game region pick number v w → region w ≡ true → priority_in alarm_game v ≤ 3 → priority_in alarm_game w ≤ 3 → Step v w
  unfolding is_even
  kept_step v w kept c a b =
      let known : 2 < 7 = omega arith in
      let (y, z) = accepted.falls v w 3 kept (refl, (2, known, refl)) a b in
      record { claimed = c; stays = y; falls = z }

  odd_step : (v w : ℕ) → v < 7 → region v ≡ true → owner_in alarm_game v ≡ 1 → In w (targets_in alarm_game v) → priority_in alarm_game v ≤ 3 → priority_in alarm_game w ≤ 3 → Step v w
  odd_step v w l r o m = kept_step v w (record { known = l; claimed = r; edge = m; picked = λ e. absurd (omega (arith, sym e ∙ o)) }) (accepted.stays v w l r o m)

  even_step : (v : ℕ) → v < 7 → region v ≡ true → owner_in alarm_game v ≡ 0 → (w : ℕ) → pick v ≡ w → priority_in alarm_game v ≤ 3 → priority_in alarm_game w ≤ 3 → Step v w
  even_step v l r o w e =
      let (m, c) = accepted.picks v l r o in
      kept_step v w (record { known = l; claimed = r; edge = subst (λ (u : ℕ). In u (targets_in alarm_game v)) e m; picked = λ i. sym e }) (ap region (sym e) ∙ c)

  only : {n k : ℕ} → In n (k ∷ []) → n ≡ k
  only (inl d) = d
  only (inr d) = absurd d

  two : {n k l : ℕ} → In n (k ∷ l ∷ []) → (n ≡ k) ⊎ (n ≡ l)
  two (inl d) = inl d
  two (inr (inl d)) = inr d
  two (inr (inr d)) = absurd d

  abbrev Most : ℕ → Type 0
  Most n = n ≤ 3

  most_0 : Most 0
  most_0 = omega arith

  most_2 : Most 2
  most_2 = omega arith

  most_3 : Most 3
  most_3 = omega arith

  not_accepted : ⊥
  not_accepted =
      let a = even_step 0 (omega arith) accepted.starts refl 1 (only (accepted.picks 0 (omega arith) accepted.starts refl).0) most_2 most_0 in
      let b = odd_step 1 2 (omega arith) a.claimed refl (inl refl) most_0 most_3 in
      let c = odd_step 2 3 (omega arith) b.claimed refl (inl refl) most_3 most_0 in
      choice a b c (two (accepted.picks 3 (omega arith) c.claimed refl).0)
    where
      choice : Step 0 1 → Step 1 2 → Step 2 3 → (pick 3 ≡ 4) ⊎ (pick 3 ≡ 5) → ⊥
      choice a b c (inl e) =
          let d = even_step 3 (omega arith) c.claimed refl 4 e most_0 most_0 in
          let f = odd_step 4 0 (omega arith) d.claimed refl (inl refl) most_0 most_2 in
          let l = c.falls refl in
          omega (arith, a.stays, b.stays, d.stays, f.stays)
      choice a b c (inr e) =
          let d = even_step 3 (omega arith) c.claimed refl 5 e most_0 most_0 in
          let f = odd_step 5 6 (omega arith) d.claimed refl (inl refl) most_0 most_0 in
          let h = even_step 6 (omega arith) f.claimed refl 1 (only (accepted.picks 6 (omega arith) f.claimed refl).0) most_0 most_0 in
          let l = c.falls refl in
          omega (arith, b.stays, d.stays, f.stays, h.stays)

-- so "accepted exactly if satisfied" fails for the ranks by depth, in this direction
pub false_alarm : Satisfied (on_loop alarm) × Finished alarm_run.answer × (¬ Verdict alarm_run.game)
false_alarm = (
  holds case_alarm 7 7 8 computed.3 computed.8,
  (7, 7, 8, computed.9),
  λ v. refuted (subst Verdict computed.10 v),
)
  where
    refuted : Verdict alarm_game → ⊥
    refuted v = not_accepted v.region v.pick v.number v.accepted
