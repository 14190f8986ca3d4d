-- The checks of room, labels and system find exactly the faults of document 01. Assumes nothing.
use Prim.Native.Nat.{ℕ, zero, suc, ◌+◌, ◌*◌, ◌-◌, ◌≤◌, ◌<◌}
use native.Mathlib.Omega.{arith}
use mathlib.Core.Path.{◌≡◌, subst}
use mathlib.Core.Bool.{true, ◌&&◌, ◌||◌}
use mathlib.Core.List.{List, [], ◌∷◌}
use mathlib.Core.Logic.{◌⊎◌, inl, inr}
use lib.ListN.{length}
use lib.Dec.{ltb, leb}
use borrow.Author.Tests.{ltb-true, leb-true, lt-ltb, le-leb}
use Rattle.rules.specs.Answers.{Check}
use Rattle.rules.specs.Lists.{word, sum_words}
use Rattle.rules.specs.declared.Room.{Room}
use Rattle.rules.specs.Words.{most_labels, most_actions, most_states, most_transitions, most_vertices, most_edges, game_length, work_length}
use Rattle.rules.specs.Labels.{label_count, action_count}
use Rattle.rules.specs.System.{state_count, transition_count, initial_state, transition_label, transition_target}
use Rattle.rules.specs.Refusal.{outside, differ, bad_label, too_large}
use Rattle.rules.specs.Refusal.{refusal1, refusal2, refusal11, refusal12, refusal13, refusal21, refusal22, refusal23, refusal24, refusal25, refusal26}
use Rattle.rules.specs.Faulty.{FaultyRoom, few_vertices, many_vertices, few_edges, many_edges, wrong_game, wrong_work}
use Rattle.rules.specs.Faulty.{FaultyLabels, few_label_words, wrong_label_words, many_labels, many_actions, label_too_large, label_falls}
use Rattle.rules.specs.Faulty.{FaultySystem, few_system_words, wrong_system_words, few_states, many_states, many_transitions, wrong_initial, wrong_degrees, wrong_label, wrong_target}
use Rattle.tables.proofs.Order.{Finds, Sound, Each, Some, if_finds, from_finds, if_sound, from_sound}
use Rattle.lists.proofs.Tests.{or_left, or_right, or-true, and-true}
use Rattle.tables.proofs.Choices.{differ_true, differ_yes, outside_true, below_outside, above_outside}

-- ---- room

module _ (r : Room) (game work : ℕ) where
  abbrev pub room_checks : List Check
  room_checks = refusal1 r ∷ refusal2 r game work ∷ []

  limits : (outside 1 most_vertices r.vertices || outside 1 most_edges r.edges) ≡ true → FaultyRoom r game work 1 0
  limits e = go (or-true (outside 1 most_vertices r.vertices) (outside 1 most_edges r.edges) e)
    where
      vertices : (r.vertices < 1) ⊎ (most_vertices < r.vertices) → FaultyRoom r game work 1 0
      vertices (inl l) = few_vertices l
      vertices (inr l) = many_vertices l

      edges : (r.edges < 1) ⊎ (most_edges < r.edges) → FaultyRoom r game work 1 0
      edges (inl l) = few_edges l
      edges (inr l) = many_edges l

      go : (outside 1 most_vertices r.vertices ≡ true) ⊎ (outside 1 most_edges r.edges ≡ true) → FaultyRoom r game work 1 0
      go (inl i) = vertices (outside_true 1 most_vertices r.vertices i)
      go (inr i) = edges (outside_true 1 most_edges r.edges i)

  slices : (differ game (game_length r) || differ work (work_length r)) ≡ true → FaultyRoom r game work 2 0
  slices e = go (or-true (differ game (game_length r)) (differ work (work_length r)) e)
    where
      go : (differ game (game_length r) ≡ true) ⊎ (differ work (work_length r) ≡ true) → FaultyRoom r game work 2 0
      go (inl i) = wrong_game (differ_true game (game_length r) i)
      go (inr i) = wrong_work (differ_true work (work_length r) i)

  pub room_sound : Each (Sound (FaultyRoom r game work)) room_checks
  unfolding refusal1 refusal2
  room_sound = (if_sound (FaultyRoom r game work) 1 0 _ limits, (if_sound (FaultyRoom r game work) 2 0 _ slices, tt))

  pub room_finds : {n q : ℕ} → FaultyRoom r game work n q → Some (Finds n q) room_checks
  unfolding refusal1 refusal2
  room_finds (few_vertices l) =
      inl (if_finds 1 0 _ (or_left (outside 1 most_edges r.edges) (below_outside most_vertices l)))
  room_finds (many_vertices l) =
      inl (if_finds 1 0 _ (or_left (outside 1 most_edges r.edges) (above_outside 1 l)))
  room_finds (few_edges l) = inl (if_finds 1 0 _ (or_right (outside 1 most_vertices r.vertices) (below_outside most_edges l)))
  room_finds (many_edges l) = inl (if_finds 1 0 _ (or_right (outside 1 most_vertices r.vertices) (above_outside 1 l)))
  room_finds (wrong_game d) = inr (inl (if_finds 2 0 _ (or_left (differ work (work_length r)) (differ_yes d))))
  room_finds (wrong_work d) = inr (inl (if_finds 2 0 _ (or_right (differ game (game_length r)) (differ_yes d))))

-- ---- labels

module _ (ls : List ℕ) where
  abbrev pub label_checks : List Check
  label_checks = refusal11 ls ∷ refusal12 ls ∷ refusal13 ls ∷ []

  label_length : (ltb (length ls) 2 || differ (length ls) (2 + 2 * action_count ls)) ≡ true → FaultyLabels ls 11 0
  label_length e = go (or-true (ltb (length ls) 2) (differ (length ls) (2 + 2 * action_count ls)) e)
    where
      go : (ltb (length ls) 2 ≡ true) ⊎ (differ (length ls) (2 + 2 * action_count ls) ≡ true) → FaultyLabels ls 11 0
      go (inl i) = few_label_words (ltb-true (length ls) 2 i)
      go (inr i) = wrong_label_words (differ_true (length ls) (2 + 2 * action_count ls) i)

  label_counts : (ltb most_labels (label_count ls) || ltb most_actions (action_count ls)) ≡ true → FaultyLabels ls 12 0
  label_counts e = go (or-true (ltb most_labels (label_count ls)) (ltb most_actions (action_count ls)) e)
    where
      go : (ltb most_labels (label_count ls) ≡ true) ⊎ (ltb most_actions (action_count ls) ≡ true) → FaultyLabels ls 12 0
      go (inl i) = many_labels (ltb-true most_labels (label_count ls) i)
      go (inr i) = many_actions (ltb-true most_actions (action_count ls) i)

  label-falls : (w : ℕ) → 2 < w → w < 2 + action_count ls → word ls w < word ls (w - 1) → FaultyLabels ls 13 w
  label-falls zero a b c = absurd (omega arith)
  label-falls (suc w) a b c =
      let i : suc w - 1 ≡ w = omega arith in
      label_falls w (omega arith) b (rw i at c)

  label_numbers : (w : ℕ) → 2 ≤ w → w < 2 + action_count ls → bad_label ls w ≡ true → FaultyLabels ls 13 w
  unfolding bad_label
  label_numbers w a b e = go (or-true (leb (label_count ls) (word ls w)) (ltb 2 w && ltb (word ls w) (word ls (w - 1))) e)
    where
      go : (leb (label_count ls) (word ls w) ≡ true) ⊎ ((ltb 2 w && ltb (word ls w) (word ls (w - 1))) ≡ true) → FaultyLabels ls 13 w
      go (inl i) = label_too_large w a b (leb-true (label_count ls) (word ls w) i)
      go (inr i) =
          let (x, y) = and-true (ltb 2 w) (ltb (word ls w) (word ls (w - 1))) i in
          label-falls w (ltb-true 2 w x) b (ltb-true (word ls w) (word ls (w - 1)) y)

  falls_bad : (w : ℕ) → 2 ≤ w → word ls (suc w) < word ls w → bad_label ls (suc w) ≡ true
  unfolding bad_label
  falls_bad w a l =
      let i : suc w - 1 ≡ w = omega arith in
      or_right (leb (label_count ls) (word ls (suc w)))
      (rw (i, lt-ltb 2 (suc w) (omega arith)) (lt-ltb (word ls (suc w)) (word ls w) l))

  large_bad : (w : ℕ) → label_count ls ≤ word ls w → bad_label ls w ≡ true
  unfolding bad_label
  large_bad w l = or_left (ltb 2 w && ltb (word ls w) (word ls (w - 1))) (le-leb (label_count ls) (word ls w) l)

  pub label_sound : Each (Sound (FaultyLabels ls)) label_checks
  unfolding refusal11 refusal12 refusal13
  label_sound = (
    if_sound (FaultyLabels ls) 11 0 _ label_length,
    (if_sound (FaultyLabels ls) 12 0 _ label_counts, (from_sound (FaultyLabels ls) 13 2 (2 + action_count ls) (bad_label ls) label_numbers, tt)),
  )

  pub label_finds : {n q : ℕ} → FaultyLabels ls n q → Some (Finds n q) label_checks
  unfolding refusal11 refusal12 refusal13
  label_finds (few_label_words l) = inl (if_finds 11 0 _ (or_left (differ (length ls) (2 + 2 * action_count ls)) (lt-ltb (length ls) 2 l)))
  label_finds (wrong_label_words d) =
      inl (if_finds 11 0 _ (or_right (ltb (length ls) 2) (differ_yes d)))
  label_finds (many_labels l) =
      inr (inl (if_finds 12 0 _ (or_left (ltb most_actions (action_count ls)) (lt-ltb most_labels (label_count ls) l))))
  label_finds (many_actions l) =
      inr (inl (if_finds 12 0 _ (or_right (ltb most_labels (label_count ls)) (lt-ltb most_actions (action_count ls) l))))
  label_finds (label_too_large w a b l) = inr (inr (inl (from_finds 13 2 (2 + action_count ls) (bad_label ls) w a b (large_bad w l))))
  label_finds (label_falls w a b l) = inr (inr (inl (from_finds 13 2 (2 + action_count ls) (bad_label ls) (suc w) (omega arith) b (falls_bad w a l))))

-- ---- the system

module _ (ls ss : List ℕ) where
  abbrev pub system_checks : List Check
  system_checks = refusal21 ss ∷ refusal22 ss ∷ refusal23 ss ∷ refusal24 ss ∷ refusal25 ls ss ∷ refusal26 ss ∷ []

  abbrev F : ℕ → ℕ → Type 0
  F = FaultySystem (label_count ls) ss

  system_length : (ltb (length ss) 3 || differ (length ss) (3 + state_count ss + 2 * transition_count ss)) ≡ true → F 21 0
  system_length e = go (or-true (ltb (length ss) 3) (differ (length ss) (3 + state_count ss + 2 * transition_count ss)) e)
    where
      go : (ltb (length ss) 3 ≡ true) ⊎ (differ (length ss) (3 + state_count ss + 2 * transition_count ss) ≡ true) → F 21 0
      go (inl i) = few_system_words (ltb-true (length ss) 3 i)
      go (inr i) = wrong_system_words (differ_true (length ss) (3 + state_count ss + 2 * transition_count ss) i)

  system_counts : (outside 1 most_states (state_count ss) || ltb most_transitions (transition_count ss)) ≡ true → F 22 0
  system_counts e = go (or-true (outside 1 most_states (state_count ss)) (ltb most_transitions (transition_count ss)) e)
    where
      states : (state_count ss < 1) ⊎ (most_states < state_count ss) → F 22 0
      states (inl l) = few_states l
      states (inr l) = many_states l

      go : (outside 1 most_states (state_count ss) ≡ true) ⊎ (ltb most_transitions (transition_count ss) ≡ true) → F 22 0
      go (inl i) = states (outside_true 1 most_states (state_count ss) i)
      go (inr i) = many_transitions (ltb-true most_transitions (transition_count ss) i)

  system_labels : (w : ℕ) → 3 + state_count ss ≤ w → w < 3 + state_count ss + transition_count ss → too_large ss (label_count ls) w ≡ true → F 25 w
  unfolding too_large
  system_labels w a b e =
      let i : 3 + state_count ss + (w - (3 + state_count ss)) ≡ w = omega arith in
      subst (F 25) i (wrong_label (w - (3 + state_count ss)) (omega arith) (rw i (leb-true (label_count ls) (word ss w) e)))

  system_targets : (w : ℕ) → 3 + state_count ss + transition_count ss ≤ w → w < 3 + state_count ss + 2 * transition_count ss → too_large ss (state_count ss) w ≡ true → F 26 w
  unfolding too_large
  system_targets w a b e =
      let i : 3 + state_count ss + transition_count ss + (w - (3 + state_count ss + transition_count ss)) ≡ w = omega arith in
      subst (F 26) i (wrong_target (w - (3 + state_count ss + transition_count ss)) (omega arith) (rw i (leb-true (state_count ss) (word ss w) e)))

  pub system_sound : Each (Sound (FaultySystem (label_count ls) ss)) system_checks
  unfolding refusal21 refusal22 refusal23 refusal24 refusal25 refusal26
  system_sound = (
    if_sound F 21 0 _ system_length,
    (
      if_sound F 22 0 _ system_counts,
      (
        if_sound F 23 2 _ (λ e. wrong_initial (leb-true (state_count ss) (initial_state ss) e)),
        (
          if_sound F 24 1 _ (λ e. wrong_degrees (differ_true (sum_words ss 3 (state_count ss)) (transition_count ss) e)),
          (
            from_sound F 25 (3 + state_count ss) (3 + state_count ss + transition_count ss) (too_large ss (label_count ls)) system_labels,
            (from_sound F 26 (3 + state_count ss + transition_count ss) (3 + state_count ss + 2 * transition_count ss) (too_large ss (state_count ss)) system_targets, tt),
          ),
        ),
      ),
    ),
  )

  pub system_finds : {n q : ℕ} → FaultySystem (label_count ls) ss n q → Some (Finds n q) system_checks
  unfolding refusal21 refusal22 refusal23 refusal24 refusal25 refusal26 too_large
  system_finds (few_system_words l) =
      inl (if_finds 21 0 _ (or_left (differ (length ss) (3 + state_count ss + 2 * transition_count ss)) (lt-ltb (length ss) 3 l)))
  system_finds (wrong_system_words d) =
      inl (if_finds 21 0 _ (or_right (ltb (length ss) 3) (differ_yes d)))
  system_finds (few_states l) =
      inr (inl (if_finds 22 0 _ (or_left (ltb most_transitions (transition_count ss)) (below_outside most_states l))))
  system_finds (many_states l) =
      inr (inl (if_finds 22 0 _ (or_left (ltb most_transitions (transition_count ss)) (above_outside 1 l))))
  system_finds (many_transitions l) =
      inr (inl (if_finds 22 0 _ (or_right (outside 1 most_states (state_count ss)) (lt-ltb most_transitions (transition_count ss) l))))
  system_finds (wrong_initial l) = inr (inr (inl (if_finds 23 2 _ (le-leb (state_count ss) (initial_state ss) l))))
  system_finds (wrong_degrees d) = inr (inr (inr (inl (if_finds 24 1 _ (differ_yes d)))))
  system_finds (wrong_label t a l) =
      inr (inr (inr (inr (inl
      (from_finds 25 (3 + state_count ss) (3 + state_count ss + transition_count ss) (too_large ss (label_count ls)) (3 + state_count ss + t) (omega arith) (omega arith)
      (le-leb (label_count ls) (transition_label ss t) l))))))
  system_finds (wrong_target t a l) =
      inr (inr (inr (inr (inr (inl
      (from_finds 26 (3 + state_count ss + transition_count ss) (3 + state_count ss + 2 * transition_count ss) (too_large ss (state_count ss))
      (3 + state_count ss + transition_count ss + t) (omega arith) (omega arith)
      (le-leb (state_count ss) (transition_target ss t) l)))))))
