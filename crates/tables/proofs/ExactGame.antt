-- Refusals of the restriction are exact: it is refused with fault n at place p exactly if that is the first fault of
-- the game and the lent slices, in the order 51, 52, 53, 2 and then of places; it is not refused exactly if there is no
-- fault. Assumes nothing.
use Prim.Native.Nat.{ℕ, suc, ◌+◌, ◌-◌, ◌≤◌, ◌<◌}
use native.Mathlib.Omega.{arith}
use mathlib.Core.Path.{◌≡◌, sym, ap, ◌∙◌, subst}
use mathlib.Core.Bool.{true, ◌||◌}
use mathlib.Core.List.{List, [], ◌∷◌, ◌++◌}
use mathlib.Core.Logic.{◌⊎◌, inl, inr, ⊎_elim, ◌↔◌}
use lib.ListN.{length}
use lib.Dec.{eqb, ltb, leb}
use borrow.Author.Tests.{ltb-true, leb-true, eqb-true, lt-ltb, le-leb, eq-eqb}
use Rattle.rules.specs.Answers.{Check}
use Rattle.std.specs.declared.result.Result.TheVariants.{Ok}
use Rattle.rules.specs.Answers.{fault}
use Rattle.rules.specs.Lists.{word, position}
use Rattle.rules.specs.Words.{most_vertices, most_edges}
use Rattle.rules.specs.Answers.{fault_if, and_then, first_fault}
use Rattle.rules.specs.Game.{game_words, vertex_count, edges_in, initial_in, vertex_column_at, offsets_at, edge_column_at}
use Rattle.rules.specs.Game.{offset_in}
use Rattle.rules.specs.Refusal.{differ, too_large, fault_from, lower_fault}
use Rattle.rules.specs.FaultyGame.{owner_place, offset_place, target_place, FaultyGame, FaultyRestriction}
use Rattle.rules.specs.FaultyGame.{restriction_turn, FirstFaultyRestriction, faulty_game}
use Rattle.rules.specs.FaultyGame.{few_game_words, wrong_game_words, no_vertex, vertices_above_room, edges_above_room}
use Rattle.rules.specs.FaultyGame.{offsets_begin, offset_falls, offsets_end, initial_too_large, owner_too_large}
use Rattle.rules.specs.FaultyGame.{target_too_large, wrong_out, wrong_map, wrong_work}
use Rattle.rules.specs.GameRefusal.{above_room, refusal51, falls, refusal52, refusal53, game_refusal}
use Rattle.rules.specs.Restrict.{restriction_refusal}
use Rattle.lists.proofs.Tests.{or_left, or_right, or-true}
use Rattle.tables.proofs.Choices.{differ_true, differ_yes, large}
use Rattle.tables.proofs.Faults.{then_last, then_assoc}
use Rattle.tables.proofs.Order.{Numbered, Finds, Sound, Each, Some, Rising}
use Rattle.tables.proofs.Order.{if_numbered, from_numbered, lower_numbered, if_sound, from_sound, lower_sound}
use Rattle.tables.proofs.Order.{if_finds, from_finds, lower_finds_left, lower_finds_right}
use Rattle.tables.proofs.Order.{each_map, each_append, some_left, some_right}
use Rattle.tables.proofs.Order.{first_exact, passed_exact, none_or_first}

-- ---- a game that is handed over: 51, 52, 53

module _ (g : List ℕ) where
  abbrev F : ℕ → ℕ → Type 0
  F = FaultyGame g

  abbrev n : ℕ
  n = vertex_count g

  abbrev m : ℕ
  m = edges_in g

  -- ---- 51

  sizes_sound : Sound F (refusal51 g)
  unfolding refusal51 above_room
  sizes_sound =
      if_sound F 51 0 _
      (λ e. ⊎_elim (λ i. few_game_words (ltb-true (length g) 3 i))
      (λ e. ⊎_elim (λ i. wrong_game_words (differ_true (length g) (game_words n m) i))
      (λ e. ⊎_elim (λ i. no_vertex (eqb-true n 0 i))
      (λ e. ⊎_elim (λ i. vertices_above_room (ltb-true most_vertices n i)) (λ i. edges_above_room (ltb-true most_edges m i))
      (or-true (ltb most_vertices n) (ltb most_edges m) e))
      (or-true (eqb n 0) (above_room n m) e))
      (or-true (differ (length g) (game_words n m)) (eqb n 0 || above_room n m) e))
      (or-true (ltb (length g) 3) (differ (length g) (game_words n m) || (eqb n 0 || above_room n m)) e))

  sizes_few : (length g < 3) → Finds 51 0 (refusal51 g)
  unfolding refusal51
  sizes_few l = if_finds 51 0 _ (or_left _ (lt-ltb (length g) 3 l))

  -- a test of 51 after the first
  sizes_finds : (differ (length g) (game_words n m) || (eqb n 0 || above_room n m)) ≡ true → Finds 51 0 (refusal51 g)
  unfolding refusal51
  sizes_finds e = if_finds 51 0 _ (or_right (ltb (length g) 3) e)

  sizes_above : above_room n m ≡ true → Finds 51 0 (refusal51 g)
  sizes_above e = sizes_finds (or_right (differ (length g) (game_words n m)) (or_right (eqb n 0) e))

  many-vertices : most_vertices < n → above_room n m ≡ true
  unfolding above_room
  many-vertices l = or_left (ltb most_edges m) (lt-ltb most_vertices n l)

  many-edges : most_edges < m → above_room n m ≡ true
  unfolding above_room
  many-edges l = or_right (ltb most_vertices n) (lt-ltb most_edges m l)

  -- ---- 52: the first offset, falls, the last offset

  abbrev begins : Check
  begins = fault_if 52 (offsets_at g) (differ (offset_in g 0) 0)

  abbrev falling : Check
  falling = fault_from 52 (1 + offsets_at g) (1 + offsets_at g + n) (falls g)

  abbrev ends : Check
  ends = fault_if 52 (offsets_at g + n) (differ (offset_in g n) m)

  later_numbered : Numbered 52 (lower_fault falling ends)
  later_numbered = lower_numbered 52 falling ends (from_numbered 52 _ _ _) (if_numbered 52 _ _)

  begins_sound : Sound F begins
  begins_sound =
      let i : offset_place g 0 ≡ offsets_at g = omega arith in
      if_sound F 52 (offsets_at g) _ (λ e. subst (F 52) i (offsets_begin (differ_true (offset_in g 0) 0 e)))

  ends_sound : Sound F ends
  ends_sound =
      let i : offset_place g n ≡ offsets_at g + n = omega arith in
      if_sound F 52 (offsets_at g + n) _ (λ e. subst (F 52) i (offsets_end (differ_true (offset_in g n) m e)))

  falls_faulty : (w : ℕ) → 1 + offsets_at g ≤ w → w < 1 + offsets_at g + n → falls g w ≡ true → F 52 w
  unfolding falls
  falls_faulty w a b e =
      let v : ℕ = w - (1 + offsets_at g) in
      let i : offset_place g (suc v) ≡ w = omega arith in
      let j : offset_place g v ≡ w - 1 = omega arith in
      subst (F 52) i (offset_falls v (omega arith) (rw (i, j) (ltb-true (word g w) (word g (w - 1)) e)))

  offsets_sound : Sound F (refusal52 g)
  unfolding refusal52
  offsets_sound =
      lower_sound F 52 begins (lower_fault falling ends) (if_numbered 52 _ _) later_numbered begins_sound
      (lower_sound F 52 falling ends (from_numbered 52 _ _ _) (if_numbered 52 _ _)
      (from_sound F 52 (1 + offsets_at g) (1 + offsets_at g + n) (falls g) falls_faulty) ends_sound)

  begins_found : (¬ (offset_in g 0 ≡ 0)) → Finds 52 (offset_place g 0) (refusal52 g)
  unfolding refusal52
  begins_found d =
      let i : offsets_at g ≡ offset_place g 0 = omega arith in
      lower_finds_left 52 (offset_place g 0) begins (lower_fault falling ends)
      (subst (λ (p : ℕ). Finds 52 p begins) i (if_finds 52 (offsets_at g) _ (differ_yes d)))

  -- a check of 52 after the first
  later_found : (q : ℕ) → Finds 52 q (lower_fault falling ends) → Finds 52 q (refusal52 g)
  unfolding refusal52
  later_found q f = lower_finds_right 52 q begins (lower_fault falling ends) (if_numbered 52 _ _) f

  falls_bad : (v : ℕ) → offset_in g (suc v) < offset_in g v → falls g (offset_place g (suc v)) ≡ true
  unfolding falls
  falls_bad v l =
      let i : offset_place g (suc v) - 1 ≡ offset_place g v = omega arith in
      rw i (lt-ltb (offset_in g (suc v)) (offset_in g v) l)

  falls_found : (v : ℕ) → v < n → offset_in g (suc v) < offset_in g v → Finds 52 (offset_place g (suc v)) (refusal52 g)
  falls_found v h l =
      later_found (offset_place g (suc v))
      (lower_finds_left 52 (offset_place g (suc v)) falling ends
      (from_finds 52 (1 + offsets_at g) (1 + offsets_at g + n) (falls g) (offset_place g (suc v)) (omega arith) (omega arith)
      (falls_bad v l)))

  ends_found : (¬ (offset_in g n ≡ m)) → Finds 52 (offset_place g n) (refusal52 g)
  ends_found d =
      let i : offsets_at g + n ≡ offset_place g n = omega arith in
      later_found (offset_place g n)
      (lower_finds_right 52 (offset_place g n) falling ends (from_numbered 52 _ _ _)
      (subst (λ (p : ℕ). Finds 52 p ends) i (if_finds 52 (offsets_at g + n) _ (differ_yes d))))

  -- ---- 53: the initial vertex, owners, targets

  abbrev initial : Check
  initial = fault_if 53 2 (leb n (initial_in g))

  abbrev owners : Check
  owners = fault_from 53 (vertex_column_at g 0) (vertex_column_at g 1) (λ w. ltb 1 (word g w))

  abbrev targets : Check
  targets = fault_from 53 (edge_column_at g 0) (edge_column_at g 1) (too_large g n)

  owner_faulty : (w : ℕ) → vertex_column_at g 0 ≤ w → w < vertex_column_at g 1 → ltb 1 (word g w) ≡ true → F 53 w
  owner_faulty w a b e =
      let i : owner_place g (w - 3) ≡ w = omega arith in
      subst (F 53) i (owner_too_large (w - 3) (omega arith) (rw i (ltb-true 1 (word g w) e)))

  target_faulty : (w : ℕ) → edge_column_at g 0 ≤ w → w < edge_column_at g 1 → too_large g n w ≡ true → F 53 w
  unfolding too_large
  target_faulty w a b e =
      let i : target_place g (w - edge_column_at g 0) ≡ w = omega arith in
      subst (F 53) i (target_too_large (w - edge_column_at g 0) (omega arith) (rw i (leb-true n (word g w) e)))

  vertices_sound : Sound F (refusal53 g)
  unfolding refusal53
  vertices_sound =
      lower_sound F 53 initial (lower_fault owners targets) (if_numbered 53 _ _)
      (lower_numbered 53 owners targets (from_numbered 53 _ _ _) (from_numbered 53 _ _ _))
      (if_sound F 53 2 _ (λ e. initial_too_large (leb-true n (initial_in g) e)))
      (lower_sound F 53 owners targets (from_numbered 53 _ _ _) (from_numbered 53 _ _ _)
      (from_sound F 53 (vertex_column_at g 0) (vertex_column_at g 1) (λ w. ltb 1 (word g w)) owner_faulty)
      (from_sound F 53 (edge_column_at g 0) (edge_column_at g 1) (too_large g n) target_faulty))

  initial_found : n ≤ initial_in g → Finds 53 2 (refusal53 g)
  unfolding refusal53
  initial_found l =
      lower_finds_left 53 2 initial (lower_fault owners targets) (if_finds 53 2 _ (le-leb n (initial_in g) l))

  -- a check of 53 after the first
  words_found : (q : ℕ) → Finds 53 q (lower_fault owners targets) → Finds 53 q (refusal53 g)
  unfolding refusal53
  words_found q f = lower_finds_right 53 q initial (lower_fault owners targets) (if_numbered 53 _ _) f

  owner_found : (v : ℕ) → v < n → 1 < word g (owner_place g v) → Finds 53 (owner_place g v) (refusal53 g)
  owner_found v h l =
      words_found (owner_place g v)
      (lower_finds_left 53 (owner_place g v) owners targets
      (from_finds 53 (vertex_column_at g 0) (vertex_column_at g 1) (λ w. ltb 1 (word g w)) (owner_place g v) (omega arith) (omega arith)
      (lt-ltb 1 (word g (owner_place g v)) l)))

  target_found : (e : ℕ) → e < m → n ≤ word g (target_place g e) → Finds 53 (target_place g e) (refusal53 g)
  target_found e h l =
      words_found (target_place g e)
      (lower_finds_right 53 (target_place g e) owners targets (from_numbered 53 _ _ _)
      (from_finds 53 (edge_column_at g 0) (edge_column_at g 1) (too_large g n) (target_place g e) (omega arith) (omega arith)
      (large g n (target_place g e) l)))

  -- ---- the three checks

  abbrev pub game_checks : List Check
  game_checks = refusal51 g ∷ refusal52 g ∷ refusal53 g ∷ []

  pub game_sound : Each (Sound (FaultyGame g)) game_checks
  game_sound = (sizes_sound, (offsets_sound, (vertices_sound, tt)))

  pub game_finds : (k q : ℕ) → FaultyGame g k q → Some (Finds k q) game_checks
  game_finds k q (few_game_words l) = inl (sizes_few l)
  game_finds k q (wrong_game_words d) = inl (sizes_finds (or_left (eqb n 0 || above_room n m) (differ_yes d)))
  game_finds k q (no_vertex e) =
      inl (sizes_finds (or_right (differ (length g) (game_words n m)) (or_left (above_room n m) (eq-eqb n 0 e))))
  game_finds k q (vertices_above_room l) = inl (sizes_above (many-vertices l))
  game_finds k q (edges_above_room l) = inl (sizes_above (many-edges l))
  game_finds k q (offsets_begin d) = inr (inl (begins_found d))
  game_finds k q (offset_falls v h l) = inr (inl (falls_found v h l))
  game_finds k q (offsets_end d) = inr (inl (ends_found d))
  game_finds k q (initial_too_large l) = inr (inr (inl (initial_found l)))
  game_finds k q (owner_too_large v h l) = inr (inr (inl (owner_found v h l)))
  game_finds k q (target_too_large e h l) = inr (inr (inl (target_found e h l)))

  pub numbered_51 : Numbered 51 (refusal51 g)
  unfolding refusal51
  numbered_51 = if_numbered 51 0 _

  pub numbered_52 : Numbered 52 (refusal52 g)
  unfolding refusal52
  numbered_52 = lower_numbered 52 begins (lower_fault falling ends) (if_numbered 52 _ _) later_numbered

  pub numbered_53 : Numbered 53 (refusal53 g)
  unfolding refusal53
  numbered_53 =
      lower_numbered 53 initial (lower_fault owners targets) (if_numbered 53 _ _)
      (lower_numbered 53 owners targets (from_numbered 53 _ _ _) (from_numbered 53 _ _ _))

-- ---- the restriction: then 2

module _ (g : List ℕ) (out map work : ℕ) where
  abbrev R : ℕ → ℕ → Type 0
  R = FaultyRestriction g out map work

  abbrev slices : Check
  slices = fault_if 2 0 (differ out (length g) || (differ map (vertex_count g) || differ work (vertex_count g)))

  slices_sound : Sound R slices
  slices_sound =
      if_sound R 2 0 _
      (λ e. ⊎_elim (λ i. wrong_out (differ_true out (length g) i))
      (λ e. ⊎_elim (λ i. wrong_map (differ_true map (vertex_count g) i)) (λ i. wrong_work (differ_true work (vertex_count g) i))
      (or-true (differ map (vertex_count g)) (differ work (vertex_count g)) e))
      (or-true (differ out (length g)) (differ map (vertex_count g) || differ work (vertex_count g)) e))

  abbrev checks : List Check
  checks = game_checks g ++ (slices ∷ [])

  whole : restriction_refusal g out map work ≡ first_fault checks
  unfolding restriction_refusal game_refusal first_fault and_then
  whole =
      then_assoc (refusal51 g) _ slices
      ∙ ap (and_then (refusal51 g))
      (then_assoc (refusal52 g) _ slices ∙ ap (and_then (refusal52 g)) (at_last (refusal53 g)))
    where
      at_last : (c : Check) → and_then (and_then c (Ok tt)) slices ≡ and_then c (and_then slices (Ok tt))
      at_last c = then_assoc c (Ok tt) slices ∙ ap (and_then c) (sym (then_last slices))

  sound : Each (Sound R) checks
  sound =
      each_append (Sound R) (game_checks g) (slices ∷ [])
      (each_map (Sound (FaultyGame g)) (Sound R) (λ c h n p e. faulty_game (h n p e)) (game_checks g) (game_sound g))
      (slices_sound, tt)

  -- a fault of the slices is found by the last check
  slices_finds : (k q : ℕ) → Finds k q slices → Some (Finds k q) checks
  slices_finds k q h = some_right (Finds k q) (game_checks g) (slices ∷ []) (inl h)

  finds : (k q : ℕ) → FaultyRestriction g out map work k q → Some (Finds k q) checks
  finds k q (faulty_game f) = some_left (Finds k q) (game_checks g) (slices ∷ []) (game_finds g k q f)
  finds k q (wrong_out d) =
      slices_finds 2 0 (if_finds 2 0 _ (or_left (differ map (vertex_count g) || differ work (vertex_count g)) (differ_yes d)))
  finds k q (wrong_map d) =
      slices_finds 2 0
      (if_finds 2 0 _ (or_right (differ out (length g)) (or_left (differ work (vertex_count g)) (differ_yes d))))
  finds k q (wrong_work d) =
      slices_finds 2 0
      (if_finds 2 0 _ (or_right (differ out (length g)) (or_right (differ map (vertex_count g)) (differ_yes d))))

  rising : Rising restriction_turn 0 checks
  unfolding restriction_turn position
  rising = (
    51,
    omega arith,
    numbered_51 g,
    (52, omega arith, numbered_52 g, (53, omega arith, numbered_53 g, (2, omega arith, if_numbered 2 0 _, tt))),
  )

  -- ---- the theorems

  pub game_exact : (k p : ℕ) → restriction_refusal g out map work ≡ fault k p ↔ FirstFaultyRestriction g out map work k p
  game_exact k p = rw whole (first_exact restriction_turn R checks sound finds rising k p)

  pub game_passed : restriction_refusal g out map work ≡ Ok tt ↔ ((k p : ℕ) → ¬ FaultyRestriction g out map work k p)
  game_passed = rw whole (passed_exact restriction_turn R checks sound finds rising)

  -- there is no fault or a first one
  pub game_none_or_first : ((k p : ℕ) → ¬ FaultyRestriction g out map work k p)
      ⊎ ((k : ℕ) × (p : ℕ) × FirstFaultyRestriction g out map work k p)
  game_none_or_first = none_or_first restriction_turn R checks sound finds rising
