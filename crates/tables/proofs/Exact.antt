-- Refusals are exact: a run is refused before it begins with fault n at place p exactly if that is the first fault of
-- its input, slices and room, in the order of numbers and then of places; it is not refused exactly if there is no
-- fault. Assumes nothing.
use Prim.Native.Nat.{ℕ}
use native.Mathlib.Omega.{arith}
use mathlib.Core.Path.{◌≡◌, ap}
use mathlib.Core.List.{List, ◌++◌}
use mathlib.Core.Logic.{◌⊎◌, ◌↔◌}
use Rattle.rules.specs.Answers.{Check}
use Rattle.std.specs.declared.result.Result.TheVariants.{Ok}
use Rattle.rules.specs.Answers.{fault}
use Rattle.rules.specs.declared.Room.{Room}
use Rattle.rules.specs.Words.{Input}
use Rattle.rules.specs.Answers.{and_then, first_fault}
use Rattle.rules.specs.Labels.{label_count}
use Rattle.rules.specs.Table.{size, action_children}
use Rattle.rules.specs.Refusal.{refusal1, refusal2, refusal11, refusal12, refusal13, refusal21, refusal22, refusal23, refusal24, refusal25, refusal26, refusal31, refusal32, refusal33, refusal34}
use Rattle.rules.specs.Refusal.{refusal41, refusal42, refusal43, refusal44, refusal45, input_refusal, refusal}
use Rattle.rules.specs.Faulty.{FaultyRoom, FaultyLabels, FaultySystem, FaultyActions, FaultyFormula}
use Rattle.rules.specs.Faulty.{Faulty, faulty_room, faulty_labels, faulty_system, faulty_actions, faulty_formula, FirstFaulty, Faultless}
use Rattle.tables.proofs.Faults.{then_last}
use Rattle.tables.proofs.Order.{Finds, Sound, Each, Some, Rising, each_map, each_append, some_left, some_right}
use Rattle.tables.proofs.Order.{if_numbered, from_numbered, lower_numbered}
use Rattle.tables.proofs.Order.{first_exact, passed_exact, none_or_first}
use Rattle.tables.proofs.FaultyWords.{room_checks, label_checks, system_checks, room_sound, room_finds, label_sound, label_finds, system_sound, system_finds}
use Rattle.tables.proofs.FaultyTables.{action_checks, formula_checks, action_sound, action_finds, formula_sound, formula_finds, end_numbered}

module _ (x : Input) (r : Room) (game work : ℕ) where
  -- the checks in order, group by group
  abbrev rooms : List Check
  rooms = room_checks r game work

  abbrev labels : List Check
  labels = label_checks x.labels

  abbrev systems : List Check
  systems = system_checks x.labels x.system

  abbrev actions : List Check
  actions = action_checks x.labels x.actions

  abbrev formulas : List Check
  formulas = formula_checks (action_children x.actions) (size x.actions) x.formula

  abbrev checks : List Check
  checks = rooms ++ (labels ++ (systems ++ (actions ++ formulas)))

  whole : refusal x r game work ≡ first_fault checks
  unfolding refusal input_refusal first_fault
  whole = ap (λ c. and_then (refusal1 r) (and_then (refusal2 r game work) c)) (then_last (input_refusal x))

  abbrev F : ℕ → ℕ → Type 0
  F = Faulty x r game work

  sound : Each (Sound F) checks
  sound =
      each_append (Sound F) rooms (labels ++ (systems ++ (actions ++ formulas)))
      (each_map (Sound (FaultyRoom r game work)) (Sound F) (λ c h n p e. faulty_room (h n p e)) rooms (room_sound r game work))
      (each_append (Sound F) labels (systems ++ (actions ++ formulas))
      (each_map (Sound (FaultyLabels x.labels)) (Sound F) (λ c h n p e. faulty_labels (h n p e)) labels (label_sound x.labels))
      (each_append (Sound F) systems (actions ++ formulas)
      (each_map (Sound (FaultySystem (label_count x.labels) x.system)) (Sound F) (λ c h n p e. faulty_system (h n p e)) systems (system_sound x.labels x.system))
      (each_append (Sound F) actions formulas
      (each_map (Sound (FaultyActions (label_count x.labels) x.actions)) (Sound F) (λ c h n p e. faulty_actions (h n p e)) actions (action_sound x.labels x.actions))
      (each_map (Sound (FaultyFormula (action_children x.actions) (size x.actions) x.formula)) (Sound F) (λ c h n p e. faulty_formula (h n p e)) formulas (formula_sound (action_children x.actions) (size x.actions) x.formula)))))

  finds : (n q : ℕ) → Faulty x r game work n q → Some (Finds n q) checks
  finds n q (faulty_room h) = some_left (Finds n q) rooms (labels ++ (systems ++ (actions ++ formulas))) (room_finds r game work h)
  finds n q (faulty_labels h) =
      some_right (Finds n q) rooms (labels ++ (systems ++ (actions ++ formulas)))
      (some_left (Finds n q) labels (systems ++ (actions ++ formulas)) (label_finds x.labels h))
  finds n q (faulty_system h) =
      some_right (Finds n q) rooms (labels ++ (systems ++ (actions ++ formulas)))
      (some_right (Finds n q) labels (systems ++ (actions ++ formulas))
      (some_left (Finds n q) systems (actions ++ formulas) (system_finds x.labels x.system h)))
  finds n q (faulty_actions h) =
      some_right (Finds n q) rooms (labels ++ (systems ++ (actions ++ formulas)))
      (some_right (Finds n q) labels (systems ++ (actions ++ formulas))
      (some_right (Finds n q) systems (actions ++ formulas) (some_left (Finds n q) actions formulas (action_finds x.labels x.actions h))))
  finds n q (faulty_formula h) =
      some_right (Finds n q) rooms (labels ++ (systems ++ (actions ++ formulas)))
      (some_right (Finds n q) labels (systems ++ (actions ++ formulas))
      (some_right (Finds n q) systems (actions ++ formulas) (some_right (Finds n q) actions formulas (formula_finds (action_children x.actions) (size x.actions) x.formula h))))

  rising : Rising (λ k. k) 0 checks
  unfolding refusal1 refusal2 refusal11 refusal12 refusal13 refusal21 refusal22 refusal23 refusal24 refusal25 refusal26 refusal31 refusal32 refusal33 refusal34 refusal41 refusal42 refusal43 refusal44 refusal45
  rising = (
    1,
    omega arith,
    if_numbered 1 0 _,
    (
      2,
      omega arith,
      if_numbered 2 0 _,
      (
        11,
        omega arith,
        if_numbered 11 0 _,
        (
          12,
          omega arith,
          if_numbered 12 0 _,
          (
            13,
            omega arith,
            from_numbered 13 _ _ _,
            (
              21,
              omega arith,
              if_numbered 21 0 _,
              (
                22,
                omega arith,
                if_numbered 22 0 _,
                (
                  23,
                  omega arith,
                  if_numbered 23 2 _,
                  (
                    24,
                    omega arith,
                    if_numbered 24 1 _,
                    (
                      25,
                      omega arith,
                      from_numbered 25 _ _ _,
                      (
                        26,
                        omega arith,
                        from_numbered 26 _ _ _,
                        (
                          31,
                          omega arith,
                          if_numbered 31 0 _,
                          (
                            32,
                            omega arith,
                            if_numbered 32 0 _,
                            (
                              33,
                              omega arith,
                              from_numbered 33 _ _ _,
                              (
                                34,
                                omega arith,
                                lower_numbered 34 _ _ (from_numbered 34 _ _ _) (if_numbered 34 _ _),
                                (
                                  41,
                                  omega arith,
                                  if_numbered 41 0 _,
                                  (
                                    42,
                                    omega arith,
                                    if_numbered 42 0 _,
                                    (
                                      43,
                                      omega arith,
                                      from_numbered 43 _ _ _,
                                      (
                                        44,
                                        omega arith,
                                        lower_numbered 44 _ _ (from_numbered 44 _ _ _) (end_numbered (action_children x.actions) (size x.actions) x.formula _),
                                        (45, omega arith, from_numbered 45 _ _ _, tt),
                                      ),
                                    ),
                                  ),
                                ),
                              ),
                            ),
                          ),
                        ),
                      ),
                    ),
                  ),
                ),
              ),
            ),
          ),
        ),
      ),
    ),
  )

  pub exact : (n p : ℕ) → refusal x r game work ≡ fault n p ↔ FirstFaulty x r game work n p
  exact n p = rw whole (first_exact (λ k. k) F checks sound finds rising n p)

  pub exact_passed : refusal x r game work ≡ Ok tt ↔ Faultless x r game work
  exact_passed = rw whole (passed_exact (λ k. k) F checks sound finds rising)

  -- there is no fault or a first one
  pub faultless_or_first : Faultless x r game work ⊎ ((n : ℕ) × (p : ℕ) × FirstFaulty x r game work n p)
  faultless_or_first = none_or_first (λ k. k) F checks sound finds rising
