-- The transitions of a state as they are read: parts of the columns of labels and targets, which stand in the words of
-- the system behind the degrees. Assumes nothing.
use mathlib.Core.Path.{◌≡◌, refl, sym, ap, ap₂, ◌∙◌}
use mathlib.Core.List.{List, ◌∷◌, map}
use Prim.Native.Nat.{ℕ, zero, suc, ◌+◌, ◌-◌, ◌*◌, ◌≤◌, ◌<◌}
use native.Mathlib.Omega.{arith}
use lib.ListN.{length, take, drop}
use Rattle.std.proofs.lemmas.List.{get_or-drop, get_or-take, length-take-le, length-drop, take_all}
use Rattle.rules.specs.Lists.{word, from}
use Rattle.rules.specs.System.{state_count, transition_count, degree, first_transition, transition_label, transition_target, transitions}
use Rattle.tables.specs.Good.{GoodSystem}
use Rattle.arena.proofs.Inside.{transitions_within}
use Rattle.modalities.specs.Within.{Below, Within}
use Rattle.modalities.specs.Matched.{first_moves, state_moves}

-- a list over numbers is told by what each of them gives
same_images : {A : Type 0} (f g : ℕ → A) (a b n : ℕ) → ((i : ℕ) → i < n → f (a + i) ≡ g (b + i))
    → map f (from a n) ≡ map g (from b n)
unfolding from
same_images f g a b zero e = refl
same_images f g a b (suc n) e =
    let p : a ≡ a + 0 = omega arith in
    let q : b + 0 ≡ b = omega arith in
    ap₂ ◌∷◌ (ap f p ∙ e 0 (omega arith) ∙ ap g q)
    (same_images f g (suc a) (suc b) n (λ i h.
    let p : suc a + i ≡ a + suc i = omega arith in
    let q : b + suc i ≡ suc b + i = omega arith in
    ap f p ∙ e (suc i) (omega arith) ∙ ap g q))

-- the part of a column from `first` up to another place
module _ (first n : ℕ) (ws : List ℕ) (h : first + n ≤ length ws) where
  part_length : length (take (first + n - first) (drop first ws)) ≡ n
  part_length =
      let z : first + n - first ≡ n = omega arith in
      length-take-le (first + n - first) (drop first ws) (omega (arith, length-drop first ws)) ∙ z

  part_word : (i : ℕ) → i < n → word (take (first + n - first) (drop first ws)) i ≡ word ws (first + i)
  part_word i l = get_or-take (first + n - first) (drop first ws) i 0 (omega arith) ∙ get_or-drop first ws i 0

module _ (l : ℕ) (ss : List ℕ) (good : GoodSystem l ss) (s : ℕ) (h : s < state_count ss)
    (first n : ℕ) (is-first : first ≡ first_transition ss s) (is-degree : n ≡ degree ss s) where
  -- the state's transitions are some of the system's
  pub state_inside : first + n ≤ transition_count ss
  state_inside = omega (arith, transitions_within l ss good s h, is-first, is-degree)

  module _ (columns labels targets : List ℕ) (states count : ℕ) (is-states : states ≡ state_count ss) (is-count : count ≡ transition_count ss)
      (is-rest : columns ≡ take (length ss - (3 + states)) (drop (3 + states) ss)) (is-labels : labels ≡ take count columns) (is-targets : targets ≡ drop count columns) where
    is-columns : columns ≡ drop (3 + states) ss
    is-columns = is-rest ∙ take_all _ (drop (3 + states) ss) (omega (arith, length-drop (3 + states) ss))

    columns_length : length columns ≡ 2 * transition_count ss
    columns_length = omega (arith, ap length is-columns, length-drop (3 + states) ss, good.sized, is-states)

    pub labels_length : length labels ≡ transition_count ss
    labels_length = ap length is-labels ∙ length-take-le count columns (omega (arith, columns_length, is-count)) ∙ is-count

    pub targets_length : length targets ≡ transition_count ss
    targets_length = omega (arith, ap length is-targets, length-drop count columns, columns_length, is-count)

    label_word : (i : ℕ) → i < n → word (take (first + n - first) (drop first labels)) i ≡ transition_label ss (first + i)
    label_word i u =
        let z : 3 + states + (first + i) ≡ 3 + state_count ss + (first + i) = omega (arith, is-states) in
        part_word first n labels (omega (arith, state_inside, labels_length)) i u ∙ ap (λ (ws : List ℕ). word ws (first + i)) is-labels
        ∙ get_or-take count columns (first + i) 0 (omega (arith, state_inside, is-count))
        ∙ ap (λ (ws : List ℕ). word ws (first + i)) is-columns ∙ get_or-drop (3 + states) ss (first + i) 0 ∙ ap (word ss) z

    target_word : (i : ℕ) → i < n → word (take (first + n - first) (drop first targets)) i ≡ transition_target ss (first + i)
    target_word i u =
        let z : 3 + states + (count + (first + i)) ≡ 3 + state_count ss + transition_count ss + (first + i) =
        omega (arith, is-states, is-count) in
        part_word first n targets (omega (arith, state_inside, targets_length)) i u ∙ ap (λ (ws : List ℕ). word ws (first + i)) is-targets
        ∙ get_or-drop count columns (first + i) 0
        ∙ ap (λ (ws : List ℕ). word ws (count + (first + i))) is-columns ∙ get_or-drop (3 + states) ss (count + (first + i)) 0 ∙ ap (word ss) z

    labels_part : length (take (first + n - first) (drop first labels)) ≡ n
    labels_part = part_length first n labels (omega (arith, state_inside, labels_length))

    targets_part : length (take (first + n - first) (drop first targets)) ≡ n
    targets_part = part_length first n targets (omega (arith, state_inside, targets_length))

    pub read_within : Within (take (first + n - first) (drop first labels)) (take (first + n - first) (drop first targets)) (state_count ss)
    read_within =
        record {
          few_states = good.states;
          few_moves = omega (arith, targets_part, state_inside, good.moves);
          paired = labels_part ∙ sym targets_part;
          reach = λ i u.
              let inside : i < n = omega (arith, u, targets_part) in
              omega (arith, target_word i inside, good.targets (first + i) (omega (arith, state_inside)));
        }

    pub read_below : Below l (take (first + n - first) (drop first labels))
    read_below i u =
        let inside : i < n = omega (arith, u, labels_part) in
        omega (arith, label_word i inside, good.labels (first + i) (omega (arith, state_inside)))

    pub read_moves : first_moves (take (first + n - first) (drop first labels)) (take (first + n - first) (drop first targets))
        (length (take (first + n - first) (drop first targets))) ≡ state_moves ss s
    unfolding transitions
    read_moves =
        let ls = take (first + n - first) (drop first labels) in
        let ts = take (first + n - first) (drop first targets) in
        let read : ℕ → ℕ × ℕ = λ i. (word ls i, word ts i) in
        let told : ℕ → ℕ × ℕ = λ t. (transition_label ss t, transition_target ss t) in
        ap (first_moves ls ts) targets_part
        ∙ same_images read told 0 first n (λ i u.
        let z : 0 + i ≡ i = omega arith in
        ap read z ∙ ap₂ (λ (a b : ℕ). (a, b)) (label_word i u) (target_word i u))
        ∙ ap₂ (λ (a b : ℕ). map told (from a b)) is-first is-degree
