-- Numbering the body nodes from the first to the last: the words so far are the item numbers, and the word of a class
-- is 0 exactly if no node of it was met. Assumes nothing.
use mathlib.Core.Path.{◌≡◌, refl, sym, ap, subst, ◌∙◌}
use mathlib.Core.Logic.{◌⊎◌, inl, inr}
use mathlib.Core.Bool.{Bool, true, false}
use mathlib.Core.List.{List, [], ◌∷◌}
use Prim.Native.Nat.{ℕ, zero, suc, ◌+◌, ◌≤◌, ◌<◌}
use native.Mathlib.Decide.{ℕ_discrete}
use native.Mathlib.Omega.{arith}
use lib.ListN.{length, get_or, set, replicate, length-set}
use lib.Seq.{get_or-set_same, get_or-set_other}
use Rattle.rules.specs.Lists.{In, word, one, zeros}
use Rattle.rules.specs.Words.{Input}
use Rattle.rules.specs.Table.{size, formula_node}
use Rattle.rules.specs.Formula.{is_fixpoint, equation_count, Formula, formula_tree, first_body_node}
use Rattle.rules.specs.Items.{items, item_number}
use Rattle.tables.specs.Good.{GoodInput}
use Rattle.lists.proofs.Members.{in_left, in_either}
use Rattle.lists.proofs.Shapes.{begins_length}
use Rattle.trees.proofs.Equations.{good_some_equation}
use Rattle.arena.specs.Arena.{BodyNode, subformulas_before}
use Rattle.arena.proofs.ItemNumbers.{items_count, items_few, item_past}
use Rattle.arena.proofs.Numbering.{before_none, before_all, before_in, before_begins, before_old, before_new, number_new, length_new}
use Rattle.alike_nodes.specs.Nodes.{Last, Numbered}
use Rattle.alike_nodes.specs.Laws.{last_one}
use Rattle.item_table.specs.Entries.{ItemNumbers, NodeNumbered}

-- ---- the first body node

pub first_most : (f : List ℕ) → first_body_node f ≤ 1
unfolding first_body_node
first_most f = go (is_fixpoint (formula_node f 0))
  where
    go : (b : Bool) → one b ≤ 1
    go true = omega arith
    go false = omega arith

-- all words are 0
pub zeros-word : (ws : List ℕ) (i : ℕ) → word (zeros ws) i ≡ 0
unfolding zeros
zeros-word ws i = none (length ws) i
  where
    none : (n i : ℕ) → get_or {A = ℕ} (replicate n 0) i 0 ≡ 0
    none zero i = refl
    none (suc n) zero = refl
    none (suc n) (suc i) = none n i

-- ---- the words of a class: whether a node of it was met

abbrev pub Met : (x : Input) (v : ℕ) (numbers : List ℕ) (w : ℕ) → Type 0
Met x v numbers w =
    ((word numbers w ≡ 0) × (¬ In (formula_tree x w) (subformulas_before x v)))
    ⊎ ((word numbers w ≡ item_number x (formula_tree x w)) × In (formula_tree x w) (subformulas_before x v))

-- the nodes before v have their numbers, and `next` is the next number
pub record Numbering (x : Input) (nodes : List ℕ) (v next : ℕ) (numbers : List ℕ) : Type 0 where
  pub counted : next ≡ equation_count x.formula + length (subformulas_before x v)
  pub done : (u : ℕ) → first_body_node x.formula ≤ u → u < v → word numbers u ≡ item_number x (formula_tree x u)
  pub rest : (w : ℕ) → v ≤ w → w < size x.formula → word nodes w ≡ w → Met x v numbers w

module _ (x : Input) (good : GoodInput x) (nodes : List ℕ) (known : Numbered (formula_tree x) (size x.formula) 0 nodes) where
  pub numbering_first : (numbers zeroed : List ℕ) (v count : ℕ) → zeroed ≡ zeros numbers → v ≡ first_body_node x.formula → count ≡ equation_count x.formula
      → Numbering x nodes v count zeroed
  numbering_first numbers zeroed v count z e c =
      rw (e, z)
      (record {
        counted = let l : length (subformulas_before x (first_body_node x.formula)) ≡ 0 = ap length (before_none x) in omega arith;
        done = λ u a b. absurd (omega arith);
        rest = λ w a b d. inl (zeros-word numbers w, λ m. subst (In (formula_tree x w)) (before_none x) m);
      })

  -- the numbers stay small
  pub next_small : (v next : ℕ) (numbers : List ℕ) → v ≤ size x.formula → Numbering x nodes v next numbers → next ≤ 2_048
  next_small v next numbers h n =
      let a = n.counted in
      let b = begins_length (subformulas_before x v) (subformulas_before x (size x.formula)) (before_begins x v (size x.formula) h) in
      let c = ap length (before_all x) in
      omega (arith, items_count x, items_few x good)

  module _ (v next : ℕ) (numbers : List ℕ) (room : size x.formula ≤ length numbers) (b : BodyNode x.formula v) (so_far : Numbering x nodes v next numbers) where
    class_last : Last (formula_tree x) (size x.formula) (formula_tree x v) (word nodes v)
    class_last = known.number v (omega arith) b.1

    class_from : v ≤ word nodes v
    class_from = class_last.later v b.1 refl

    class_own : word nodes (word nodes v) ≡ word nodes v
    class_own =
        let l = known.number (word nodes v) (omega arith) class_last.below in
        last_one (formula_tree x) (size x.formula) (formula_tree x v) (word nodes (word nodes v)) (word nodes v)
        (subst (λ (t : Formula). Last (formula_tree x) (size x.formula) t (word nodes (word nodes v))) class_last.carries l)
        class_last

    -- another class has another tree
    other_class : (w : ℕ) → w < size x.formula → word nodes w ≡ w → (¬ (w ≡ word nodes v)) → ¬ (formula_tree x w ≡ formula_tree x v)
    other_class w h own d e =
        let l = subst (λ (t : Formula). Last (formula_tree x) (size x.formula) t (word nodes w)) e (known.number w (omega arith) h) in
        d (sym own ∙ last_one (formula_tree x) (size x.formula) (formula_tree x v) (word nodes w) (word nodes v) l class_last)

    met : Met x v numbers (word nodes v)
    met = so_far.rest (word nodes v) class_from class_last.below class_own

    -- ---- a tree that was not met

    fresh : word numbers (word nodes v) ≡ 0 → ¬ In (formula_tree x v) (subformulas_before x v)
    fresh z = go met
      where
        go : Met x v numbers (word nodes v) → ¬ In (formula_tree x v) (subformulas_before x v)
        go (inl (e, n)) = λ m. n (subst (λ (t : Formula). In t (subformulas_before x v)) (sym class_last.carries) m)
        go (inr (e, m)) = absurd (omega (arith, z, e, item_past x (formula_tree x (word nodes v)), good_some_equation (size x.actions) x.formula good.formula))

    module _ (z : word numbers (word nodes v) ≡ 0) where
      own_number : item_number x (formula_tree x v) ≡ next
      own_number = number_new x v b (fresh z) ∙ sym so_far.counted

      at_class : word (set (set numbers (word nodes v) next) v next) (word nodes v) ≡ next
      at_class = go (ℕ_discrete (word nodes v) v)
        where
          go : Dec (word nodes v ≡ v) → word (set (set numbers (word nodes v) next) v next) (word nodes v) ≡ next
          go (yes e) =
              ap (λ (j : ℕ). word (set (set numbers (word nodes v) next) v next) j) e
              ∙ get_or-set_same {A = ℕ} (set numbers (word nodes v) next) v next 0 (omega (arith, length-set numbers (word nodes v) next, room, b.1))
          go (no d) =
              get_or-set_other {A = ℕ} (set numbers (word nodes v) next) v (word nodes v) next 0 d
              ∙ get_or-set_same {A = ℕ} numbers (word nodes v) next 0 (omega (arith, room, class_last.below))

      elsewhere : (u : ℕ) → (¬ (u ≡ v)) → (¬ (u ≡ word nodes v)) → word (set (set numbers (word nodes v) next) v next) u ≡ word numbers u
      elsewhere u a d =
          get_or-set_other {A = ℕ} (set numbers (word nodes v) next) v u next 0 a ∙ get_or-set_other {A = ℕ} numbers (word nodes v) u next 0 d

      at_node : word (set (set numbers (word nodes v) next) v next) v ≡ next
      at_node = get_or-set_same {A = ℕ} (set numbers (word nodes v) next) v next 0 (omega (arith, length-set numbers (word nodes v) next, room, b.1))

      pub numbering_new : Numbering x nodes (v + 1) (next + 1) (set (set numbers (word nodes v) next) v next)
      numbering_new =
          let one_more : v + 1 ≡ suc v = omega arith in
          rw one_more
          (record {
            counted = omega (arith, so_far.counted, length_new x v b (fresh z));
            done = λ u a d. done_at u (ℕ_discrete u v) a d;
            rest = λ w a d own. rest_at w (ℕ_discrete w (word nodes v)) a d own;
          })
        where
          done_at : (u : ℕ) → Dec (u ≡ v) → first_body_node x.formula ≤ u → u < suc v → word (set (set numbers (word nodes v) next) v next) u ≡ item_number x (formula_tree x u)
          done_at u (yes e) a d = rw e (at_node ∙ sym own_number)
          done_at u (no n) a d = elsewhere u n (omega (arith, n, d, class_from)) ∙ so_far.done u a (omega arith)

          keep : (w : ℕ) → w < size x.formula → word nodes w ≡ w → (¬ (w ≡ word nodes v)) → word (set (set numbers (word nodes v) next) v next) w ≡ word numbers w → Met x v numbers w
              → Met x (suc v) (set (set numbers (word nodes v) next) v next) w
          keep w h own n e (inl (p, q)) =
              inl (e ∙ p, λ m. not_in (in_either (formula_tree x w) (subformulas_before x v) (formula_tree x v ∷ []) (subst (In (formula_tree x w)) (before_new x v b.0 (fresh z)) m)))
            where
              not_in : In (formula_tree x w) (subformulas_before x v) ⊎ In (formula_tree x w) (formula_tree x v ∷ []) → ⊥
              not_in (inl m) = q m
              not_in (inr (inl m)) = other_class w h own n m
              not_in (inr (inr m)) = m
          keep w h own n e (inr (p, q)) =
              inr (e ∙ p, subst (In (formula_tree x w)) (sym (before_new x v b.0 (fresh z))) (in_left (formula_tree x w) (subformulas_before x v) (formula_tree x v ∷ []) q))

          rest_at : (w : ℕ) → Dec (w ≡ word nodes v) → suc v ≤ w → w < size x.formula → word nodes w ≡ w → Met x (suc v) (set (set numbers (word nodes v) next) v next) w
          rest_at w (yes e) a d own =
              let t : formula_tree x w ≡ formula_tree x v = ap (formula_tree x) e ∙ class_last.carries in
              inr (
                ap (λ (j : ℕ). word (set (set numbers (word nodes v) next) v next) j) e ∙ at_class ∙ sym own_number ∙ ap (item_number x) (sym t),
                subst (λ (s : Formula). In s (subformulas_before x (suc v))) (sym t) (before_in x v (suc v) b.0 (omega arith)),
              )
          rest_at w (no n) a d own = keep w d own n (elsewhere w (omega arith) n) (so_far.rest w (omega arith) d own)

    -- ---- a tree that was met

    met_before : (¬ (word numbers (word nodes v) ≡ 0)) → (word numbers (word nodes v) ≡ item_number x (formula_tree x v)) × In (formula_tree x v) (subformulas_before x v)
    met_before z = go met
      where
        go : Met x v numbers (word nodes v) → (word numbers (word nodes v) ≡ item_number x (formula_tree x v)) × In (formula_tree x v) (subformulas_before x v)
        go (inl (e, n)) = absurd (z e)
        go (inr (e, m)) =
            (e ∙ ap (item_number x) class_last.carries, subst (λ (t : Formula). In t (subformulas_before x v)) class_last.carries m)

    pub numbering_old : (¬ (word numbers (word nodes v) ≡ 0)) → Numbering x nodes (v + 1) next (set numbers v (word numbers (word nodes v)))
    numbering_old z =
        let one_more : v + 1 ≡ suc v = omega arith in
        let same = before_old x v b.0 (met_before z).1 in
        rw one_more
        (record {
          counted = so_far.counted ∙ ap (λ (l : List Formula). equation_count x.formula + length l) (sym same);
          done = λ u a d. done_at u (ℕ_discrete u v) a d;
          rest = λ w a d own.
              subst (λ (l : List Formula). ((word (set numbers v (word numbers (word nodes v))) w ≡ 0) × (¬ In (formula_tree x w) l)) ⊎ ((word (set numbers v (word numbers (word nodes v))) w ≡ item_number x (formula_tree x w)) × In (formula_tree x w) l))
              (sym same) (keep w (get_or-set_other {A = ℕ} numbers v w (word numbers (word nodes v)) 0 (omega arith)) (so_far.rest w (omega arith) d own));
        })
      where
        done_at : (u : ℕ) → Dec (u ≡ v) → first_body_node x.formula ≤ u → u < suc v → word (set numbers v (word numbers (word nodes v))) u ≡ item_number x (formula_tree x u)
        done_at u (yes e) a d = rw e (get_or-set_same {A = ℕ} numbers v (word numbers (word nodes v)) 0 (omega (arith, room, b.1)) ∙ (met_before z).0)
        done_at u (no n) a d = get_or-set_other {A = ℕ} numbers v u (word numbers (word nodes v)) 0 n ∙ so_far.done u a (omega arith)

        keep : (w : ℕ) → word (set numbers v (word numbers (word nodes v))) w ≡ word numbers w → Met x v numbers w → Met x v (set numbers v (word numbers (word nodes v))) w
        keep w e (inl (p, q)) = inl (e ∙ p, q)
        keep w e (inr (p, q)) = inr (e ∙ p, q)

    -- ---- one node more

    pub numbering_next : (after : List ℕ) (c next' : ℕ) → c ≡ word nodes v → NodeNumbered numbers after v c next next' → Numbering x nodes (v + 1) next' after
    numbering_next after c next' e (inl (z, s, t)) =
        rw (s, t, e) (numbering_new (ap (word numbers) (sym e) ∙ z))
    numbering_next after c next' e (inr (z, s, t)) =
        rw (s, t, e) (numbering_old (λ h. z (ap (word numbers) e ∙ h)))

  -- all nodes have their numbers
  pub numbering_last : (v next : ℕ) (numbers : List ℕ) → v ≡ size x.formula → size x.formula ≤ length numbers → Numbering x nodes v next numbers
      → (next ≡ length (items x)) × ItemNumbers x numbers
  numbering_last v next numbers e room n =
      let a = n.counted in
      let c : length (subformulas_before x v) ≡ length (subformulas_before x (size x.formula)) = ap (λ (j : ℕ). length (subformulas_before x j)) e in
      let d = ap length (before_all x) in
      (omega (arith, items_count x), record { room = room; number = λ u p q. n.done u p (omega arith) })
