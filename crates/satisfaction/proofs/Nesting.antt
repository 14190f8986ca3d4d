-- Nested equations are those of the fixpoints inside: where a fixpoint is equation i and k fixpoints stand in its body,
-- they are equations i + 1 to i + k. A sound ranking puts an outer equation strictly above an inner one of the other
-- operator; whether a ranking is sound is told by a test. Assumes nothing.
use mathlib.Core.Path.{◌≡◌, refl, sym, ap, ◌∙◌}
use mathlib.Core.Bool.{Bool, true, false, not, false≢true}
use mathlib.Core.List.{List}
use mathlib.Core.Option.{Option, some}
use mathlib.Core.Logic.{◌⊎◌, inl, inr, ◌↔◌}
use Prim.Native.Nat.{ℕ, zero, suc, ◌+◌, ◌*◌, ◌-◌, ◌≤◌, ◌<◌}
use native.Mathlib.Omega.{arith}
use native.Mathlib.Decide.{dec_lt}
use lib.Dec.{ltb}
use borrow.Author.Tests.{lt-ltb, ltb-true, leb-true, le-leb}
use Rattle.rules.specs.Lists.{from}
use Rattle.rules.specs.Words.{Input}
use Rattle.rules.specs.Table.{size, formula_node, formula_children, tree_end, is_before_end}
use Rattle.rules.specs.Formula.{Operator, least, greatest, is_fixpoint, equation_count, equation_of, equation_number}
use Rattle.rules.specs.Depth.{Ranking, least_bit}
use Rattle.rules.specs.Refusal.{encloses}
use Rattle.lists.proofs.Ranges.{from_in, in_from}
use Rattle.lists.proofs.Tests.{and-true}
use Rattle.trees.proofs.Readings.{least_bit_most}
use Rattle.trees.proofs.Fixpoints.{fixpoint_inside}
use Rattle.trees.proofs.Equations.{number_monotone, number_later, number_order, number_apart, number_below, count_number, equation_node}
use Rattle.meaning.specs.Quantifiers.{all}
use Rattle.meaning.proofs.Quantifiers.{all_in, in_all}
use Rattle.writing.specs.ActionSyntax.{ActionSyntax, first_node}
use Rattle.writing.specs.FormulaSyntax.{FormulaSyntax, formula_size, write_formula, fixpoints}
use Rattle.writing.specs.Nodes.{Holds}
use Rattle.writing.proofs.FormulaNodes.{formula_ends}
use Rattle.writing.proofs.FormulaEquations.{formula_number}
use Rattle.satisfaction.specs.Ranks.{is_even, is_greatest, Parity, Nested, Sound, PassSound, right_parity, is_right, right_nodes, is_sound, by_number}
use Rattle.meaning.proofs.Tests.{both_true, implied, implies}

-- node w stands before the end e
pub before_end : (w e : ℕ) (o : Option ℕ) → o ≡ some e → is_before_end w o ≡ true → w < e
unfolding is_before_end
before_end w e o h t = ltb-true w e (ap (is_before_end w) (sym h) ∙ t)

-- ---- the equations nested in a fixpoint's

-- the fixpoint t is written at node v
module _ (row : List ActionSyntax) (f : List ℕ) (t : FormulaSyntax) (around : List ℕ) (v : ℕ) (fixed : is_fixpoint (formula_node f v) ≡ true)
    (holds : Holds (write_formula row t around v) f v) (fits : v + formula_size t ≤ size f) where
  past : equation_number f (v + formula_size t) ≡ equation_number f v + fixpoints t
  past = formula_number row f t around v holds fits

  inside_numbers : (j : ℕ) → Nested f (equation_number f v) j → (equation_number f v < j) × (j < equation_number f v + fixpoints t)
  unfolding encloses
  inside_numbers j n =
      let (a, b) = and-true (ltb n.outer n.inner) _ n.inside in
      let e : n.outer ≡ v = number_apart f n.outer v n.outer_fixpoint fixed n.outer_number in
      let l : n.outer < n.inner = ltb-true n.outer n.inner a in
      let r : n.inner < v + formula_size t =
      before_end n.inner (v + formula_size t) (tree_end (formula_children f) (size f) n.outer) (ap (tree_end (formula_children f) (size f)) e ∙ formula_ends (first_node row) f t around v holds fits) b in
      let p = number_later f n.outer n.inner n.outer_fixpoint l in
      let q = number_later f n.inner (v + formula_size t) n.inner_fixpoint r in
      let y = n.outer_number in
      let z = n.inner_number in
      (omega arith, omega (arith, past))

  numbers_inside : (j : ℕ) → equation_number f v < j → j < equation_number f v + fixpoints t → Nested f (equation_number f v) j
  unfolding encloses is_before_end
  numbers_inside j a b =
      go (equation_node f j (let m = number_monotone f (v + formula_size t) (size f) fits in omega (arith, past, count_number f)))
    where
      go : ((j ≡ 0) × (is_fixpoint (formula_node f 0) ≡ false))
          ⊎ ((w : ℕ) × (w < size f) × (is_fixpoint (formula_node f w) ≡ true) × (equation_number f w ≡ j))
          → Nested f (equation_number f v) j
      go (inl (e, z)) = absurd (omega arith)
      go (inr (w, l, h, e)) =
          let p : v < w = number_order f v w h (omega arith) in
          let q : w < v + formula_size t = order (dec_lt w (v + formula_size t)) in
          record {
            outer = v;
            inner = w;
            outer_fixpoint = fixed;
            inner_fixpoint = h;
            outer_number = refl;
            inner_number = e;
            inside = rw (lt-ltb v w p, formula_ends (first_node row) f t around v holds fits) (lt-ltb w (v + formula_size t) q);
          }
        where
          order : Dec (w < v + formula_size t) → w < v + formula_size t
          order (yes y) = y
          order (no n) = absurd (omega (arith, past, number_monotone f (v + formula_size t) w (omega arith)))

  pub nested_exactly : (j : ℕ) → Nested f (equation_number f v) j ↔ ((equation_number f v < j) × (j < equation_number f v + fixpoints t))
  nested_exactly j = (inside_numbers j, λ h. numbers_inside j h.0 h.1)

-- ---- sound rankings

module _ (rank : Ranking) (x : Input) where
  -- "strictly above it when the operators differ"
  pub sound_strictly : Sound rank x → (i j : ℕ) → i < equation_count x.formula → j < equation_count x.formula → Nested x.formula i j
      → (¬ (is_greatest (equation_of x.formula i).operator ≡ is_greatest (equation_of x.formula j).operator)) → rank x j < rank x i
  sound_strictly sound i j a b n d = go (dec_lt (rank x j) (rank x i))
    where
      go : Dec (rank x j < rank x i) → rank x j < rank x i
      go (yes l) = l
      go (no l) =
          let h = sound.above i j n in
          let e : rank x i ≡ rank x j = omega arith in
          absurd (d (sym (sound.parity i a) ∙ ap is_even e ∙ sound.parity j b))

  -- so it is sound enough for passes
  pub sound_pass_sound : Sound rank x → PassSound rank x
  unfolding is_greatest
  sound_pass_sound sound =
      record {
        parity = sound.parity;
        below = λ i j n p q.
            let a = number_below x.formula n.outer n.outer_fixpoint in
            let b = number_below x.formula n.inner n.inner_fixpoint in
            let y = n.outer_number in
            let z = n.inner_number in
            sound_strictly sound i j (omega arith) (omega arith) n (λ e. let d : is_greatest least ≡ is_greatest greatest = cc in false≢true d);
      }

  parity_right : (b : Bool) (o : Operator) → b ≡ is_greatest o → right_parity b o ≡ true
  unfolding is_greatest right_parity
  parity_right b least e = rw e refl
  parity_right b greatest e = e

  right-parity : (b : Bool) (o : Operator) → right_parity b o ≡ true → b ≡ is_greatest o
  unfolding is_greatest right_parity
  right-parity true least e = absurd (false≢true e)
  right-parity false least e = refl
  right-parity b greatest e = e

  pub parity_tested : Parity rank x ↔ (is_right rank x ≡ true)
  unfolding is_right
  parity_tested = (
    λ h. in_all _ (from 0 (equation_count x.formula))
        (λ i m. parity_right _ _ (h i (let (a, b) = in_from i 0 (equation_count x.formula) m in omega arith))),
    λ e i l. right-parity _ _
        (all_in (λ i. right_parity (is_even (rank x i)) (equation_of x.formula i).operator) (from 0 (equation_count x.formula)) e i
        (from_in i 0 (equation_count x.formula) (omega arith) (omega arith))),
  )

  sound_passes : Sound rank x → is_sound rank x ≡ true
  unfolding is_sound right_nodes
  sound_passes s =
      both_true _ _ (parity_tested.0 s.parity)
      (in_all _ (from 0 (size x.formula)) (λ u m. in_all _ (from 0 (size x.formula)) (λ v n.
      implied _ _ (λ e.
      let (p, e') = and-true _ _ e in
      let (q, r) = and-true _ _ e' in
      le-leb _ _ (s.above (equation_number x.formula u) (equation_number x.formula v)
      (record { outer = u; inner = v; outer_fixpoint = p; inner_fixpoint = q; outer_number = refl; inner_number = refl; inside = r }))))))

  passes_sound : is_sound rank x ≡ true → Sound rank x
  unfolding is_sound right_nodes
  passes_sound e =
      let (a, b) = and-true _ _ e in
      record {
        parity = parity_tested.1 a;
        above = λ i j n.
            let u = n.outer in
            let v = n.inner in
            let lu = fixpoint_inside x.formula u n.outer_fixpoint in
            let lv = fixpoint_inside x.formula v n.inner_fixpoint in
            let inner = all_in (λ u. all (right_nodes rank x u) (from 0 (size x.formula))) (from 0 (size x.formula)) b u (from_in u 0 (size x.formula) (omega arith) (omega arith)) in
            let test = all_in (right_nodes rank x u) (from 0 (size x.formula)) inner v (from_in v 0 (size x.formula) (omega arith) (omega arith)) in
            let le : rank x (equation_number x.formula v) ≤ rank x (equation_number x.formula u) = leb-true _ _ (implies _ _ test (both_true _ _ n.outer_fixpoint (both_true _ _ n.inner_fixpoint n.inside))) in
            let p : rank x (equation_number x.formula u) ≡ rank x i = ap (rank x) n.outer_number in
            let q : rank x (equation_number x.formula v) ≡ rank x j = ap (rank x) n.inner_number in
            omega arith;
      }

  pub sound_tested : Sound rank x ↔ (is_sound rank x ≡ true)
  sound_tested = (sound_passes, passes_sound)

-- ---- there is a sound ranking

even_twice : (n : ℕ) → is_even (2 * n) ≡ true
unfolding is_even
even_twice zero = refl
even_twice (suc n) = let e : 2 * suc n ≡ suc (suc (2 * n)) = omega arith in ap is_even e ∙ ap (λ (b : Bool). not (not b)) (even_twice n)

pub bit_parity : (n : ℕ) (o : Operator) → is_even (2 * n + least_bit o) ≡ is_greatest o
unfolding is_even is_greatest least_bit
bit_parity n least = let e : 2 * n + 1 ≡ suc (2 * n) = omega arith in ap is_even e ∙ ap not (even_twice n)
bit_parity n greatest = let e : 2 * n + 0 ≡ 2 * n = omega arith in ap is_even e ∙ even_twice n

pub by_number_sound : (x : Input) → Sound by_number x
unfolding by_number encloses
by_number_sound x =
    record {
      parity = λ i l. bit_parity (equation_count x.formula - i) (equation_of x.formula i).operator;
      above = λ i j n.
          let (a, b) = and-true (ltb n.outer n.inner) _ n.inside in
          let c = number_later x.formula n.outer n.inner n.outer_fixpoint (ltb-true n.outer n.inner a) in
          let d = number_below x.formula n.inner n.inner_fixpoint in
          let e = n.outer_number in
          let f = n.inner_number in
          let p = least_bit_most (equation_of x.formula j).operator in
          omega arith;
    }
