-- The Rust's ranking, by depth, puts each least equation above the greatest ones nested in it. Where Z is nested in X,
-- equations that each stand in the body of the one before lead from X to Z. Every chain of references that counts for
-- the depth of Z counts for that of X from there on, but for its last 1, and on the way to Z the operator changes once
-- at least: the depth of X is not below that of Z. Assumes nothing.
use mathlib.Core.Path.{◌≡◌, refl, sym, ap, ap₂, subst, ◌∙◌}
use mathlib.Core.Bool.{Bool, true, false, true≢false}
use mathlib.Core.List.{List, [], ◌∷◌, ◌++◌}
use mathlib.Core.Logic.{inl, inr}
use Prim.Native.Nat.{ℕ, suc, ◌+◌, ◌/◌, ◌≤◌, ◌<◌}
use native.Mathlib.Omega.{arith}
use native.Mathlib.Decide.{dec_lt, ℕ_discrete}
use lib.Dec.{eqb, ltb}
use borrow.Author.Tests.{ltb-true}
use Rattle.std.specs.declared.result.Result.TheVariants.{Ok}
use Rattle.rules.specs.Lists.{In, has, one}
use Rattle.rules.specs.Words.{Input}
use Rattle.rules.specs.Table.{size, operand, formula_node, formula_children, tree_end}
use Rattle.rules.specs.Formula.{Operator, least, greatest, is_fixpoint, equation_count, equation_of, equation_number, Formula, formula_tree, body_tree}
use Rattle.rules.specs.Depth.{references, alternates, depth, least_bit, by_depth}
use Rattle.rules.specs.Refusal.{encloses, input_refusal}
use Rattle.tables.specs.Good.{GoodFormula}
use Rattle.lists.proofs.Members.{in_left, in_right}
use Rattle.lists.proofs.Tests.{and-true}
use Rattle.tables.proofs.Accepted.{accepted}
use Rattle.tables.proofs.Decode.{fixpoint_yes, fixpoint_low, fixpoint_high}
use Rattle.trees.specs.Chains.{referred, Chain, last_of, changes, worth}
use Rattle.trees.proofs.FormulaTrees.{conjunction_tree, disjunction_tree, box_tree, diamond_tree, fixpoint_tree}
use Rattle.trees.proofs.Equations.{number_more, number_monotone, number_below, fixpoint_body}
use Rattle.trees.proofs.Fixpoints.{fixpoint_inside, fixpoint_kind}
use Rattle.trees.proofs.ChainReadings.{chain_most, chain_attained}
use Rattle.writing.specs.ActionSyntax.{ActionSyntax, first_node}
use Rattle.writing.specs.FormulaSyntax.{FormulaSyntax, true_formula, false_formula, and_formula, or_formula, box_formula, diamond_formula, least_formula, greatest_formula, reference_formula, formula_size, write_formula, write_over}
use Rattle.writing.specs.Nodes.{Holds}
use Rattle.writing.proofs.FormulaNodes.{holds_both, formula_ends}
use Rattle.writing.proofs.FormulaTheorems.{words_size, words_hold, accepted_input_is_written}
use Rattle.satisfaction.specs.Ranks.{PassSound}
use Rattle.satisfaction.proofs.Nesting.{before_end, bit_parity}

-- ---- equations that each stand in the body of the one before

module _ (x : Input) where
  -- from equation i on, each refers to the next, which is later
  abbrev Steps : ℕ → List ℕ → Type 0
  Steps i [] = Unit {0}
  Steps i (j ∷ js) = In j (referred x i) × (i < j) × Steps j js

  chain_steps : (t i : ℕ) (js : List ℕ) → Chain x t i js → Steps i js
  chain_steps t i [] c = tt
  chain_steps t i (j ∷ js) c = (c.0, c.1, chain_steps t j js c.3)

  -- a later target is not met
  steps_chain : (t i : ℕ) (js : List ℕ) → t ≤ i → Steps i js → Chain x t i js
  steps_chain t i [] h s = tt
  steps_chain t i (j ∷ js) h s = let l = s.1 in (s.0, l, (λ e. omega arith), steps_chain t j js (omega arith) s.2)

  steps_append : (i : ℕ) (js ks : List ℕ) → Steps i js → Steps (last_of i js) ks → Steps i (js ++ ks)
  unfolding last_of
  steps_append i [] ks s t = t
  steps_append i (j ∷ js) ks s t = (s.0, s.1, steps_append j js ks s.2 t)

changes-append : (f : List ℕ) (i : ℕ) (js ks : List ℕ) → changes f i (js ++ ks) ≡ changes f i js + changes f (last_of i js) ks
unfolding changes last_of
changes-append f i [] ks = omega arith
changes-append f i (j ∷ js) ks = let e = changes-append f j js ks in omega arith

apart : least ≡ greatest → ⊥
unfolding least_bit
apart e = let z : ◌≡◌ {A = ℕ} 1 0 = ap least_bit e in omega arith

-- from a least equation to a greatest one the operator changes
changes_some : (f : List ℕ) (i : ℕ) (js : List ℕ) → (equation_of f i).operator ≡ least → (equation_of f (last_of i js)).operator ≡ greatest → 1 ≤ changes f i js
unfolding changes last_of alternates
changes_some f i [] p q = absurd (apart (sym p ∙ q))
changes_some f i (j ∷ js) p q = go (λ o. changes_some f j js o q) (equation_of f j).operator refl
  where
    go : ((equation_of f j).operator ≡ least → 1 ≤ changes f j js) → (o : Operator) → (equation_of f j).operator ≡ o
        → 1 ≤ alternates (equation_of f i).operator (equation_of f j).operator + changes f j js
    go r least e = let l = r e in omega arith
    go r greatest e = let z : alternates (equation_of f i).operator (equation_of f j).operator ≡ 1 = ap₂ alternates p e in omega arith

-- ---- depths

module _ (m : ℕ) (x : Input) (good : GoodFormula m x.formula) where
  one_most : (b : Bool) → one b ≤ 1
  one_most true = omega arith
  one_most false = omega arith

  depth_nested : (i j : ℕ) (js : List ℕ) → i < equation_count x.formula → j < equation_count x.formula → (equation_of x.formula i).operator ≡ least → (equation_of x.formula j).operator ≡ greatest
      → Steps x i js → last_of i js ≡ j → depth x j ≤ depth x i
  unfolding depth worth
  depth_nested i j js a b p q s e =
      let (ks, c, w) = chain_attained m x good j j b in
      let t : Steps x (last_of i js) ks = subst (λ (k : ℕ). Steps x k ks) (sym e) (chain_steps x j j ks c) in
      let most = chain_most m x good i i (js ++ ks) a (steps_chain x i i (js ++ ks) (omega arith) (steps_append x i js ks s t)) in
      let n = changes-append x.formula i js ks in
      let y : changes x.formula (last_of i js) ks ≡ changes x.formula j ks = ap (λ (k : ℕ). changes x.formula k ks) e in
      let z = changes_some x.formula i js p (ap (λ (k : ℕ). (equation_of x.formula k).operator) e ∙ q) in
      let o = one_most (has eqb j (referred x (last_of j ks))) in
      omega arith

-- ---- the way from a fixpoint to one inside it

module _ (m : ℕ) (x : Input) (good : GoodFormula m x.formula) (row : List ActionSyntax) where
  abbrev f : List ℕ
  f = x.formula

  -- from a reference in the tree of node v, equations that each stand in the body of the one before lead to the
  -- equation of node w
  record Path (v w : ℕ) : Type 0 where
    first : ℕ
    met : In first (references (formula_tree x v))
    later : equation_number f v ≤ first
    rest : List ℕ
    steps : Steps x first rest
    ends : last_of first rest ≡ equation_number f w

  left_path : (v w : ℕ) (t : Formula) (rs : List ℕ) → formula_tree x v ≡ t → references t ≡ references (formula_tree x (suc v)) ++ rs → Path (suc v) w → Path v w
  left_path v w t rs e i p =
      let l = p.later in
      let n = number_monotone f v (suc v) (omega arith) in
      record {
        first = p.first;
        met = subst (λ (ks : List ℕ). In p.first ks) (sym (ap references e ∙ i)) (in_left p.first (references (formula_tree x (suc v))) rs p.met);
        later = omega arith;
        rest = p.rest;
        steps = p.steps;
        ends = p.ends;
      }

  right_path : (v r w : ℕ) (t : Formula) (ls : List ℕ) → v ≤ r → formula_tree x v ≡ t → references t ≡ ls ++ references (formula_tree x r) → Path r w → Path v w
  right_path v r w t ls h e i p =
      let l = p.later in
      let n = number_monotone f v r h in
      record {
        first = p.first;
        met = subst (λ (ks : List ℕ). In p.first ks) (sym (ap references e ∙ i)) (in_right p.first ls (references (formula_tree x r)) p.met);
        later = omega arith;
        rest = p.rest;
        steps = p.steps;
        ends = p.ends;
      }

  -- a fixpoint stands as a reference to its own equation
  own_references : (v : ℕ) → is_fixpoint (formula_node f v) ≡ true → references (formula_tree x v) ≡ equation_number f v ∷ []
  unfolding references
  own_references v h = let (a, b) = fixpoint_kind f v h in ap references (fixpoint_tree m x good v (fixpoint_inside f v h) a b)

  own_path : (v w : ℕ) → is_fixpoint (formula_node f v) ≡ true → v ≡ w → Path v w
  unfolding last_of
  own_path v w h e =
      record {
        first = equation_number f v;
        met = subst (λ (ks : List ℕ). In (equation_number f v) ks) (sym (own_references v h)) (inl refl);
        later = omega arith;
        rest = [];
        steps = tt;
        ends = ap (equation_number f) e;
      }

  body_path : (v w : ℕ) → is_fixpoint (formula_node f v) ≡ true → Path (suc v) w → Path v w
  unfolding referred body_tree last_of
  body_path v w h p =
      let l = p.later in
      let n = number_more f v h in
      record {
        first = equation_number f v;
        met = subst (λ (ks : List ℕ). In (equation_number f v) ks) (sym (own_references v h)) (inl refl);
        later = omega arith;
        rest = p.first ∷ p.rest;
        steps = (subst (λ (u : ℕ). In p.first (references (formula_tree x u))) (sym (fixpoint_body f v h)) p.met, omega arith, p.steps);
        ends = p.ends;
      }

  -- node w is a fixpoint and node v is not
  other : (v w : ℕ) → is_fixpoint (formula_node f v) ≡ false → is_fixpoint (formula_node f w) ≡ true → v ≡ w → ⊥
  other v w a b e = true≢false (sym b ∙ ap (λ (u : ℕ). is_fixpoint (formula_node f u)) (sym e) ∙ a)

  either : (w e : ℕ) (P : Type 0) → (w < e → P) → (e ≤ w → P) → P
  either w e P a b = go (dec_lt w e)
    where
      go : Dec (w < e) → P
      go (yes l) = a l
      go (no l) = b (omega arith)

  fixpoint_path : (v w : ℕ) → is_fixpoint (formula_node f v) ≡ true → v ≤ w → (suc v ≤ w → Path (suc v) w) → Path v w
  fixpoint_path v w h p r = go (ℕ_discrete v w)
    where
      go : Dec (v ≡ w) → Path v w
      go (yes e) = own_path v w h e
      go (no d) = body_path v w h (r (omega arith))

  path : (t : FormulaSyntax) (around : List ℕ) (v : ℕ) → Holds (write_formula row t around v) f v → v + formula_size t ≤ size f
      → (w : ℕ) → is_fixpoint (formula_node f w) ≡ true → v ≤ w → w < v + formula_size t → Path v w
  unfolding write_over formula_size references
  path true_formula around v (k, o, h) l w i p q = absurd (other v w (fixpoint_low f v (omega arith) (omega arith)) i (omega arith))
  path false_formula around v (k, o, h) l w i p q = absurd (other v w (fixpoint_low f v (omega arith) (omega arith)) i (omega arith))
  path (and_formula a b) around v (k, o, h) l w i p q =
      let (c, d) = holds_both (first_node row) f a b around v h in
      let n = other v w (fixpoint_low f v (omega arith) (omega arith)) i in
      let e = conjunction_tree m x good v (omega arith) k in
      either w (suc v + formula_size a) (Path v w)
      (λ y. left_path v w _ (references (formula_tree x (operand f v))) e refl (path a around (suc v) c (omega arith) w i (omega (arith, n)) y))
      (λ y. right_path v (operand f v) w _ (references (formula_tree x (suc v))) (omega arith) e refl (subst (λ (r : ℕ). Path r w) (sym o) (path b around (suc v + formula_size a) d (omega arith) w i y (omega arith))))
  path (or_formula a b) around v (k, o, h) l w i p q =
      let (c, d) = holds_both (first_node row) f a b around v h in
      let n = other v w (fixpoint_low f v (omega arith) (omega arith)) i in
      let e = disjunction_tree m x good v (omega arith) k in
      either w (suc v + formula_size a) (Path v w)
      (λ y. left_path v w _ (references (formula_tree x (operand f v))) e refl (path a around (suc v) c (omega arith) w i (omega (arith, n)) y))
      (λ y. right_path v (operand f v) w _ (references (formula_tree x (suc v))) (omega arith) e refl (subst (λ (r : ℕ). Path r w) (sym o) (path b around (suc v + formula_size a) d (omega arith) w i y (omega arith))))
  path (box_formula n a) around v (k, o, h) l w i p q =
      let n = other v w (fixpoint_low f v (omega arith) (omega arith)) i in
      right_path v (suc v) w _ [] (omega arith) (box_tree m x good v (omega arith) k) refl (path a around (suc v) h (omega arith) w i (omega (arith, n)) (omega arith))
  path (diamond_formula n a) around v (k, o, h) l w i p q =
      let n = other v w (fixpoint_low f v (omega arith) (omega arith)) i in
      right_path v (suc v) w _ [] (omega arith) (diamond_tree m x good v (omega arith) k) refl (path a around (suc v) h (omega arith) w i (omega (arith, n)) (omega arith))
  path (least_formula a) around v (k, o, h) l w i p q =
      fixpoint_path v w (fixpoint_yes f v (omega arith) (omega arith) (omega arith)) p (λ y. path a (v ∷ around) (suc v) h (omega arith) w i y (omega arith))
  path (greatest_formula a) around v (k, o, h) l w i p q =
      fixpoint_path v w (fixpoint_yes f v (omega arith) (omega arith) (omega arith)) p (λ y. path a (v ∷ around) (suc v) h (omega arith) w i y (omega arith))
  path (reference_formula n) around v (k, o, h) l w i p q = absurd (other v w (fixpoint_high f v (omega arith) (omega arith)) i (omega arith))

  -- the formula that stands at node u
  record At (u : ℕ) : Type 0 where
    whole : FormulaSyntax
    around : List ℕ
    holds : Holds (write_formula row whole around u) f u
    fits : u + formula_size whole ≤ size f

  at_first : (t : FormulaSyntax) (around : List ℕ) (v u : ℕ) → Holds (write_formula row t around v) f v → v + formula_size t ≤ size f → v ≤ u → (suc v ≤ u → At u) → At u
  at_first t around v u h l p r = go (ℕ_discrete v u)
    where
      go : Dec (v ≡ u) → At u
      go (yes e) = subst At e (record { whole = t; around = around; holds = h; fits = l })
      go (no d) = r (omega arith)

  at : (t : FormulaSyntax) (around : List ℕ) (v : ℕ) → Holds (write_formula row t around v) f v → v + formula_size t ≤ size f → (u : ℕ) → v ≤ u → u < v + formula_size t → At u
  unfolding write_over formula_size
  at true_formula around v h l u p q = at_first true_formula around v u h l p (λ y. absurd (omega arith))
  at false_formula around v h l u p q = at_first false_formula around v u h l p (λ y. absurd (omega arith))
  at (and_formula a b) around v h l u p q =
      let (c, d) = holds_both (first_node row) f a b around v h.2 in
      at_first (and_formula a b) around v u h l p (λ y. either u (suc v + formula_size a) (At u)
      (λ z. at a around (suc v) c (omega arith) u y z)
      (λ z. at b around (suc v + formula_size a) d (omega arith) u z (omega arith)))
  at (or_formula a b) around v h l u p q =
      let (c, d) = holds_both (first_node row) f a b around v h.2 in
      at_first (or_formula a b) around v u h l p (λ y. either u (suc v + formula_size a) (At u)
      (λ z. at a around (suc v) c (omega arith) u y z)
      (λ z. at b around (suc v + formula_size a) d (omega arith) u z (omega arith)))
  at (box_formula n a) around v h l u p q = at_first (box_formula n a) around v u h l p (λ y. at a around (suc v) h.2 (omega arith) u y (omega arith))
  at (diamond_formula n a) around v h l u p q = at_first (diamond_formula n a) around v u h l p (λ y. at a around (suc v) h.2 (omega arith) u y (omega arith))
  at (least_formula a) around v h l u p q = at_first (least_formula a) around v u h l p (λ y. at a (v ∷ around) (suc v) h.2 (omega arith) u y (omega arith))
  at (greatest_formula a) around v h l u p q = at_first (greatest_formula a) around v u h l p (λ y. at a (v ∷ around) (suc v) h.2 (omega arith) u y (omega arith))
  at (reference_formula n) around v h l u p q = at_first (reference_formula n) around v u h l p (λ y. absurd (omega arith))

  -- from a fixpoint to one that it encloses
  inner_steps : (u w : ℕ) → At u → is_fixpoint (formula_node f u) ≡ true → is_fixpoint (formula_node f w) ≡ true → encloses f u w ≡ true
      → (js : List ℕ) × Steps x (equation_number f u) js × (last_of (equation_number f u) js ≡ equation_number f w)
  unfolding encloses
  inner_steps u w a i j e =
      let (b, c) = and-true (ltb u w) _ e in
      let l : u < w = ltb-true u w b in
      let r : w < u + formula_size a.whole = before_end w (u + formula_size a.whole) (tree_end (formula_children f) (size f) u) (formula_ends (first_node row) f a.whole a.around u a.holds a.fits) c in
      let p = path a.whole a.around u a.holds a.fits w j (omega arith) r in
      let s : p.first ≡ equation_number f u = only (subst (λ (ks : List ℕ). In p.first ks) (own_references u i) p.met) in
      (p.rest, subst (λ (k : ℕ). Steps x k p.rest) s p.steps, ap (λ (k : ℕ). last_of k p.rest) (sym s) ∙ p.ends)
    where
      only : {n k : ℕ} → In n (k ∷ []) → n ≡ k
      only (inl d) = d
      only (inr d) = absurd d

-- ---- the ranking by depth

-- for every input that is not refused
pub by_depth_pass_sound : (x : Input) → input_refusal x ≡ Ok tt → PassSound by_depth x
unfolding by_depth least_bit
by_depth_pass_sound x passed =
    let good = accepted x passed in
    let w = accepted_input_is_written x passed in
    let e : size x.formula ≡ formula_size w.whole = ap size w.whole_words ∙ words_size (first_node w.row) w.whole in
    let h : Holds (write_formula w.row w.whole [] 0) x.formula 0 =
    subst (λ (ws : List ℕ). Holds (write_formula w.row w.whole [] 0) ws 0) (sym w.whole_words) (words_hold (first_node w.row) w.whole) in
    record {
      parity = λ i l. bit_parity (depth x i / 2) (equation_of x.formula i).operator;
      below = λ i j n p q.
          let u = n.outer in
          let v = n.inner in
          let here = at (size x.actions) x good.formula w.row w.whole [] 0 h (omega arith) u (omega arith) (omega (arith, fixpoint_inside x.formula u n.outer_fixpoint)) in
          let (js, s, last) = inner_steps (size x.actions) x good.formula w.row u v here n.outer_fixpoint n.inner_fixpoint n.inside in
          let a = number_below x.formula u n.outer_fixpoint in
          let b = number_below x.formula v n.inner_fixpoint in
          let y = n.outer_number in
          let z = n.inner_number in
          let d : depth x j ≤ depth x i = depth_nested (size x.actions) x good.formula i j js (omega arith) (omega arith) p q (subst (λ (k : ℕ). Steps x k js) y s) (ap (λ (k : ℕ). last_of k js) (sym y) ∙ last ∙ z) in
          let r : least_bit (equation_of x.formula i).operator ≡ 1 = least-one (equation_of x.formula i).operator p in
          let t : least_bit (equation_of x.formula j).operator ≡ 0 = greatest_none (equation_of x.formula j).operator q in
          omega arith;
    }
  where
    least-one : (o : Operator) → o ≡ least → least_bit o ≡ 1
    least-one o e = ap least_bit e

    greatest_none : (o : Operator) → o ≡ greatest → least_bit o ≡ 0
    greatest_none o e = ap least_bit e
