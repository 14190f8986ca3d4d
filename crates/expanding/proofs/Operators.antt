-- A formula that stands in the table once the first of its nodes was put before its operands: one law for each kind of
-- node. Assumes nothing.
use mathlib.Core.Path.{◌≡◌, refl, sym, ap, ◌∙◌, subst}
use mathlib.Core.List.{List, ◌∷◌, ◌++◌}
use Prim.Native.Nat.{ℕ, suc, ◌+◌, ◌≤◌, ◌<◌}
use native.Mathlib.Omega.{arith}
use lib.ListN.{length, get_or, length-append}
use Rattle.rules.specs.Table.{size}
use Rattle.writing.specs.Nodes.{Node, Holds}
use Rattle.writing.specs.FormulaSyntax.{FormulaOver, true_formula, false_formula, reference_formula, formula_size, write_over}
use Rattle.writing.proofs.Nodes.{holds_join}
use Rattle.writing.proofs.FormulaNodes.{written_length}
use Rattle.writing.specs.FormulaReading.{itself}
use Rattle.regular_rules.specs.Expand.{Modality, box, diamond, modal_formula, both_formula, again_formula}
use Rattle.regular_rules.proofs.Moves.{nodes_of}
use Rattle.regular_rules.proofs.Expanded.{modal_formula_fits, both_fits, again_fits, modal_formula_size, both_size, again_size}
use Rattle.expanding.specs.declared.table.Part.{Part}
use Rattle.expanding.specs.Parts.{Extended, Any, Stands}
use Rattle.expanding.specs.Modalities.{modal_kind, both_kind, again_kind}
use Rattle.expanding.proofs.Standing.{holds_kept}

-- a node was put before others
holds_put : (ns : List Node) {p : Part} {k o : ℕ} {ws vs : List ℕ} {q : Part} → Extended p k o ws vs q → p.start + length ns ≤ size ws
    → Holds ns ws p.start → Holds ((k, o) ∷ ns) vs q.start
holds_put ns {p} {k} {o} {ws} {vs} {q} x l h =
    (x.has_kind, x.has_operand, subst (Holds ns vs) (sym x.begins) (holds_kept ns ws vs p.start p.start x.rest (omega arith) l h))

-- ---- no operand: a node before no others

module _ {end : ℕ} {ws vs : List ℕ} {q : Part} where
  pub stands_true : {around : List ℕ} → Extended (record { start = end; end = end }) 0 0 ws vs q → Stands true_formula around q vs
  unfolding write_over formula_size
  stands_true x = record { ends = omega (arith, x.begins, x.ends); fits = tt; nodes = (x.has_kind, x.has_operand, tt) }

  pub stands_false : {around : List ℕ} → Extended (record { start = end; end = end }) 1 0 ws vs q → Stands false_formula around q vs
  unfolding write_over formula_size
  stands_false x = record { ends = omega (arith, x.begins, x.ends); fits = tt; nodes = (x.has_kind, x.has_operand, tt) }

  pub stands_reference : {around : List ℕ} (i : ℕ) → i < length around
      → Extended (record { start = end; end = end }) 8 (get_or around i 0) ws vs q → Stands (reference_formula i) around q vs
  unfolding write_over formula_size
  stands_reference i l x = record { ends = omega (arith, x.begins, x.ends); fits = l; nodes = (x.has_kind, x.has_operand, tt) }

-- ---- one operand, which stands in part p

modal_nodes : (m : Modality) (a : ℕ) (t : FormulaOver ℕ) (around : List ℕ) (v : ℕ)
    → nodes_of (modal_formula m a t) around v ≡ (modal_kind m, a) ∷ nodes_of t around (suc v)
unfolding write_over modal_formula
modal_nodes box a t around v = refl
modal_nodes diamond a t around v = refl

again_nodes : (m : Modality) (t : FormulaOver ℕ) (around : List ℕ) (v : ℕ)
    → nodes_of (again_formula m t) around v ≡ (again_kind m, 0) ∷ nodes_of t (v ∷ around) (suc v)
unfolding write_over again_formula
again_nodes box t around v = refl
again_nodes diamond t around v = refl

module _ (m : Modality) {t : FormulaOver ℕ} {around : List ℕ} {p : Part} {ws vs : List ℕ} {q : Part} (inside : p.end ≤ size ws) where
  pub stands_modal : {a : ℕ} → Extended p (modal_kind m) a ws vs q → Stands t around p ws → Stands (modal_formula m a t) around q vs
  stands_modal {a} x s =
      record {
        ends = omega (arith, modal_formula_size m a t, s.ends, x.begins, x.ends);
        fits = modal_formula_fits Any m a t (length around) tt s.fits;
        nodes = subst (λ (ns : List Node). Holds ns vs q.start)
            (sym (modal_nodes m a t around q.start ∙ ap (λ (v : ℕ). (modal_kind m, a) ∷ nodes_of t around v) x.begins))
            (holds_put (nodes_of t around p.start) x (omega (arith, s.ends, written_length itself t around p.start)) s.nodes);
      }

  -- the new node is a fixpoint around it
  pub stands_again : Extended p (again_kind m) 0 ws vs q → Stands t (q.start ∷ around) p ws → Stands (again_formula m t) around q vs
  stands_again x s =
      record {
        ends = omega (arith, again_size m t, s.ends, x.begins, x.ends);
        fits = again_fits Any m t (length around) s.fits;
        nodes = subst (λ (ns : List Node). Holds ns vs q.start)
            (sym (again_nodes m t around q.start ∙ ap (λ (v : ℕ). (again_kind m, 0) ∷ nodes_of t (q.start ∷ around) v) x.begins))
            (holds_put (nodes_of t (q.start ∷ around) p.start) x
            (omega (arith, s.ends, written_length itself t (q.start ∷ around) p.start)) s.nodes);
      }

-- ---- two operands, which stand side by side

both_nodes : (m : Modality) (t u : FormulaOver ℕ) (around : List ℕ) (v : ℕ) → nodes_of (both_formula m t u) around v
    ≡ (both_kind m, suc v + formula_size t) ∷ (nodes_of t around (suc v) ++ nodes_of u around (suc v + formula_size t))
unfolding write_over both_formula
both_nodes box t u around v = refl
both_nodes diamond t u around v = refl

-- where they stand
both_at : (m : Modality) (t u : FormulaOver ℕ) (around : List ℕ) (v left right : ℕ) → suc v ≡ left → left + formula_size t ≡ right
    → nodes_of (both_formula m t u) around v ≡ (both_kind m, right) ∷ (nodes_of t around left ++ nodes_of u around right)
both_at m t u around v left right a b =
    both_nodes m t u around v
    ∙ ap (λ (w : ℕ). (both_kind m, w + formula_size t) ∷ (nodes_of t around w ++ nodes_of u around (w + formula_size t))) a
    ∙ ap (λ (w : ℕ). (both_kind m, w) ∷ (nodes_of t around left ++ nodes_of u around w)) b

pub stands_both : (m : Modality) {t u : FormulaOver ℕ} {around : List ℕ} {left right : Part} {ws vs : List ℕ} {q : Part} → left.end ≡ right.start
    → right.end ≤ size ws → Extended (record { start = left.start; end = right.end }) (both_kind m) right.start ws vs q
    → Stands t around left ws → Stands u around right ws → Stands (both_formula m t u) around q vs
stands_both m {t} {u} {around} {left} {right} {ws} {vs} {q} e inside x s z =
    let ns = nodes_of t around left.start in
    let os = nodes_of u around right.start in
    let a = written_length itself t around left.start in
    let b = written_length itself u around right.start in
    let c = length-append ns os in
    let i : left.start + length ns ≡ right.start = omega (arith, s.ends) in
    let j : left.start + formula_size t ≡ right.start = omega (arith, s.ends) in
    record {
      ends = omega (arith, both_size m t u, s.ends, z.ends, x.begins, x.ends);
      fits = both_fits Any m t u (length around) s.fits z.fits;
      nodes = subst (λ (xs : List Node). Holds xs vs q.start) (sym (both_at m t u around q.start left.start right.start x.begins j))
          (holds_put (ns ++ os) x (omega (arith, z.ends))
          (holds_join ns os ws left.start (length ns) refl s.nodes (subst (Holds os ws) (sym i) z.nodes)));
    }
