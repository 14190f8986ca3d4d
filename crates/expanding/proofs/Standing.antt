-- Formulas that stand in a part of the table: where nothing of it changes, and where its nodes are carried. Assumes
-- nothing.
use mathlib.Core.Path.{◌≡◌, refl, sym, ap, ap₂, ◌∙◌, subst}
use mathlib.Core.Logic.{inl, inr}
use mathlib.Core.List.{List, [], ◌∷◌, map}
use Prim.Native.Nat.{ℕ, suc, ◌+◌, ◌-◌, ◌≤◌, ◌<◌}
use native.Mathlib.Omega.{arith}
use native.Mathlib.Decide.{dec_lt}
use lib.ListN.{length, length-map}
use Rattle.rules.specs.Lists.{In}
use Rattle.rules.specs.Words.{most_nodes}
use Rattle.rules.specs.Table.{size}
use Rattle.lists.proofs.Members.{map_at}
use Rattle.writing.specs.Nodes.{Node, Holds}
use Rattle.writing.specs.FormulaSyntax.{FormulaOver, formula_size, write_over, Fits}
use Rattle.writing.proofs.Nodes.{holds_at, holds_from}
use Rattle.writing.specs.FormulaReading.{itself}
use Rattle.regular_rules.specs.Moving.{moved_operand, moved_node, carried}
use Rattle.writing.proofs.FormulaNodes.{written_length}
use Rattle.regular_rules.proofs.Moves.{write_moved, carried_inside, carried_below, carried_above}
use Rattle.expanding.specs.declared.table.Part.{Part}
use Rattle.expanding.specs.declared.table.Renumbering.{Renumbering}
use Rattle.expanding.specs.Parts.{Roomy, Within, part_size, SameFrom, renumbered, Carried, Any, Stands, Unwritten, Copied, Bound}

-- ---- what stays

pub same_later : {e d : ℕ} {ws vs : List ℕ} → e ≤ d → SameFrom e ws vs → SameFrom d ws vs
same_later l a = record { long = a.long; few = a.few; kept = λ u p q. a.kept u (omega arith) q }

pub same_then : {e d : ℕ} {ws vs us : List ℕ} → d ≤ e → SameFrom e ws vs → SameFrom d vs us → SameFrom e ws us
same_then l a b =
    record {
      long = b.long ∙ a.long;
      few = b.few ∙ a.few;
      kept = λ u p q.
          let (i, j) = a.kept u p q in
          let (x, y) = b.kept u (omega arith) (omega (arith, a.few)) in
          (x ∙ i, y ∙ j);
    }

-- the table is as roomy
pub roomy_then : {e : ℕ} {ws vs : List ℕ} → SameFrom e ws vs → Roomy ws → Roomy vs
roomy_then a r = (a.long ∙ r.0, omega (arith, a.few, r.1))

pub holds_kept : (ns : List Node) (ws vs : List ℕ) (e v : ℕ) → SameFrom e ws vs → e ≤ v → v + length ns ≤ size ws → Holds ns ws v → Holds ns vs v
holds_kept [] ws vs e v a l b h = tt
holds_kept (n ∷ ns) ws vs e v a l b (k, o, h) =
    let (x, y) = a.kept v l (omega arith) in
    (x ∙ k, y ∙ o, holds_kept ns ws vs e (suc v) a (omega arith) (omega arith) h)

pub stands_kept : {t : FormulaOver ℕ} {around : List ℕ} {p : Part} {e : ℕ} {ws vs : List ℕ} → SameFrom e ws vs → e ≤ p.start
    → p.end ≤ size ws → Stands t around p ws → Stands t around p vs
stands_kept {t} {around} {p} {e} {ws} {vs} a l b s =
    record {
      ends = s.ends;
      fits = s.fits;
      nodes = holds_kept (write_over itself t around p.start) ws vs e p.start a l
          (omega (arith, s.ends, written_length itself t around p.start)) s.nodes;
    }

-- ---- nodes carried

holds_carried : (ns : List Node) (p : Part) (to count : ℕ) (r : Renumbering) (ws vs : List ℕ) → Carried p to count r ws vs → length ns ≤ count
    → Holds ns ws p.start → Holds (map (moved_node (renumbered r)) ns) vs to
unfolding moved_node
holds_carried ns p to count r ws vs c l h =
    holds_from (map (moved_node (renumbered r)) ns) vs to (λ i k.
    let len = length-map ns (moved_node (renumbered r)) in
    let (a, b) = holds_at ns ws p.start h i (omega arith) in
    let m = map_at (moved_node (renumbered r)) ns i (0, 0) (0, 0) (omega arith) in (
      c.kinds i (omega arith) ∙ a ∙ ap (λ (n : Node). n.0) (sym m),
      c.operands i (omega arith) ∙ ap₂ (moved_operand (renumbered r)) a b ∙ ap (λ (n : Node). n.1) (sym m),
    ))

-- a formula that was carried stands where it is carried to
module _ (t : FormulaOver ℕ) (around : List ℕ) (p q : Part) (r : Renumbering) (ws vs : List ℕ) where
  stands_carried : Carried p q.start (part_size p) r ws vs → q.start + part_size p ≡ q.end
      → ((i : ℕ) → i < formula_size t → renumbered r (p.start + i) ≡ q.start + i) → Stands t around p ws
      → Stands t (map (renumbered r) around) q vs
  stands_carried c e moves s =
      record {
        ends = omega (arith, s.ends);
        fits = subst (λ (n : ℕ). Fits Any n t) (sym (length-map around (renumbered r))) s.fits;
        nodes = subst (λ (ns : List Node). Holds ns vs q.start)
            (sym (write_moved (renumbered r) Any t around p.start q.start moves s.fits))
            (holds_carried (write_over itself t around p.start) p q.start (part_size p) r ws vs c
            (omega (arith, s.ends, written_length itself t around p.start)) s.nodes);
      }

-- ---- a copy

-- fixpoints that are not written yet are not renumbered
unwritten_stay : (around : List ℕ) (low high target : ℕ) → high ≤ most_nodes → Unwritten around → map (carried low high target) around ≡ around
unwritten_stay [] low high target h u = refl
unwritten_stay (x ∷ xs) low high target h (a, u) =
    ap₂ (λ (y : ℕ) (ys : List ℕ). y ∷ ys) (carried_above low high target x (omega arith)) (unwritten_stay xs low high target h u)

pub copied : {p : Part} {end : ℕ} {ws vs : List ℕ} → Within p ws → part_size p ≤ end
    → Carried p (end - part_size p) (part_size p) (record { low = p.start; high = p.end; target = end - part_size p }) ws vs
    → Copied p end ws vs (record { start = end - part_size p; end = end })
copied {p} {end} {ws} {vs} within l c =
    record {
      rest = same_later (omega arith) c.rest;
      ends = refl;
      begins = omega arith;
      stands = λ t around u s.
          let n = end - part_size p in
          let e = s.ends in
          subst (λ (xs : List ℕ). Stands t xs (record { start = end - part_size p; end = end }) vs)
          (unwritten_stay around p.start p.end n (omega arith) u)
          (stands_carried t around p (record { start = n; end = end }) (record { low = p.start; high = p.end; target = n }) ws vs c
          (omega arith)
          (λ i k. carried_inside p.start p.end n (p.start + i) (omega arith) (omega arith) ∙ omega arith)
          s);
    }

-- ---- a fixpoint that is bound

others_stay : (mark fixpoint : ℕ) (around : List ℕ) → (¬ In mark around) → map (carried mark (mark + 1) fixpoint) around ≡ around
others_stay mark fixpoint [] h = refl
others_stay mark fixpoint (x ∷ xs) h =
    ap₂ (λ (y : ℕ) (ys : List ℕ). y ∷ ys) (go (dec_lt x mark)) (others_stay mark fixpoint xs (λ i. h (inr i)))
  where
    go : Dec (x < mark) → carried mark (mark + 1) fixpoint x ≡ x
    go (yes l) = carried_below mark (mark + 1) fixpoint x l
    go (no l) = carried_above mark (mark + 1) fixpoint x (let d : ¬ (mark ≡ x) = λ e. h (inl e) in omega arith)

pub bound : {p : Part} {mark fixpoint : ℕ} {ws vs : List ℕ} → Within p ws → most_nodes ≤ mark
    → Carried p p.start (part_size p) (record { low = mark; high = mark + 1; target = fixpoint }) ws vs
    → Bound p mark fixpoint ws vs
bound {p} {mark} {fixpoint} {ws} {vs} within l c =
    record {
      rest = same_later (omega arith) c.rest;
      stands = λ t around h s.
          let e = s.ends in
          let m : carried mark (mark + 1) fixpoint mark ≡ fixpoint =
          carried_inside mark (mark + 1) fixpoint mark (omega arith) (omega arith) ∙ omega arith in
          subst (λ (xs : List ℕ). Stands t xs p vs)
          (ap₂ (λ (y : ℕ) (ys : List ℕ). y ∷ ys) m (others_stay mark fixpoint around h))
          (stands_carried t (mark ∷ around) p p (record { low = mark; high = mark + 1; target = fixpoint }) ws vs c
          (omega arith)
          (λ i k. carried_below mark (mark + 1) fixpoint (p.start + i) (omega arith))
          s);
    }
