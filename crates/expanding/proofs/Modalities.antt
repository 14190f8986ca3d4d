-- Modalities written: one law for each kind of a regular formula, and that there is room for their parts. Assumes
-- nothing.
use mathlib.Core.Path.{◌≡◌, sym, ap, ◌∙◌, subst}
use mathlib.Core.List.{List, [], ◌∷◌}
use Prim.Native.Nat.{ℕ, suc, ◌+◌, ◌-◌, ◌≤◌, ◌<◌}
use native.Mathlib.Omega.{arith}
use lib.ListN.{length}
use Rattle.rules.specs.Table.{size}
use Rattle.writing.specs.Nodes.{Node, Holds}
use Rattle.writing.specs.FormulaSyntax.{FormulaOver, reference_formula}
use Rattle.regular_rules.specs.Regular.{Regular, action, sequence, choice, star, plus}
use Rattle.regular_rules.specs.Expand.{Modality, below, modal}
use Rattle.regular_rules.specs.Sizes.{modal_size}
use Rattle.regular_rules.specs.Accepts.{Leaves}
use Rattle.regular_rules.proofs.Expanded.{below_size, below_fits, modal_fits}
use Rattle.regular_rules.proofs.Moves.{write_outer, write_below}
use Rattle.expanding.specs.declared.table.Part.{Part}
use Rattle.expanding.specs.Parts.{Roomy, Within, part_size, SameFrom, Extended, Any, Stands, Unwritten, Copied, Bound}
use Rattle.expanding.specs.Modalities.{modal_kind, both_kind, again_kind, ModalWritten}
use Rattle.expanding.proofs.Standing.{same_later, same_then, roomy_then, stands_kept}
use Rattle.expanding.proofs.Operators.{stands_reference, stands_modal, stands_again, stands_both}

pub size_more : (r : Regular) (s : ℕ) → s < modal_size r s
unfolding modal_size
size_more (action a) s = omega arith
size_more (sequence r t) s = omega (arith, size_more t s, size_more r (modal_size t s))
size_more (choice r t) s = omega (arith, size_more r s)
size_more (star r) s = omega arith
size_more (plus r) s = omega (arith, size_more r (suc (suc (modal_size r 1 + s))))

leaves_any : (r : Regular) → Leaves Any r
leaves_any (action a) = tt
leaves_any (sequence r s) = (leaves_any r, leaves_any s)
leaves_any (choice r s) = (leaves_any r, leaves_any s)
leaves_any (star r) = leaves_any r
leaves_any (plus r) = leaves_any r

module _ {p : Part} {ws : List ℕ} (within : Within p ws) where
  pub wrote_action : {m : Modality} {a : ℕ} {vs : List ℕ} {q : Part} → Extended p (modal_kind m) a ws vs q → ModalWritten m (action a) p ws vs q
  unfolding modal_size modal
  wrote_action {m} x =
      record {
        rest = x.rest;
        begins = omega (arith, x.begins);
        ends = x.ends;
        stands = λ f around u s. stands_modal m within.inside x s;
      }

  -- ---- before a modality that is written: of a sequence, and of a plus, which is one pass and a star

  module _ {m : Modality} {s : Regular} {vs : List ℕ} {second : Part} (a : ModalWritten m s p ws vs second) where
    second_size : part_size second ≡ modal_size s (part_size p)
    second_size = omega (arith, a.begins, a.ends, size_more s (part_size p))

    pub before_room : (r : Regular) → modal_size r (modal_size s (part_size p)) ≤ p.end
        → Within second vs × (modal_size r (part_size second) ≤ second.end)
    before_room r space =
        let more = size_more s (part_size p) in
        let room : modal_size r (part_size second) ≤ p.end = rw second_size space in
        let few = a.rest.few in
        let inside = within.inside in (
          record { roomy = roomy_then a.rest within.roomy; order = omega (arith, a.begins, a.ends); inside = omega (arith, a.ends) },
          omega (arith, a.ends),
        )

    module _ {r : Regular} {us : List ℕ} {q : Part} (b : ModalWritten m r second vs us q) where
      before_begins : q.start + modal_size r (modal_size s (part_size p)) ≡ p.end
      before_begins = ap (λ k. q.start + modal_size r k) (sym second_size) ∙ b.begins ∙ a.ends

      before_rest : SameFrom p.start ws us
      before_rest =
          let order = within.order in
          same_then (omega (arith, a.begins, size_more s (part_size p))) a.rest b.rest

      pub wrote_sequence : ModalWritten m (sequence r s) p ws us q
      unfolding modal_size modal
      wrote_sequence =
          record {
            rest = before_rest;
            begins = before_begins;
            ends = b.ends ∙ a.ends;
            stands = λ f around u h. b.stands (modal m s f) around u (a.stands f around u h);
          }

  pub wrote_plus : {m : Modality} {r : Regular} {vs us : List ℕ} {again q : Part} → ModalWritten m (star r) p ws vs again
      → ModalWritten m r again vs us q → ModalWritten m (plus r) p ws us q
  unfolding modal_size modal
  wrote_plus {m} {r} a b =
      record {
        rest = before_rest a b;
        begins = before_begins a b;
        ends = b.ends ∙ a.ends;
        stands = λ f around u h. b.stands (modal m (star r) f) around u (a.stands f around u h);
      }

  -- ---- a choice: its second part, a copy of the formula, its first part before it, what joins them

  module _ {m : Modality} {s : Regular} {vs : List ℕ} {second : Part} (a : ModalWritten m s p ws vs second) where
    pub copy_room : (r : Regular) → suc (modal_size r (part_size p) + modal_size s (part_size p)) ≤ p.end
        → Within p vs × (part_size p ≤ second.start) × (second.start ≤ p.start)
    copy_room r space =
        let few = a.rest.few in
        let order = within.order in
        let inside = within.inside in
        let i = a.begins in
        let f = size_more r (part_size p) in
        let g = size_more s (part_size p) in
        (record { roomy = roomy_then a.rest within.roomy; order = order; inside = omega arith }, omega arith, omega arith)

    module _ {us : List ℕ} {copy : Part} (c : Copied p second.start vs us copy) where
      copy_size : part_size copy ≡ part_size p
      copy_size = omega (arith, c.begins, c.ends)

      pub first_room : (r : Regular) → suc (modal_size r (part_size p) + modal_size s (part_size p)) ≤ p.end
          → Within copy us × (modal_size r (part_size copy) ≤ copy.end)
      first_room r space =
          let (there, f, g) = copy_room r space in
          let few = c.rest.few in
          let inside = there.inside in
          let i = a.begins in
          let j = c.begins in
          let k = c.ends in
          let l : modal_size r (part_size p) ≤ copy.end = omega arith in
          (record { roomy = roomy_then c.rest there.roomy; order = omega arith; inside = omega arith }, rw copy_size l)

      module _ {r : Regular} {xs : List ℕ} {first : Part} (b : ModalWritten m r copy us xs first) where
        first_begins : first.start + modal_size r (part_size p) ≡ second.start
        first_begins = ap (λ k. first.start + modal_size r k) (sym copy_size) ∙ b.begins ∙ c.ends

        pub join_room : suc (modal_size r (part_size p) + modal_size s (part_size p)) ≤ p.end
            → Roomy xs × (1 ≤ first.start) × (first.start ≤ size xs) × (second.start < 4_294_967_296)
        join_room space =
            let (there, f, g) = copy_room r space in
            let roomy = roomy_then b.rest (roomy_then c.rest there.roomy) in
            let few = b.rest.few in
            let more = c.rest.few in
            let i = a.begins in
            let j = first_begins in
            let k = there.roomy.1 in
            let l = there.inside in
            (roomy, omega arith, omega arith, omega arith)

        pub wrote_choice : {ys : List ℕ} {q : Part} → Extended (record { start = first.start; end = second.end }) (both_kind m) second.start xs ys q
            → ModalWritten m (choice r s) p ws ys q
        unfolding modal_size modal
        wrote_choice x =
            let i = a.begins in
            let j = first_begins in
            let k = c.begins in
            let l = a.ends in
            let more_s = size_more s (part_size p) in
            let more_r = size_more r (part_size p) in
            let few = a.rest.few in
            let more = c.rest.few in
            let most = b.rest.few in
            let order = within.order in
            let inside = within.inside in
            let copying = same_later {d = p.start} (omega arith) c.rest in
            let writing = same_later {d = second.start} (omega arith) b.rest in
            let joining = same_later {d = second.start} (omega arith) x.rest in
            record {
              rest = same_then (omega arith) a.rest (same_then (omega arith) copying (same_then (omega arith) writing joining));
              begins = omega (arith, x.begins);
              ends = x.ends ∙ l;
              stands = λ f around u h.
                  let left = b.stands f around u (c.stands f around u (stands_kept a.rest (omega arith) inside h)) in
                  let right = a.stands f around u h in
                  let kept = stands_kept writing (omega arith) (omega arith) (stands_kept c.rest (omega arith) (omega arith) right) in
                  stands_both m (b.ends ∙ c.ends) (omega arith) x left kept;
            }

  -- ---- a star: a reference, one pass before it, its reference bound, what joins them, the fixpoint

  pub reference_room : (r : Regular) → modal_size (star r) (part_size p) ≤ p.end → modal_size r 1 + 2 ≤ p.start
  unfolding modal_size
  reference_room r space = let order = within.order in omega arith

  module _ {mark : ℕ} {vs : List ℕ} {reference : Part} (g : Extended (record { start = p.start; end = p.start }) 8 mark ws vs reference) where
    reference_size : part_size reference ≡ 1
    reference_size = omega (arith, g.begins, g.ends)

    pub pass_room : (r : Regular) → modal_size (star r) (part_size p) ≤ p.end
        → Within reference vs × (modal_size r (part_size reference) ≤ reference.end)
    pass_room r space =
        let l = reference_room r space in
        let few = g.rest.few in
        let order = within.order in
        let inside = within.inside in
        let i = g.begins in
        let j = g.ends in
        let k : modal_size r 1 ≤ reference.end = omega arith in
        (record { roomy = roomy_then g.rest within.roomy; order = omega arith; inside = omega arith }, rw reference_size k)

    module _ {m : Modality} {r : Regular} {us : List ℕ} {pass : Part} (a : ModalWritten m r reference vs us pass) where
      pass_begins : pass.start + modal_size r 1 ≡ p.start
      pass_begins = ap (λ k. pass.start + modal_size r k) (sym reference_size) ∙ a.begins ∙ g.ends

      pub bind_room : modal_size (star r) (part_size p) ≤ p.end → (2 ≤ pass.start) × Within pass us
      bind_room space =
          let l = reference_room r space in
          let few = g.rest.few in
          let more = a.rest.few in
          let order = within.order in
          let inside = within.inside in
          let i = pass_begins in
          let j = a.ends in
          let k = g.ends in
          (omega arith, record { roomy = roomy_then a.rest (roomy_then g.rest within.roomy); order = omega arith; inside = omega arith })

      -- once something was bound in the pass
      module _ {xs : List ℕ} (c : SameFrom pass.end us xs) where
        pub join_star_room : modal_size (star r) (part_size p) ≤ p.end
            → Roomy xs × (1 ≤ pass.start) × (pass.start ≤ size xs) × (p.start < 4_294_967_296)
        join_star_room space =
            let (two, there) = bind_room space in
            let few = c.few in
            let order = there.order in
            let inside = there.inside in
            let j : pass.end ≡ p.start = a.ends ∙ g.ends in
            let most = there.roomy.1 in
            (roomy_then c there.roomy, omega arith, omega arith, omega arith)

        pub fixpoint_room : {k : ℕ} {ys : List ℕ} {body : Part} → Extended (record { start = pass.start; end = p.end }) k p.start xs ys body
            → modal_size (star r) (part_size p) ≤ p.end → Roomy ys × (1 ≤ body.start) × (body.start ≤ size ys)
        fixpoint_room x space =
            let (two, there) = bind_room space in
            let (room, some, inside, small) = join_star_room space in
            let few = x.rest.few in
            let i = x.begins in
            (roomy_then x.rest room, omega arith, omega arith)

      module _ {xs : List ℕ} (c : Bound pass mark (pass.start - 2) us xs) where
        -- the pass, before a reference to the fixpoint
        passed : (around : List ℕ) → Unwritten (mark ∷ []) → Stands (modal m r (reference_formula 0)) ((pass.start - 2) ∷ around) pass xs
        passed around unwritten =
            let n : 0 < 1 = omega arith in
            let s = a.stands (reference_formula 0) (mark ∷ []) unwritten (stands_reference 0 n g) in
            let t = c.stands (modal m r (reference_formula 0)) [] (λ i. i) s in
            record {
              ends = t.ends;
              fits = modal_fits Any m r (reference_formula 0) (suc (length around)) (leaves_any r) (omega arith);
              nodes = subst (λ (ns : List Node). Holds ns xs pass.start)
                  (sym (write_outer Any (modal m r (reference_formula 0)) ((pass.start - 2) ∷ []) around pass.start t.fits)) t.nodes;
            }

        -- the formula, under one more fixpoint
        under : (f : FormulaOver ℕ) (around : List ℕ) → Stands f around p xs → Stands (below f 0) ((pass.start - 2) ∷ around) p xs
        under f around s =
            record {
              ends = omega (arith, below_size f 0, s.ends);
              fits = below_fits Any f (length around) 0 s.fits;
              nodes = subst (λ (ns : List Node). Holds ns xs p.start) (sym (write_below f [] (pass.start - 2) around p.start)) s.nodes;
            }

        pub wrote_star : {ys zs : List ℕ} {body q : Part} → Unwritten (mark ∷ [])
            → Extended (record { start = pass.start; end = p.end }) (both_kind m) p.start xs ys body
            → Extended body (again_kind m) 0 ys zs q → ModalWritten m (star r) p ws zs q
        unfolding modal_size modal
        wrote_star {ys} {zs} {body} {q} unwritten x y =
            let i = pass_begins in
            let j : pass.end ≡ p.start = a.ends ∙ g.ends in
            let l : pass.start - 2 ≡ q.start = omega (arith, x.begins, y.begins) in
            let more_r = size_more r 1 in
            let inside = within.inside in
            let passing = same_later {d = p.start} (omega (arith, g.begins)) a.rest in
            let binding = same_later {d = p.start} (omega arith) c.rest in
            let joining = same_later {d = p.start} (omega arith) x.rest in
            let again = same_later {d = p.start} (omega (arith, x.begins)) y.rest in
            let before = same_then (omega arith) g.rest (same_then (omega arith) passing binding) in
            record {
              rest = same_then (omega arith) before (same_then (omega arith) joining again);
              begins = omega (arith, x.begins, y.begins);
              ends = y.ends ∙ x.ends;
              stands = λ f around u h.
                  let few = before.few in
                  let more = x.rest.few in
                  let kept = stands_kept before (omega arith) inside h in
                  stands_again m (omega (arith, x.ends)) y
                  (rw l at (stands_both m j (omega arith) x (passed around unwritten) (under f around kept)));
            }
