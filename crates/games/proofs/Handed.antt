-- The check of a game that is handed over, of the words of written vertices: it passes if every owner is 0 or 1, and is
-- refused 53 at the first owner that is not. Assumes nothing.
use mathlib.Core.Path.{◌≡◌, refl, sym, ap, ◌∙◌, subst}
use mathlib.Core.Bool.{false}
use mathlib.Core.List.{List, [], ◌∷◌, ◌++◌, append-nil}
use mathlib.Core.Logic.{⊎_elim}
use Prim.Native.Nat.{ℕ, suc, ◌+◌, ◌-◌, ◌≤◌, ◌<◌}
use native.Mathlib.Omega.{arith}
use lib.ListN.{length, get_or, take}
use lib.Seq.{take_all}
use lib.Dec.{ltb, leb}
use borrow.Author.Tests.{lt-ltb, le-ltb, lt-leb, ne_eqb}
use Rattle.rules.specs.Answers.{Check}
use Rattle.std.specs.declared.result.Result.TheVariants.{Ok}
use Rattle.rules.specs.Answers.{fault}
use Rattle.rules.specs.Lists.{word, In}
use Rattle.rules.specs.Answers.{fault_if, and_then, first_fault}
use Rattle.rules.specs.Game.{Edge, Vertex, edge_to, game_words, edge_count, all_edges, game_of, vertex_count, edges_in}
use Rattle.rules.specs.Game.{initial_in, vertex_column_at, offsets_at, edge_column_at, owner_in, offset_in, edge_word}
use Rattle.rules.specs.Refusal.{too_large}
use Rattle.rules.specs.GameRefusal.{above_room, refusal51, falls, refusal52, refusal53, game_refusal}
use Rattle.lists.proofs.Members.{in_either, in_at}
use Rattle.tables.proofs.Faults.{if-false, from_none, from_first, then_last, lower_passed, lower_alone}
use Rattle.games.proofs.Reading.{vertex_read, offset_read, length_read, edge_read, count_rises, length_edges}
use Rattle.tables.proofs.Choices.{differ_no}

-- what holds of every edge of every vertex holds of all edges
all_edges_lem : (P : Edge → Type 0) (vs : List Vertex) (d : Vertex)
    → ((v : ℕ) → v < length vs → (e : Edge) → In e (get_or vs v d).edges → P e)
    → (e : Edge) → In e (all_edges vs) → P e
unfolding all_edges
all_edges_lem P [] d f e m = absurd m
all_edges_lem P (v ∷ vs) d f e m =
    ⊎_elim (f 0 (omega arith) e) (all_edges_lem P vs d (λ u h. f (suc u) (omega arith)) e)
    (in_either e v.edges (all_edges vs) m)

third_check : (a b c : Check) → a ≡ Ok tt → b ≡ Ok tt → first_fault (a ∷ b ∷ c ∷ []) ≡ c
unfolding first_fault and_then
third_check a b c e f = rw (e, f) (then_last c)

module _ (vs : List Vertex) (d : Vertex) (some : 1 ≤ length vs) (few : length vs ≤ 1_048_576) (light : edge_count vs ≤ 4_194_304)
    (inside : (v : ℕ) → v < length vs → (e : Edge) → In e (get_or vs v d).edges → e.target < length vs) where
  abbrev g : List ℕ
  g = game_of 0 vs

  plain : game_of 0 vs ++ [] ≡ game_of 0 vs
  plain = append-nil (game_of 0 vs)

  counts : vertex_count g ≡ length vs
  unfolding game_of
  counts = refl

  edges : edges_in g ≡ edge_count vs
  unfolding game_of
  edges = refl

  initial : initial_in g ≡ 0
  unfolding game_of
  initial = refl

  offset : (v : ℕ) → v ≤ length vs → offset_in g v ≡ edge_count (take v vs)
  offset v h = subst (λ (l : List ℕ). offset_in l v ≡ edge_count (take v vs)) plain (offset_read 0 vs [] v h)

  owner : (v : ℕ) → v < length vs → owner_in g v ≡ (get_or vs v d).owner
  owner v h = subst (λ (l : List ℕ). owner_in l v ≡ (get_or vs v d).owner) plain (vertex_read 0 vs [] 0 v d (omega arith) h)

  passes_51 : refusal51 g ≡ Ok tt
  unfolding above_room refusal51
  passes_51 =
      let long = length_read 0 vs in
      if-false 51 0
      (rw (
        le-ltb (length g) 3 (omega arith),
        differ_no {a = length g} {b = game_words (vertex_count g) (edges_in g)} (omega (arith, counts, edges)),
        ne_eqb (vertex_count g) 0 (λ e. omega (arith, counts)),
        le-ltb 1_048_576 (vertex_count g) (omega (arith, counts)),
        le-ltb 4_194_304 (edges_in g) (omega (arith, edges)),
      ) refl)

  begins_0 : offset_in g 0 ≡ 0
  unfolding edge_count Rattle.rules.specs.Lists.sum
  begins_0 = offset 0 (omega arith)

  ends_all : offset_in g (vertex_count g) ≡ edges_in g
  ends_all = ap (offset_in g) counts ∙ offset (length vs) (omega arith) ∙ ap edge_count (take_all (length vs) vs (omega arith)) ∙ sym edges

  rises : (w : ℕ) → 1 + offsets_at g ≤ w → w < 1 + offsets_at g + vertex_count g → falls g w ≡ false
  unfolding falls
  rises w a b =
      let v : ℕ = w - (1 + offsets_at g) in
      let e : offsets_at g + v ≡ w - 1 = omega arith in
      let f : offsets_at g + suc v ≡ w = omega arith in
      let p : word g (w - 1) ≡ edge_count (take v vs) = sym (ap (word g) e) ∙ offset v (omega (arith, counts)) in
      let q : word g w ≡ edge_count (take (suc v) vs) = sym (ap (word g) f) ∙ offset (suc v) (omega (arith, counts)) in
      le-ltb (word g w) (word g (w - 1)) (omega (arith, count_rises vs v))

  passes_52 : refusal52 g ≡ Ok tt
  unfolding refusal52
  passes_52 =
      lower_passed _ (if-false 52 (offsets_at g) (differ_no begins_0))
      ∙ lower_passed _ (from_none 52 (1 + offsets_at g) (1 + offsets_at g + vertex_count g) (falls g) rises)
      ∙ if-false 52 (offsets_at g + vertex_count g) (differ_no ends_all)

  target_small : (w : ℕ) → edge_column_at g 0 ≤ w → w < edge_column_at g 1 → too_large g (vertex_count g) w ≡ false
  unfolding too_large
  target_small w a b =
      let p : ℕ = w - edge_column_at g 0 in
      let e : w ≡ edge_column_at g 0 + p = omega arith in
      let h : p < edge_count vs = omega (arith, edges) in
      let t : word g w ≡ (get_or (all_edges vs) p (edge_to 0)).target
      = ap (word g) e
      ∙ subst (λ (l : List ℕ). edge_word l 0 p ≡ (get_or (all_edges vs) p (edge_to 0)).target) plain
      (edge_read 0 vs [] 0 p (edge_to 0) (omega arith) h) in
      let s : (get_or (all_edges vs) p (edge_to 0)).target < length vs
      = all_edges_lem (λ q. q.target < length vs) vs d inside (get_or (all_edges vs) p (edge_to 0))
      (in_at (all_edges vs) p (edge_to 0) (omega (arith, length_edges vs))) in
      lt-leb (vertex_count g) (word g w) (omega (arith, counts))

  starts-inside : fault_if 53 2 (leb (vertex_count g) (initial_in g)) ≡ Ok tt
  starts-inside = if-false 53 2 (lt-leb (vertex_count g) (initial_in g) (omega (arith, counts, initial)))

  owner-word : (w : ℕ) → vertex_column_at g 0 ≤ w → w < vertex_column_at g 1 → word g w ≡ (get_or vs (w - 3) d).owner
  owner-word w a b =
      let e : w ≡ vertex_column_at g 0 + (w - 3) = omega arith in
      ap (word g) e ∙ owner (w - 3) (omega (arith, counts))

  -- every vertex has an owner
  pub owned_passes : ((v : ℕ) → v < length vs → (get_or vs v d).owner < 2) → game_refusal (game_of 0 vs) ≡ Ok tt
  unfolding game_refusal refusal53
  owned_passes all =
      third_check (refusal51 g) (refusal52 g) (refusal53 g) passes_51 passes_52
      ∙ (lower_passed _ starts-inside
      ∙ lower_passed _
      (from_none 53 (vertex_column_at g 0) (vertex_column_at g 1) (λ w. ltb 1 (word g w))
      (λ w a b. let h = all (w - 3) (omega (arith, counts)) in le-ltb 1 (word g w) (omega (arith, owner-word w a b))))
      ∙ from_none 53 (edge_column_at g 0) (edge_column_at g 1) (too_large g (vertex_count g)) target_small)

  -- vertex u is the first without one
  pub first_unowned : (u : ℕ) → u < length vs → (get_or vs u d).owner ≡ 2 → ((v : ℕ) → v < u → (get_or vs v d).owner < 2)
      → game_refusal (game_of 0 vs) ≡ fault 53 (3 + u)
  unfolding game_refusal refusal53
  first_unowned u h e before =
      let i : 3 + u < vertex_column_at g 1 = omega (arith, counts) in
      let o : (get_or vs (3 + u - 3) d).owner ≡ (get_or vs u d).owner
      = let z : 3 + u - 3 ≡ u = omega arith in ap (λ (v : ℕ). (get_or vs v d).owner) z in
      third_check (refusal51 g) (refusal52 g) (refusal53 g) passes_51 passes_52
      ∙ (lower_passed _ starts-inside
      ∙ lower_alone _ (from_none 53 (edge_column_at g 0) (edge_column_at g 1) (too_large g (vertex_count g)) target_small)
      ∙ from_first 53 (vertex_column_at g 0) (vertex_column_at g 1) (3 + u) (λ w. ltb 1 (word g w)) (omega arith) i
      (lt-ltb 1 (word g (3 + u)) (omega (arith, owner-word (3 + u) (omega arith) i)))
      (λ w a b. let l = before (w - 3) (omega arith) in le-ltb 1 (word g w) (omega (arith, owner-word w a (omega (arith, counts))))))
