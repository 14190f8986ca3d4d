-- The result of a restriction is the restriction of itself: in it the search meets the vertices 0, 1, 2, .. in this
-- order. Assumes nothing.
use mathlib.Core.Path.{◌≡◌, refl, sym, ap, ap₂, ◌∙◌, subst}
use mathlib.Core.List.{List, [], ◌∷◌, ◌++◌, map}
use mathlib.Core.Logic.{inl, inr}
use Prim.Native.Nat.{ℕ, suc, ◌+◌, ◌<◌}
use native.Mathlib.Omega.{arith}
use lib.ListN.{length, get_or, length-append}
use lib.Seq.{get_or-append_seam}
use lib.Dec.{eqb}
use Rattle.rules.specs.declared.Answer.{Answer}
use Rattle.rules.specs.declared.Answer.TheVariants.{Done}
use Rattle.rules.specs.Lists.{word, In, from, position}
use Rattle.rules.specs.Reach.{onward}
use Rattle.rules.specs.Game.{edges_in, initial_in, owner_in, priority_in, state_in, item_in, targets_in, counts_in}
use Rattle.rules.specs.Demands.{Numbers, numbered, old, new}
use Rattle.rules.specs.Restricts.{Searched, begun, gone, Restricts}
use Rattle.lists.specs.Shapes.{Begins}
use Rattle.lists.proofs.Members.{in_at, in_map, position_below, position_at, distinct_positions}
use Rattle.lists.proofs.Shapes.{begins_refl, begins_trans, begins-at, begins_length}
use Rattle.lists.proofs.Equalities.{number_equality}
use Rattle.lists.proofs.Ranges.{from-length, from_in, in_from, from_snoc, from_at}
use Rattle.restrictions.proofs.Searching.{numbers_begins, searched_begins, met_exactly, met_distinct}

from-word : (n v : ℕ) → v < n → word (from 0 n) v ≡ v
from-word n v h = omega (arith, from_at 0 n v 0 h)

from_below : (n v : ℕ) → In v (from 0 n) → v < n
from_below n v m = let (a, b) = in_from v 0 n m in omega arith

module _ (g : List ℕ) (a : Answer) (h ns met : List ℕ) (r : Restricts g a h ns met) where
  abbrev n : ℕ
  n = length met

  -- the map sends the old vertex of each new one back to it
  pub number-back : (u : ℕ) → u < length met → word ns (get_or met u 0) ≡ u
  number-back u l =
      let (i, e) = r.sends (get_or met u 0) ((r.exactly (get_or met u 0)).0 (in_at met u 0 l)) in
      distinct_positions met 0 r.once (word ns (get_or met u 0)) u i l e

  -- ---- the search in the result

  number_place : (m : List ℕ) → Begins m met → (u t : ℕ) → u < length m → get_or m u 0 ≡ t → word ns t ≡ u
  number_place m b u t l e =
      let long = begins_length m met b in
      ap (λ (v : ℕ). word ns v) (sym (begins-at m met 0 b u l ∙ e)) ∙ number-back u (omega arith)

  numbers_again : (m ts more : List ℕ) → Numbers m ts more → Begins more met → Numbers (from 0 (length m)) (map (λ t. word ns t) ts) (from 0 (length more))
  numbers_again m ts more numbered b = numbered
  numbers_again m ts more (old {ts = us} {t = t} i o) b =
      let m-begins = begins_trans m more met (numbers_begins g m us more o) b in
      let l = position_below number_equality t m i in
      let e = number_place m m-begins (position eqb t m) t l (position_at number_equality t m 0 i) in
      old (from_in (word ns t) 0 (length m) (omega arith) (omega arith)) (numbers_again m us more o b)
  numbers_again m ts more (new {ts = us} {t = t} i o) b =
      let m-begins = begins_trans (m ++ t ∷ []) more met (numbers_begins g (m ++ t ∷ []) us more o) b in
      let long = length-append m (t ∷ []) in
      let e = number_place (m ++ t ∷ []) m-begins (length m) t (omega arith) (get_or-append_seam m t [] 0) in
      let k : length (m ++ t ∷ []) ≡ suc (length m) = omega arith in
      let z : 0 + length m ≡ word ns t = omega arith in
      let fresh : In (word ns t) (from 0 (length m)) → ⊥ = λ (j : In (word ns t) (from 0 (length m))). let q = from_below (length m) (word ns t) j in omega arith in
      new fresh
      (subst (λ (l : List ℕ). Numbers l (map (λ u. word ns u) us) (from 0 (length more)))
      (ap (from 0) k ∙ from_snoc 0 (length m) ∙ ap (λ (v : ℕ). from 0 (length m) ++ v ∷ []) z)
      (numbers_again (m ++ t ∷ []) us more o b))

  first_again : from 0 1 ≡ initial_in h ∷ []
  unfolding from
  first_again = ap (λ (v : ℕ). v ∷ []) (sym r.first.1)

  searched_again : (i : ℕ) (m : List ℕ) → Searched g i m → Begins m met → Searched h i (from 0 (length m))
  searched_again i m begun b = subst (Searched h 0) (sym first_again) begun
  searched_again i m (gone {i = j} {met = c} s l o) b =
      let c-begins = begins_trans c m met (numbers_begins g c (targets_in g (get_or c j 0)) m o) b in
      let long = begins_length c met c-begins in
      let e : targets_in h (get_or (from 0 (length c)) j 0) ≡ map (λ t. word ns t) (targets_in g (get_or c j 0))
      = ap (λ (v : ℕ). targets_in h v) (from-word (length c) j l) ∙ r.edges j (omega arith)
      ∙ ap (λ (v : ℕ). map (λ t. word ns t) (targets_in g v)) (begins-at c met 0 c-begins j l) in
      gone (searched_again j c s c-begins) (omega (arith, from-length 0 (length c)))
      (subst (λ (ts : List ℕ). Numbers (from 0 (length c)) ts (from 0 (length m))) (sym e) (numbers_again c (targets_in g (get_or c j 0)) m o b))

  whole_again : Searched h (length (from 0 (length met))) (from 0 (length met))
  whole_again =
      subst (λ (i : ℕ). Searched h i (from 0 (length met))) (sym (from-length 0 (length met))) (searched_again (length met) met r.searched (begins_refl met))

  -- ---- edges lead to vertices, which keep their numbers

  edge-below : (u : ℕ) → u < length met → (t : ℕ) → In t (targets_in h u) → t < length met
  edge-below u l t m =
      let (q, i, e) = in_map (λ t. word ns t) t (targets_in g (get_or met u 0)) (subst (In t) (r.edges u l) m) in
      let s = (r.sends q (onward ((r.exactly (get_or met u 0)).0 (in_at met u 0 l)) i)).0 in
      omega arith

  kept_numbers : (k : ℕ) (ts : List ℕ) → ((t : ℕ) → In t ts → t < k) → map (λ t. word (from 0 k) t) ts ≡ ts
  kept_numbers k [] b = refl
  kept_numbers k (t ∷ ts) b = ap₂ ◌∷◌ (from-word k t (b t (inl refl))) (kept_numbers k ts (λ u m. b u (inr m)))

  -- ---- the theorem

  pub restricts_itself : Restricts h a h (from 0 (length met)) (from 0 (length met))
  restricts_itself =
      let long = from-length 0 n in
      let some = r.first in
      let exactly = met_exactly h (from 0 n) whole_again in
      record {
        searched = whole_again;
        exactly = exactly;
        once = met_distinct h (from 0 n) whole_again;
        answer = r.answer ∙ ap (λ (k : ℕ). Done k k (edges_in h)) (sym long);
        first = (r.first.0 ∙ sym long, r.first.1, from-word n 0 (begins_length (initial_in g ∷ []) met begins) ∙ sym r.first.1);
        mapped = long ∙ sym r.first.0;
        sends = λ v q.
            let l = from_below n v ((exactly v).1 q) in
            let e = from-word n v l in
            (omega arith, ap (λ (k : ℕ). word (from 0 n) k) e ∙ e);
        leaves = λ v l o. absurd (o ((exactly v).0 (from_in v 0 n (omega arith) (omega (arith, r.first.0)))));
        owners = λ u l. ap (λ (k : ℕ). owner_in h k) (sym (from-word n u (omega arith)));
        priorities = λ u l. ap (λ (k : ℕ). priority_in h k) (sym (from-word n u (omega arith)));
        states = λ u l. ap (λ (k : ℕ). state_in h k) (sym (from-word n u (omega arith)));
        items = λ u l. ap (λ (k : ℕ). item_in h k) (sym (from-word n u (omega arith)));
        edges = λ u l.
            sym (ap (λ (k : ℕ). map (λ t. word (from 0 n) t) (targets_in h k)) (from-word n u (omega arith)) ∙ kept_numbers n (targets_in h u) (edge-below u (omega arith)));
        counts = λ u l. ap (λ (k : ℕ). counts_in h k) (sym (from-word n u (omega arith)));
        apart = λ d. d;
        begins = r.begins;
        follows = r.follows;
        ends = r.ends;
        past = r.past;
      }
    where
      begins : Begins (initial_in g ∷ []) met
      begins = searched_begins g (length met) met r.searched
