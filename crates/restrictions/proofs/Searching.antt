-- The search meets exactly the vertices that a chain of edges leads to from the initial vertex, each once; as many
-- turns as there are vertices are enough; and nothing about it is left open. Assumes nothing.
use mathlib.Core.Path.{◌≡◌, refl, sym, subst}
use mathlib.Core.Bool.{Bool, true, false, cond}
use mathlib.Core.List.{List, [], ◌∷◌}
use mathlib.Core.Logic.{inl, ⊎_elim, ◌↔◌}
use Prim.Native.Nat.{ℕ, zero, suc, ◌+◌, ◌≤◌, ◌<◌}
use native.Mathlib.Omega.{arith}
use native.Mathlib.Decide.{ℕ_discrete}
use lib.ListN.{length, get_or}
use lib.Dec.{eqb, ltb}
use borrow.Author.Tests.{ltb-true, ltb-false}
use Rattle.rules.specs.Lists.{In, Distinct, from, position, insert_all}
use Rattle.rules.specs.Reach.{Reachable, at_root, onward}
use Rattle.rules.specs.Game.{vertex_count, initial_in, targets_in}
use Rattle.rules.specs.Demands.{Numbers}
use Rattle.rules.specs.Restrict.{search_from, reached_vertices}
use Rattle.rules.specs.Restricts.{Searched, begun, gone}
use Rattle.lists.specs.Shapes.{Begins}
use Rattle.lists.proofs.Members.{in_at, position_below, position_at, no_more}
use Rattle.lists.proofs.Shapes.{begins_refl, begins_trans, begins_in, begins-at, begins_length}
use Rattle.lists.proofs.Inserts.{inserts_begins, inserts_holds, inserts_distinct}
use Rattle.lists.proofs.Equalities.{number_equality}
use Rattle.lists.proofs.Ranges.{from-length, from_in}
use Rattle.walks.proofs.Only.{numbers_only, numbers_in}
use Rattle.walks.proofs.After.{numbers}
use Rattle.walks.proofs.Reached.{reachable_inside}
use Rattle.restrictions.specs.GoodGame.{GoodGame}
use Rattle.restrictions.proofs.Accepted.{target_below}

-- ---- the relation `Searched`

module _ (g : List ℕ) where
  more-is : (met ts more : List ℕ) → Numbers met ts more → more ≡ insert_all eqb met ts
  more-is met ts more n = numbers_only met ts more (insert_all eqb met ts) n (numbers number_equality met ts)

  pub numbers_begins : (met ts more : List ℕ) → Numbers met ts more → Begins met more
  numbers_begins met ts more n = subst (Begins met) (sym (more-is met ts more n)) (inserts_begins number_equality met ts)

  numbers_holds : (met ts more : List ℕ) → Numbers met ts more → (t : ℕ) → In t ts → In t more
  numbers_holds met ts more n t m = subst (In t) (sym (more-is met ts more n)) (inserts_holds number_equality met ts t m)

  -- the turns fix the vertices met and their numbers
  pub searched_only : (i : ℕ) (met met' : List ℕ) → Searched g i met → Searched g i met' → met ≡ met'
  searched_only i met met' begun begun = refl
  searched_only i met met' (gone {i = j} {met = a} s h n) (gone {met = b} t k o) =
      let e = searched_only j a b s t in
      numbers_only a (targets_in g (get_or a j 0)) met met' n (subst (λ (l : List ℕ). Numbers l (targets_in g (get_or l j 0)) met') (sym e) o)

  pub searched_reachable : (i : ℕ) (met : List ℕ) → Searched g i met → (v : ℕ) → In v met → Reachable (targets_in g) (initial_in g) v
  searched_reachable i met begun v m = ⊎_elim (λ e. subst (Reachable (targets_in g) (initial_in g)) (sym e) at_root) (λ z. absurd z) m
  searched_reachable i met (gone {i = j} {met = a} s h n) v m =
      ⊎_elim (λ i. searched_reachable j a s v i) (λ t. onward (searched_reachable j a s (get_or a j 0) (in_at a j 0 h)) t) (numbers_in a (targets_in g (get_or a j 0)) met n v m)

  pub searched_distinct : (i : ℕ) (met : List ℕ) → Searched g i met → Distinct met
  searched_distinct i met begun = (λ m. m, tt)
  searched_distinct i met (gone {i = j} {met = a} s h n) =
      subst Distinct (sym (more-is a (targets_in g (get_or a j 0)) met n)) (inserts_distinct number_equality a (targets_in g (get_or a j 0)) (searched_distinct j a s))

  pub searched_begins : (i : ℕ) (met : List ℕ) → Searched g i met → Begins (initial_in g ∷ []) met
  searched_begins i met begun = begins_refl (initial_in g ∷ [])
  searched_begins i met (gone {i = j} {met = a} s h n) =
      begins_trans (initial_in g ∷ []) a met (searched_begins j a s) (numbers_begins a (targets_in g (get_or a j 0)) met n)

  -- no more are gone through than are met
  pub searched_length : (i : ℕ) (met : List ℕ) → Searched g i met → i ≤ length met
  searched_length i met begun = omega arith
  searched_length i met (gone {i = j} {met = a} s h n) = omega (arith, h, begins_length a met (numbers_begins a (targets_in g (get_or a j 0)) met n))

  -- the targets of those gone through are met
  pub searched_closed : (i : ℕ) (met : List ℕ) → Searched g i met → (u : ℕ) → u < i → (t : ℕ) → In t (targets_in g (get_or met u 0)) → In t met
  searched_closed i met begun u l t m = absurd (omega arith)
  searched_closed i met (gone {i = j} {met = a} s h n) u l t m = go (λ k w o. searched_closed j a s u k w o) (ℕ_discrete u j)
    where
      b : Begins a met
      b = numbers_begins a (targets_in g (get_or a j 0)) met n

      long : j ≤ length a
      long = searched_length j a s

      at_u : get_or met u 0 ≡ get_or a u 0
      at_u = begins-at a met 0 b u (omega (arith, h))

      go : (u < j → (t : ℕ) → In t (targets_in g (get_or a u 0)) → In t a) → Dec (u ≡ j) → In t met
      go ih (yes e) =
          numbers_holds a (targets_in g (get_or a j 0)) met n t
          (subst (λ (v : ℕ). In t (targets_in g (get_or a v 0))) e (subst (λ (v : ℕ). In t (targets_in g v)) at_u m))
      go ih (no d) = begins_in a met b t (ih (omega arith) t (subst (λ (v : ℕ). In t (targets_in g v)) at_u m))

  -- ---- all that are met have been gone through

  module _ (met : List ℕ) (s : Searched g (length met) met) where
    pub met_first : (0 < length met) × (get_or met 0 0 ≡ initial_in g)
    met_first =
        let b = searched_begins (length met) met s in
        (begins_length (initial_in g ∷ []) met b, begins-at (initial_in g ∷ []) met 0 b 0 (omega arith))

    pub met_closed : (v : ℕ) → In v met → (t : ℕ) → In t (targets_in g v) → In t met
    met_closed v m t i =
        searched_closed (length met) met s (position eqb v met) (position_below number_equality v met m) t
        (subst (λ (u : ℕ). In t (targets_in g u)) (sym (position_at number_equality v met 0 m)) i)

    pub met_exactly : (v : ℕ) → In v met ↔ Reachable (targets_in g) (initial_in g) v
    met_exactly v = (
      searched_reachable (length met) met s v,
      reachable_inside (targets_in g) (initial_in g) (λ u. In u met) (begins_in (initial_in g ∷ []) met (searched_begins (length met) met s) (initial_in g) (inl refl)) met_closed v,
    )

    pub met_distinct : Distinct met
    met_distinct = searched_distinct (length met) met s

  -- so there is one list of the vertices met
  pub met_once : (met met' : List ℕ) → Searched g (length met) met → Searched g (length met') met' → met ≡ met'
  met_once met met' s t =
      let a = no_more met met' (met_distinct met s) (λ v m. (met_exactly met' t v).1 ((met_exactly met s v).0 m)) in
      let b = no_more met' met (met_distinct met' t) (λ v m. (met_exactly met s v).1 ((met_exactly met' t v).0 m)) in
      let e : length met' ≡ length met = omega arith in
      searched_only (length met) met met' s (subst (λ (i : ℕ). Searched g i met') e t)

-- ---- the search

module _ (g : List ℕ) where
  -- the one way to take a turn apart
  turn_cases : (P : List ℕ → Type 0) (turns i : ℕ) (met : List ℕ) → (length met ≤ i → P met)
      → (i < length met → P (search_from g turns (suc i) (insert_all eqb met (targets_in g (get_or met i 0))))) → P (search_from g (suc turns) i met)
  unfolding search_from
  turn_cases P turns i met stop on = go (ltb i (length met)) refl
    where
      go : (b : Bool) → ltb i (length met) ≡ b → P (cond b (search_from g turns (suc i) (insert_all eqb met (targets_in g (get_or met i 0)))) met)
      go true e = on (ltb-true i (length met) e)
      go false e = stop (ltb-false i (length met) e)

  search_none : (i : ℕ) (met : List ℕ) → search_from g 0 i met ≡ met
  unfolding search_from
  search_none i met = refl

  module _ (good : GoodGame g) where
    met_below : (i : ℕ) (met : List ℕ) → Searched g i met → (v : ℕ) → In v met → v < vertex_count g
    met_below i met s v m =
        reachable_inside (targets_in g) (initial_in g) (λ u. u < vertex_count g) good.initial (target_below g good) v (searched_reachable g i met s v m)

    -- no more are met than there are
    pub met_few : (i : ℕ) (met : List ℕ) → Searched g i met → length met ≤ vertex_count g
    met_few i met s =
        omega (
          arith,
          no_more met (from 0 (vertex_count g)) (searched_distinct g i met s) (λ v m. let b = met_below i met s v m in from_in v 0 (vertex_count g) (omega arith) (omega arith)),
          from-length 0 (vertex_count g),
        )

    all-gone : (i : ℕ) (met : List ℕ) → Searched g i met → length met ≤ i → Searched g (length met) met
    all-gone i met s h = let e : i ≡ length met = omega (arith, searched_length g i met s) in subst (λ (j : ℕ). Searched g j met) e s

    -- enough turns go through all that are met
    search_all : (turns i : ℕ) (met : List ℕ) → vertex_count g ≤ i + turns → Searched g i met
        → Searched g (length (search_from g turns i met)) (search_from g turns i met)
    search_all zero i met h s =
        subst (λ (l : List ℕ). Searched g (length l) l) (sym (search_none i met)) (all-gone i met s (omega (arith, met_few i met s)))
    search_all (suc turns) i met h s =
        let ts : List ℕ = targets_in g (get_or met i 0) in
        let ih = search_all turns (suc i) (insert_all eqb met ts) (omega arith) in
        turn_cases (λ l. Searched g (length l) l) turns i met (all-gone i met s) (λ l. ih (gone s l (numbers number_equality met ts)))

    pub reached_searched : Searched g (length (reached_vertices g)) (reached_vertices g)
    unfolding reached_vertices
    reached_searched = search_all (vertex_count g) 0 (initial_in g ∷ []) (omega arith) begun

    -- so all of them are found: every target of a vertex reached is reached
    pub reached_all : (v : ℕ) → In v (reached_vertices g) → (t : ℕ) → In t (targets_in g v) → In t (reached_vertices g)
    reached_all = met_closed g (reached_vertices g) reached_searched

    -- and more turns change nothing
    pub turns_enough : (turns : ℕ) → vertex_count g ≤ turns → search_from g turns 0 (initial_in g ∷ []) ≡ reached_vertices g
    turns_enough turns h =
        met_once g (search_from g turns 0 (initial_in g ∷ [])) (reached_vertices g)
        (search_all turns 0 (initial_in g ∷ []) (omega arith) begun) reached_searched

    pub reached_below : (v : ℕ) → In v (reached_vertices g) → v < vertex_count g
    reached_below = met_below (length (reached_vertices g)) (reached_vertices g) reached_searched

    pub reached_few : length (reached_vertices g) ≤ vertex_count g
    reached_few = met_few (length (reached_vertices g)) (reached_vertices g) reached_searched
