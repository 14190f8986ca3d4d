-- One turn of each of the search's loops: what is left of the search from there on is the whole search. Assumes
-- nothing.
use mathlib.Core.Path.{◌≡◌, refl, sym, ap, ◌∙◌}
use mathlib.Core.List.{List, [], ◌∷◌}
use Prim.Native.Nat.{ℕ, zero, suc, ◌+◌, ◌-◌, ◌≤◌, ◌<◌}
use native.Mathlib.Numerals.{add-one}
use native.Mathlib.Omega.{arith}
use borrow.Author.Tests.{lt-ltb, le-ltb}
use lib.Dec.{eqb}
use lib.ListN.{length, get_or, take, drop, drop_of_length-le}
use lib.Seq.{drop-cons, get_or-take}
use Rattle.rules.specs.Lists.{word, insert, insert_all}
use Rattle.rules.specs.Game.{vertex_count, initial_in, edge_words_in, targets_in}
use Rattle.rules.specs.Restrict.{search_from, reached_vertices}
use Rattle.lists.proofs.Inserts.{inserts_none, inserts_cons, insert_new}
use Rattle.lists.proofs.Equalities.{number_equality}
use Rattle.reachability.specs.Knowing.{Knows}
use Rattle.reachability.proofs.Meeting.{length_known}

-- ---- the targets that are left

pub meet_step : (met met' whole ts : List ℕ) (p t : ℕ) → p < length ts → t ≡ word ts p → met' ≡ insert eqb met t
    → whole ≡ insert_all eqb met (drop p ts) → whole ≡ insert_all eqb met' (drop (p + 1) ts)
meet_step met met' whole ts p t h q r s =
    let cons : drop p ts ≡ word ts p ∷ drop (p + 1) ts = rw (add-one p) (drop-cons ts p 0 h) in
    s ∙ ap (insert_all eqb met) cons
    ∙ inserts_cons eqb met (word ts p) (drop (p + 1) ts)
    ∙ ap (λ (l : List ℕ). insert_all eqb l (drop (p + 1) ts)) (sym (r ∙ ap (insert eqb met) q))

pub meet_end : (met whole ts : List ℕ) (p : ℕ) → length ts ≤ p → whole ≡ insert_all eqb met (drop p ts) → met ≡ whole
meet_end met whole ts p h s = sym (s ∙ ap (insert_all eqb met) (drop_of_length-le ts h) ∙ inserts_none eqb met)

-- ---- the vertices that are left

search_more : (g : List ℕ) (n i : ℕ) (met : List ℕ) → i < length met → i < n
    → search_from g (n - i) i met ≡ search_from g (n - (i + 1)) (i + 1) (insert_all eqb met (targets_in g (get_or met i 0)))
unfolding search_from
search_more g n i met h k =
    let e : n - i ≡ suc (n - (i + 1)) = omega arith in
    rw (e, add-one i, lt-ltb i (length met) h)

search-end : (g : List ℕ) (turns i : ℕ) (met : List ℕ) → length met ≤ i → search_from g turns i met ≡ met
unfolding search_from
search-end g zero i met h = refl
search-end g (suc turns) i met h = rw (le-ltb i (length met) h)

pub search-start : (g met : List ℕ) (t : ℕ) → t ≡ initial_in g → met ≡ insert eqb [] t → reached_vertices g ≡ search_from g (vertex_count g - 0) 0 met
unfolding reached_vertices
search-start g met t e f =
    let z : vertex_count g - 0 ≡ vertex_count g = omega arith in
    let one : met ≡ initial_in g ∷ [] = f ∙ insert_new number_equality [] t (λ m. m) ∙ ap (λ (x : ℕ). x ∷ []) e in
    rw (z, one)

pub search_step : (g ts : List ℕ) (count i : ℕ) (mapping work met' whole : List ℕ) → Knows count mapping work
    → length mapping ≡ vertex_count g → i < count → ts ≡ edge_words_in g 0 (word work i)
    → met' ≡ insert_all eqb (take count work) ts
    → whole ≡ search_from g (vertex_count g - i) i (take count work)
    → whole ≡ search_from g (vertex_count g - (i + 1)) (i + 1) met'
search_step g ts count i mapping work met' whole k n h e s w =
    w ∙ search_more g (vertex_count g) i (take count work) (omega (arith, length_known k)) (omega (arith, k.within))
    ∙ ap (λ (l : List ℕ). search_from g (vertex_count g - (i + 1)) (i + 1) l)
    (sym (s ∙ ap (insert_all eqb (take count work)) same))
  where
    same : ts ≡ targets_in g (get_or (take count work) i 0)
    same = e ∙ ap (targets_in g) (sym (get_or-take count work i 0 h))

pub search_done : (g : List ℕ) (count i : ℕ) (mapping work whole : List ℕ) → Knows count mapping work → count ≤ i
    → whole ≡ search_from g (vertex_count g - i) i (take count work) → take count work ≡ whole
search_done g count i mapping work whole k h w =
    sym (w ∙ search-end g (vertex_count g - i) i (take count work) (omega (arith, length_known k)))
