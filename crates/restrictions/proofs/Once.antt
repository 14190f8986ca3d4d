-- `Restricts` leaves nothing open: two slices of one length that satisfy it for the same game are equal, and so are the
-- maps, the answers and the vertices met. So no wrong program can satisfy it, whatever one thinks of the definition of
-- a restriction. Assumes nothing.
use mathlib.Core.Path.{◌≡◌, sym, ap, ap₂, ◌∙◌, subst}
use mathlib.Core.List.{List, map}
use mathlib.Core.Logic.{◌⊎◌, inl, inr}
use Prim.Native.Nat.{ℕ, ◌<◌}
use native.Mathlib.Omega.{arith}
use lib.ListN.{length, get_or}
use lib.Seq.{ext_get_or}
use Rattle.rules.specs.declared.Answer.{Answer}
use Rattle.rules.specs.declared.Answer.TheVariants.{Done}
use Rattle.rules.specs.Lists.{word, In}
use Rattle.rules.specs.Game.{vertex_columns, vertex_count, edges_in, vertex_word, edge_words_in, targets_in, counts_in}
use Rattle.rules.specs.Restricts.{Restricts}
use Rattle.lists.proofs.Members.{in_or, distinct_positions}
use Rattle.lists.proofs.Equalities.{number_equality}
use Rattle.games.proofs.Columns.{each_vertex_column, each_edge_column}
use Rattle.games.proofs.Rewriting.{Whole, words_alike}
use Rattle.restrictions.proofs.Searching.{met_once}

pub restricts_whole : {g : List ℕ} {a : Answer} {h ns met : List ℕ} → Restricts g a h ns met → Whole h
restricts_whole r = record { begins = r.begins; follows = r.follows; ends = r.ends; past = r.past }

-- in every column vertex u shows the word of its old vertex
restricts_column : {g : List ℕ} {a : Answer} {h ns met : List ℕ} → Restricts g a h ns met
    → (c : ℕ) → c < length vertex_columns → (u : ℕ) → u < length met → vertex_word h c u ≡ vertex_word g c (get_or met u 0)
restricts_column {g = g} {h = h} {met = met} r =
    each_vertex_column (λ c. (u : ℕ) → u < length met → vertex_word h c u ≡ vertex_word g c (get_or met u 0)) r.owners
    r.priorities r.states r.items

module _ (g : List ℕ) (a : Answer) (h ns met : List ℕ) (b : Answer) (k ms met' : List ℕ)
    (r : Restricts g a h ns met) (s : Restricts g b k ms met') where
  pub vertices_once : met ≡ met'
  vertices_once = met_once g met met' r.searched s.searched

  number_once : (v : ℕ) → v < vertex_count g → word ns v ≡ word ms v
  number_once v l = go (in_or number_equality v met)
    where
      moved : (word ms v < length met') × (get_or met' (word ms v) 0 ≡ v) → (word ms v < length met) × (get_or met (word ms v) 0 ≡ v)
      moved = subst (λ (l : List ℕ). (word ms v < length l) × (get_or l (word ms v) 0 ≡ v)) (sym vertices_once)

      go : In v met ⊎ (¬ In v met) → word ns v ≡ word ms v
      go (inl m) =
          let q = (r.exactly v).0 m in
          let (i, e) = r.sends v q in
          let (j, f) = moved (s.sends v q) in
          distinct_positions met 0 r.once (word ns v) (word ms v) i j (e ∙ sym f)
      go (inr n) = r.leaves v l (λ q. n ((r.exactly v).1 q)) ∙ sym (s.leaves v l (λ q. n ((r.exactly v).1 q)))

  pub map_once : ns ≡ ms
  map_once = ext_get_or 0 ns ms (r.mapped ∙ sym s.mapped) (λ v l. number_once v (omega (arith, r.mapped)))

  counts : vertex_count h ≡ vertex_count k
  counts = r.first.0 ∙ ap length vertices_once ∙ sym s.first.0

  old_vertex : (u : ℕ) → get_or met u 0 ≡ get_or met' u 0
  old_vertex u = ap (λ (l : List ℕ). get_or l u 0) vertices_once

  pub game_once : length h ≡ length k → h ≡ k
  game_once long =
      words_alike h k long (restricts_whole r) (restricts_whole s)
      (record {
        count = counts;
        initial = r.first.1 ∙ sym s.first.1;
        vertex = λ c i u l.
            restricts_column r c i u (omega (arith, r.first.0)) ∙ ap (λ (v : ℕ). vertex_word g c v) (old_vertex u)
            ∙ sym (restricts_column s c i u (omega (arith, counts, s.first.0)));
        edges =
            each_edge_column (λ c. (u : ℕ) → u < vertex_count h → edge_words_in h c u ≡ edge_words_in k c u) targets behind;
      })
    where
      targets : (u : ℕ) → u < vertex_count h → targets_in h u ≡ targets_in k u
      targets u l =
          r.edges u (omega (arith, r.first.0)) ∙ ap (λ (v : ℕ). map (λ t. word ns t) (targets_in g v)) (old_vertex u)
          ∙ ap (λ (m : List ℕ). map (λ t. word m t) (targets_in g (get_or met' u 0))) map_once
          ∙ sym (s.edges u (omega (arith, counts, s.first.0)))

      -- the counts of the edges
      behind : (u : ℕ) → u < vertex_count h → counts_in h u ≡ counts_in k u
      behind u l =
          r.counts u (omega (arith, r.first.0)) ∙ ap (λ (v : ℕ). counts_in g v) (old_vertex u)
          ∙ sym (s.counts u (omega (arith, counts, s.first.0)))

  -- all four
  pub restricts_once : length h ≡ length k → (a ≡ b) × (h ≡ k) × (ns ≡ ms) × (met ≡ met')
  restricts_once long = (
    r.answer ∙ ap₂ (λ (n m : ℕ). Done n n m) (ap length vertices_once) (ap edges_in (game_once long)) ∙ sym s.answer,
    game_once long,
    map_once,
    vertices_once,
  )
