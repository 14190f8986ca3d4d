-- The pairs that a game shows of its vertices, as a list; the vertex that stands for a pair; edges that lead to such
-- vertices. Assumes nothing.
use mathlib.Core.Path.{◌≡◌, refl, sym, ap, ◌∙◌, subst}
use Prim.Native.Nat.{ℕ, ◌<◌}
use native.Mathlib.Omega.{arith}
use lib.ListN.{length, get_or, length-map}
use mathlib.Core.List.{List, [], ◌∷◌}
use mathlib.Core.Logic.{inl, inr}
use Rattle.rules.specs.Lists.{In, from, position}
use Rattle.rules.specs.Pairs.{Pair, same_pair}
use Rattle.rules.specs.Game.{vertex_count, pair_in, pairs_in}
use Rattle.rules.specs.Demands.{Stands, Apart, Lead}
use Rattle.lists.proofs.Members.{in_at, position_below, position_at}
use Rattle.lists.proofs.Equalities.{pair_equality}
use Rattle.lists.proofs.Ranges.{from-length, told_at}

module _ (g : List ℕ) where
  pub pairs_many : length (pairs_in g) ≡ vertex_count g
  unfolding pairs_in
  pairs_many = length-map (from 0 (vertex_count g)) (pair_in g) ∙ from-length 0 (vertex_count g)

  pub pair_of : (v : ℕ) (d : Pair) → v < vertex_count g → get_or (pairs_in g) v d ≡ pair_in g v
  unfolding pairs_in
  pair_of v d l = told_at (pair_in g) (vertex_count g) v d l

  -- a vertex stands for each of the pairs, and these are those for which a vertex stands
  pub stands_in : (v : ℕ) (q : Pair) → Stands g v q → In q (pairs_in g)
  stands_in v q (l, e) =
      subst (λ (p : Pair). In p (pairs_in g)) (pair_of v q l ∙ e) (in_at (pairs_in g) v q (omega (arith, pairs_many)))

  pub in_stands : (q : Pair) → In q (pairs_in g) → Stands g (position same_pair q (pairs_in g)) q
  in_stands q m =
      let b = position_below pair_equality q (pairs_in g) m in
      let l : position same_pair q (pairs_in g) < vertex_count g = omega (arith, pairs_many) in
      (l, sym (pair_of (position same_pair q (pairs_in g)) q l) ∙ position_at pair_equality q (pairs_in g) q m)

  -- edges that lead to the vertices of these pairs: one for each pair, and a pair for each edge
  pub lead_in : (u : ℕ) (us : List ℕ) (qs : List Pair) → Lead g us qs → In u us → (q : Pair) × In q qs × Stands g u q
  lead_in u [] qs l m = absurd m
  lead_in u (w ∷ us) [] l m = absurd l
  lead_in u (w ∷ us) (q ∷ qs) l (inl e) = (q, inl refl, subst (λ (v : ℕ). Stands g v q) (sym e) l.0)
  lead_in u (w ∷ us) (q ∷ qs) l (inr m) = let (r, i, s) = lead_in u us qs l.1 m in (r, inr i, s)

  pub in_lead : (q : Pair) (us : List ℕ) (qs : List Pair) → Lead g us qs → In q qs → (u : ℕ) × In u us × Stands g u q
  in_lead q us [] l m = absurd m
  in_lead q [] (r ∷ qs) l m = absurd l
  in_lead q (u ∷ us) (r ∷ qs) l (inl e) = (u, inl refl, subst (λ (z : Pair). Stands g u z) (sym e) l.0)
  in_lead q (u ∷ us) (r ∷ qs) l (inr m) = let (w, i, s) = in_lead q us qs l.1 m in (w, inr i, s)

  pub lead_none : (qs : List Pair) → Lead g [] qs → qs ≡ []
  lead_none [] l = refl
  lead_none (q ∷ qs) l = absurd l

  -- where no two vertices show the same pair there is one vertex for each
  module _ (apart : Apart g) where
    pub stands_once : (u w : ℕ) (q : Pair) → Stands g u q → Stands g w q → u ≡ w
    stands_once u w q s t =
        let e : pair_in g u ≡ pair_in g w = s.1 ∙ sym t.1 in
        apart u w s.0 t.0 (ap (λ (p : Pair). p.0) e) (ap (λ (p : Pair). p.1) e)

    pub stands_position : (w : ℕ) (q : Pair) → Stands g w q → position same_pair q (pairs_in g) ≡ w
    stands_position w q s = stands_once (position same_pair q (pairs_in g)) w q (in_stands q (stands_in w q s)) s
