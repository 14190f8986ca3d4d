-- The cut theorem leaves nothing open: two slices of one length that satisfy it for the same input, ranking and limit
-- are equal, and so are the answers. So no wrong program can satisfy it, whatever one thinks of the definition of a
-- run. Assumes nothing.
use mathlib.Core.Path.{◌≡◌, refl, sym, ap, ◌∙◌, subst}
use mathlib.Core.Bool.{cond}
use mathlib.Core.List.{List, [], ◌∷◌, ◌++◌, map}
use Prim.Native.Nat.{ℕ, suc, ◌+◌, ◌<◌}
use native.Mathlib.Omega.{arith}
use native.Mathlib.Decide.{dec_lt}
use lib.ListN.{length, get_or}
use lib.Dec.{ltb}
use lib.Seq.{slice, slice_empty}
use Rattle.player.specs.declared.Player.{Player}
use Rattle.rules.specs.declared.Answer.{Answer}
use Rattle.rules.specs.declared.Answer.TheVariants.{Done, Cut}
use Rattle.rules.specs.Lists.{In, zeros}
use Rattle.rules.specs.Words.{Input}
use Rattle.rules.specs.Answers.{Accepted}
use Rattle.rules.specs.Depth.{Ranking}
use Rattle.rules.specs.Pairs.{Pair, initial_pair, owner, priority, targets, transitions_behind}
use Rattle.rules.specs.Reach.{N}
use Rattle.rules.specs.Game.{vertex_count, edges_in, vertex_word, offset_in, edges_from, edge_words_in, owner_in, priority_in}
use Rattle.rules.specs.Game.{pair_in, pairs_in, targets_in, counts_in}
use Rattle.rules.specs.Demands.{Stands, Apart, Lead, Totalised, SettledRow, settled_below, CutTheorem, Demand3}
use Rattle.walks.proofs.Only.{after_only}
use Rattle.theorems.proofs.Pairs.{pairs_many, pair_of, stands_once}
use Rattle.games.proofs.Columns.{each_vertex_column, each_edge_column}
use Rattle.games.proofs.Rewriting.{words_alike}

-- two games that show the same pairs of their vertices
module _ (g h : List ℕ) (same : (v : ℕ) → v < vertex_count g → pair_in g v ≡ pair_in h v)
    (counts : vertex_count g ≡ vertex_count h) (apart : Apart g) where
  stands_there : (w : ℕ) (q : Pair) → Stands h w q → Stands g w q
  stands_there w q (l, e) = let k : w < vertex_count g = omega (arith, counts) in (k, same w k ∙ e)

  lead_once : (us ws : List ℕ) (qs : List Pair) → Lead g us qs → Lead h ws qs → us ≡ ws
  lead_once [] [] qs l m = refl
  lead_once [] (w ∷ ws) [] l m = absurd m
  lead_once [] (w ∷ ws) (q ∷ qs) l m = absurd l
  lead_once (u ∷ us) [] [] l m = absurd l
  lead_once (u ∷ us) [] (q ∷ qs) l m = absurd m
  lead_once (u ∷ us) (w ∷ ws) [] l m = absurd l
  lead_once (u ∷ us) (w ∷ ws) (q ∷ qs) l m =
      ap (λ (n : ℕ). n ∷ us) (stands_once g apart u w q l.0 (stands_there w q m.0))
      ∙ ap (λ (ns : List ℕ). w ∷ ns) (lead_once us ws qs l.1 m.1)

total_once : (v : ℕ) (o : Player) (p : ℕ) (es : List ℕ) (r s : ℕ) (as' bs : List ℕ) → Totalised v o p es r as' → Totalised v o p es s bs → (r ≡ s) × (as' ≡ bs)
total_once v o p [] r s as' bs t u = (t.0 ∙ sym u.0, t.1 ∙ sym u.1)
total_once v o p (e ∷ es) r s as' bs t u = (t.0 ∙ sym u.0, t.1 ∙ sym u.1)

module _ (rank : Ranking) (x : Input) (g h : List ℕ) (same : (v : ℕ) → v < vertex_count g → pair_in g v ≡ pair_in h v)
    (counts : vertex_count g ≡ vertex_count h) (apart : Apart g) (v : ℕ) (p : Pair) (a : SettledRow rank x g v p)
    (b : SettledRow rank x h v p) where
  ruled_once : a.ruled ≡ b.ruled
  ruled_once = lead_once g h same counts apart a.ruled b.ruled (targets x p) a.leads b.leads

  shown_once : (priority_in g v ≡ priority_in h v) × (a.added ≡ b.added)
  shown_once =
      total_once v (owner x p) (priority rank x p) b.ruled (priority_in g v) (priority_in h v) a.added b.added
      (subst (λ (es : List ℕ). Totalised v (owner x p) (priority rank x p) es (priority_in g v) a.added) ruled_once a.total)
      b.total

  row_once : (owner_in g v ≡ owner_in h v) × (priority_in g v ≡ priority_in h v) × (targets_in g v ≡ targets_in h v)
      × (counts_in g v ≡ counts_in h v)
  row_once = (
    a.owned ∙ sym b.owned,
    shown_once.0,
    a.edges ∙ ap (λ (es : List ℕ). es ++ a.added) ruled_once ∙ ap (λ (es : List ℕ). b.ruled ++ es) shown_once.1 ∙ sym b.edges,
    a.counts
        ∙ ap (λ (es : List ℕ). map (transitions_behind x p) (targets x p) ++ zeros es) shown_once.1
        ∙ sym b.counts,
  )

-- a vertex without edges shows no counts
no-counts : (g : List ℕ) (v : ℕ) → offset_in g (suc v) ≡ offset_in g v + length (targets_in g v) → targets_in g v ≡ []
    → counts_in g v ≡ []
no-counts g v follows none =
    let e : edges_from g 1 (suc v) ≡ edges_from g 1 v = omega (arith, follows, ap length none) in
    ap (λ (k : ℕ). slice (edges_from g 1 v) k g) e ∙ slice_empty (edges_from g 1 v) g

module _ (rank : Ranking) (x : Input) (k : ℕ) (a b : Answer) (g h : List ℕ) (long : length g ≡ length h)
    (c : CutTheorem rank x k a g) (d : CutTheorem rank x k b h) where
  pairs_once : pairs_in g ≡ pairs_in h
  pairs_once =
      (after_only (targets x) (initial_pair x) k (pairs_in g) c.order (pairs_in h) d.order c.walked d.walked).0

  order_once : c.order ≡ d.order
  order_once =
      (after_only (targets x) (initial_pair x) k (pairs_in g) c.order (pairs_in h) d.order c.walked d.walked).1

  counts : vertex_count g ≡ vertex_count h
  counts = sym (pairs_many g) ∙ ap length pairs_once ∙ pairs_many h

  same_pair_in : (v : ℕ) → v < vertex_count g → pair_in g v ≡ pair_in h v
  same_pair_in v l =
      sym (pair_of g v (initial_pair x) l) ∙ ap (λ (ps : List Pair). get_or ps v (initial_pair x)) pairs_once
      ∙ pair_of h v (initial_pair x) (omega (arith, counts))

  both_settled : (v : ℕ) → v < vertex_count g → owner_in g v < 2 → owner_in h v < 2
  both_settled v l s = (d.taken v (omega (arith, counts))).1 (subst (In v) order_once ((c.taken v l).0 s))

  both_wait : (v : ℕ) → v < vertex_count g → (¬ (owner_in g v < 2)) → ¬ (owner_in h v < 2)
  both_wait v l n s = n ((c.taken v l).1 (subst (In v) (sym order_once) ((d.taken v (omega (arith, counts))).0 s)))

  rows : (v : ℕ) → v < vertex_count g
      → (owner_in g v ≡ owner_in h v) × (priority_in g v ≡ priority_in h v) × (targets_in g v ≡ targets_in h v)
      × (counts_in g v ≡ counts_in h v)
  rows v l = go (dec_lt (owner_in g v) 2)
    where
      go : Dec (owner_in g v < 2)
          → (owner_in g v ≡ owner_in h v) × (priority_in g v ≡ priority_in h v) × (targets_in g v ≡ targets_in h v)
          × (counts_in g v ≡ counts_in h v)
      go (yes s) =
          row_once rank x g h same_pair_in counts c.distinct v (pair_in g v) (c.settled v l s)
          (subst (λ (p : Pair). SettledRow rank x h v p) (sym (same_pair_in v l))
          (d.settled v (omega (arith, counts)) (both_settled v l s)))
      go (no n) =
          let (o, p, e) = c.waiting v l n in
          let (o', p', e') = d.waiting v (omega (arith, counts)) (both_wait v l n) in (
            o ∙ sym o',
            p ∙ sym p',
            e ∙ sym e',
            no-counts g v (c.follows v l) e ∙ sym (no-counts h v (d.follows v (omega (arith, counts))) e'),
          )

  -- the games are equal
  pub game_once : g ≡ h
  game_once =
      words_alike g h long
      (record { begins = c.begins; follows = c.follows; ends = c.ends; past = c.past })
      (record { begins = d.begins; follows = d.follows; ends = d.ends; past = d.past })
      (record {
        count = counts;
        initial = c.first.0 ∙ sym d.first.0;
        vertex =
            each_vertex_column (λ c. (v : ℕ) → v < vertex_count g → vertex_word g c v ≡ vertex_word h c v)
            (λ v l. (rows v l).0) (λ v l. (rows v l).1) (λ v l. ap (λ (p : Pair). p.0) (same_pair_in v l))
            (λ v l. ap (λ (p : Pair). p.1) (same_pair_in v l));
        edges =
            each_edge_column (λ c. (v : ℕ) → v < vertex_count g → edge_words_in g c v ≡ edge_words_in h c v)
            (λ v l. (rows v l).2) (λ v l. (rows v l).3);
      })

  -- the answer that the cut theorem gives with a game
  abbrev answer_of : List ℕ → Answer
  answer_of w =
      cond (ltb k (N x)) (Cut (settled_below w (vertex_count w)) (vertex_count w) (edges_in w))
      (Done (settled_below w (vertex_count w)) (vertex_count w) (edges_in w))

  -- the answers are equal
  pub answer_once : a ≡ b
  answer_once = c.answered ∙ ap answer_of game_once ∙ sym d.answered

-- demand 3 leaves nothing open
pub demand3_once : (rank : Ranking) (x : Input) (k : ℕ) (a b : Answer) (g h : List ℕ) → length g ≡ length h
    → Accepted a → Accepted b → Demand3 rank x k a g → Demand3 rank x k b h → (a ≡ b) × (g ≡ h)
demand3_once rank x k a b g h long p q s t =
    (answer_once rank x k a b g h long (s p) (t q), game_once rank x k a b g h long (s p) (t q))
