-- Keys say pairs: of pairs inside the system and the items no two have the same key, the targets of a pair's key are
-- the keys of its targets, and behind an edge between keys are the transitions behind that of their pairs. Assumes
-- nothing.
use mathlib.Core.Path.{◌≡◌, refl, ap₂}
use mathlib.Core.List.{List, [], ◌∷◌, map}
use mathlib.Core.Logic.{inl, inr}
use Prim.Native.Nat.{ℕ, ◌<◌}
use native.Mathlib.Omega.{arith}
use Rattle.rules.specs.Lists.{In}
use Rattle.rules.specs.Words.{Input}
use Rattle.rules.specs.Pairs.{Pair, initial_pair, targets, transitions_behind}
use Rattle.rules.specs.Reach.{Reachable, at_root, onward}
use Rattle.tables.specs.Good.{GoodInput}
use Rattle.lists.proofs.Equalities.{number_equality, pair_equality}
use Rattle.walks.proofs.Rename.{map_reachable}
use Rattle.arena.specs.Arena.{Inside}
use Rattle.arena.proofs.ItemNumbers.{items_few}
use Rattle.arena.proofs.Inside.{targets_inside, initial_inside}
use Rattle.pairs.specs.Slot.{key_of}
use Rattle.pairs.proofs.Uses.{key_state, key_item, key_same}
use Rattle.settling.specs.Keys.{pair_key, key_pair, key_targets, key_behind, root_key}

pub key-targets : (x : Input) (p : Pair) → p.1 < 2048 → key_targets x (pair_key p) ≡ map pair_key (targets x p)
unfolding key_targets
key-targets x p h = ap₂ (λ (s q : ℕ). map pair_key (targets x (s, q))) (key_state p.0 p.1 h) (key_item p.0 p.1 h)

key_says : (p : Pair) → p.1 < 2048 → key_pair (pair_key p) ≡ p
key_says p h = ap₂ (λ (s q : ℕ). (s, q)) (key_state p.0 p.1 h) (key_item p.0 p.1 h)

key-behind : (x : Input) (p : Pair) → p.1 < 2048 → (qs : List Pair) → ((q : Pair) → In q qs → q.1 < 2048)
    → map (key_behind x (pair_key p)) (map pair_key qs) ≡ map (transitions_behind x p) qs
unfolding key_behind
key-behind x p h [] fit = refl
key-behind x p h (q ∷ qs) fit =
    ap₂ (λ (n : ℕ) (l : List ℕ). n ∷ l) (ap₂ (transitions_behind x) (key_says p h) (key_says q (fit q (inl refl))))
    (key-behind x p h qs (λ r m. fit r (inr m)))

module _ (x : Input) (good : GoodInput x) where
  pub reached_inside : (p : Pair) → Reachable (targets x) (initial_pair x) p → Inside x p
  reached_inside p at_root = initial_inside x good
  reached_inside p (onward {p = o} r m) = targets_inside x good o p (reached_inside o r) m

  pub item_fits : (p : Pair) → Inside x p → p.1 < 2048
  item_fits p i = omega (arith, i.1, items_few x good)

  -- what a walk over keys asks, to be the walk over pairs under other names
  pub alike : (p q : Pair) → Reachable (targets x) (initial_pair x) p → Reachable (targets x) (initial_pair x) q → pair_key p ≡ pair_key q → p ≡ q
  alike p q r s e =
      let z = key_same p.0 p.1 q.0 q.1 (item_fits p (reached_inside p r)) (item_fits q (reached_inside q s)) e in
      ap₂ (λ (a b : ℕ). (a, b)) z.0 z.1

  pub moved : (p : Pair) → Reachable (targets x) (initial_pair x) p → key_targets x (pair_key p) ≡ map pair_key (targets x p)
  moved p r = key-targets x p (item_fits p (reached_inside p r))

  -- and what a walk over keys counts, where it asks
  pub inside_behind : (p : Pair) → Inside x p
      → map (key_behind x (pair_key p)) (map pair_key (targets x p)) ≡ map (transitions_behind x p) (targets x p)
  inside_behind p i =
      key-behind x p (item_fits p i) (targets x p) (λ q m. item_fits q (targets_inside x good p q i m))

  pub behind_moved : (p : Pair) → Reachable (targets x) (initial_pair x) p
      → map (key_behind x (pair_key p)) (map pair_key (targets x p)) ≡ map (transitions_behind x p) (targets x p)
  behind_moved p r = inside_behind p (reached_inside p r)

  -- a key that is reached is of a pair inside
  pub key_inside : (s q : ℕ) → q < 2048 → Reachable (key_targets x) (root_key x) (key_of s q) → Inside x (s, q)
  key_inside s q h r =
      let m = map_reachable pair_equality number_equality pair_key (targets x) (key_targets x) (initial_pair x) alike moved (key_of s q) r in
      let i = reached_inside m.0 m.1 in
      let z = key_same s q m.0.0 m.0.1 h (item_fits m.0 i) m.2 in
      (omega (arith, z.0, i.0), omega (arith, z.1, i.1))
