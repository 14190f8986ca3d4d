-- The map, as the definitions have it. Assumes nothing.
use mathlib.Core.Path.{◌≡◌, sym, ap, ◌∙◌, subst}
use mathlib.Core.List.{List}
use Prim.Native.Nat.{ℕ, ◌<◌}
use lib.ListN.{length, take}
use lib.Seq.{ext_get_or}
use Rattle.rules.specs.Game.{vertex_count}
use Rattle.rules.specs.Restrict.{new_number, vertex_map, reached_vertices}
use Rattle.restrictions.proofs.Kept.{map-length, map-word}
use Rattle.reachability.specs.Knowing.{Knows}

-- the map
pub map_is : (g mapping work : List ℕ) (count : ℕ) → Knows count mapping work → length mapping ≡ vertex_count g → take count work ≡ reached_vertices g
    → mapping ≡ vertex_map g (reached_vertices g)
map_is g mapping work count k n e =
    ext_get_or 0 mapping (vertex_map g (reached_vertices g)) (n ∙ sym (map-length g (reached_vertices g)))
    (λ v h.
    k.right v h ∙ ap (λ (l : List ℕ). new_number l v) e ∙ sym (map-word g (reached_vertices g) v (subst (λ (m : ℕ). v < m) n h)))
