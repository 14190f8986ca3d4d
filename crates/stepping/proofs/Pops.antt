-- The parts of the function `step` put together, over the keys of an input's pairs. Assumes nothing.
use mathlib.Core.Path.{◌≡◌, sym, ◌∙◌, ap, ap₂, subst}
use mathlib.Core.List.{List, map}
use Prim.Native.Nat.{ℕ, ◌+◌, ◌≤◌, ◌<◌}
use native.Mathlib.Omega.{arith}
use Rattle.rules.specs.Words.{Input}
use Rattle.rules.specs.Pairs.{targets, transitions_behind}
use Rattle.tables.specs.Good.{GoodInput}
use Rattle.rules.specs.Reach.{Reachable}
use Rattle.arena.specs.Arena.{Inside}
use Rattle.pairs.specs.Slot.{key_of}
use Rattle.pairs.specs.Table.{state_at, item_at}
use Rattle.settling.specs.declared.Counters.{Counters}
use mathlib.Core.Bool.{false≢true}
use Rattle.std.specs.Prelude.{Result}
use Rattle.std.specs.Result.{IsErr}
use Rattle.std.specs.declared.result.Result.TheVariants.{Ok, Err}
use Rattle.pairs.specs.declared.NoRoom.{NoRoom}
use Rattle.settling.specs.Keys.{pair_key, key_targets, key_behind, root_key}
use Rattle.settling.specs.Made.{Marks, Ready, Made, TooMany, CloseAnswer}
use Rattle.settling.specs.Good.{Good, StepAnswer}
use Rattle.stepping.proofs.Keys.{key-targets, key_inside, inside_behind}
use Rattle.stepping.specs.declared.Popped.{Popped}
use Rattle.stepping.specs.Parts.{without_top, PopAnswer}
use Rattle.stepping.proofs.Steps.{here, top_item, top_key, top_reached, top_below, popped_ready, popped_marks}
use Rattle.stepping.proofs.Steps.{step_many, step_loop_many, step_made, close_left, close_start}

-- meeting targets settles none: the counter of settled vertices may be taken from before
pub settled_kept : (w : List ℕ) (v e : ℕ) (c : Counters) (w' : List ℕ) (c' : Counters) (ts cs : List ℕ) → Made w v e c w' c' ts cs
    → Made w v e c w' (record { known = c'.known; settled = c.settled; edges = c'.edges; waiting = c'.waiting }) ts cs
settled_kept w v e c w' c' ts cs m =
    subst (λ (s : ℕ). Made w v e c w' (record { known = c'.known; settled = s; edges = c'.edges; waiting = c'.waiting }) ts cs)
    m.same_settled m

-- p is the vertex on top of the stack, taken off
module _ (x : Input) (good : GoodInput x) (v e : ℕ) (w : List ℕ) (c : Counters)
    (g : Good (key_targets x) (key_behind x) (root_key x) w v e c) (some : c.waiting ≡ 0 → ⊥)
    (w₁ : List ℕ) (p : Popped) (a : PopAnswer w v c w₁ p) where
  abbrev u : ℕ
  u = p.vertex.0

  abbrev s : ℕ
  s = p.pair.state

  abbrev q : ℕ
  q = p.pair.item

  -- the keys of its targets, and the counts of the edges to them
  abbrev keys : List ℕ
  keys = map pair_key (targets x (s, q))

  abbrev counts : List ℕ
  counts = map (transitions_behind x (s, q)) (targets x (s, q))

  item_below : item_at w v u < 2048
  item_below = top_item (key_targets x) (key_behind x) (root_key x) v e w c g some u a.vertex

  abbrev key : ℕ
  key = here (key_targets x) (key_behind x) (root_key x) v e w c g some u a.vertex

  key_is : key ≡ key_of (state_at w v u) (item_at w v u)
  key_is = top_key (key_targets x) (key_behind x) (root_key x) v e w c g some u a.vertex

  pub pop_inside : Inside x (s, q)
  pop_inside =
      let i = key_inside x good (state_at w v u) (item_at w v u) item_below
      (subst (Reachable (key_targets x) (root_key x)) key_is
      (top_reached (key_targets x) (key_behind x) (root_key x) v e w c g some u a.vertex)) in
      (omega (arith, i.0, a.state), omega (arith, i.1, a.item))

  pub pop_unmarked : Ready w₁ v e p.counters × Marks w₁ v p.counters.edges
  pop_unmarked =
      rw a.counters (
        popped_ready (key_targets x) (key_behind x) (root_key x) v e w c g some u a.vertex w₁ a.start,
        popped_marks (key_targets x) (key_behind x) (root_key x) v e w c g some u a.vertex w₁ a.start,
      )

  pop_targets : keys ≡ key_targets x key
  pop_targets =
      ap₂ (λ (m n : ℕ). map pair_key (targets x (m, n))) a.state a.item
      ∙ sym (key-targets x (state_at w v u, item_at w v u) item_below)
      ∙ ap (key_targets x) (sym key_is)

  pop_counts : counts ≡ map (key_behind x key) keys
  pop_counts =
      sym (inside_behind x good (s, q) pop_inside)
      ∙ ap (λ (k : ℕ). map (key_behind x k) keys) (ap₂ key_of a.state a.item ∙ sym key_is)

  pub pop_full : (w₂ : List ℕ) (r : Result Counters NoRoom) → IsErr r → TooMany w₁ v e p.counters keys
      → StepAnswer (key_targets x) (key_behind x) (root_key x) w v e c w₂ r
  pop_full w₂ (Ok c₂) h f = absurd (false≢true h)
  pop_full w₂ (Err a₂) h f =
      step_many (key_targets x) (key_behind x) (root_key x) v e w c g some u a.vertex w₁ a.start keys pop_targets
      (subst (λ (d : Counters). TooMany w₁ v e d keys) a.counters f)

  module _ (w₂ : List ℕ) (c₂ : Counters) (m : Made w₁ v e p.counters w₂ c₂ keys counts) where
    made : Made w₁ v e (without_top c) w₂ c₂ keys counts
    made = subst (λ (d : Counters). Made w₁ v e d w₂ c₂ keys counts) a.counters m

    pub pop_close : Ready w₂ v e c₂ × (u < v) × (c.edges ≤ c₂.edges) × (c₂.settled + c₂.waiting < c₂.known)
    pop_close = (
      m.ready,
      top_below (key_targets x) (key_behind x) (root_key x) v e w c g some u a.vertex,
      close_start (key_targets x) (key_behind x) (root_key x) v e w c g some u a.vertex w₁ a.start
          keys pop_targets counts pop_counts w₂ c₂ made,
      close_left (key_targets x) (key_behind x) (root_key x) v e w c g some u a.vertex w₁ a.start
          keys pop_targets counts pop_counts w₂ c₂ made,
    )

    pub pop_answer : (w₃ : List ℕ) (r : Result Counters NoRoom) → CloseAnswer w₂ v e u c.edges c₂ w₃ r
        → StepAnswer (key_targets x) (key_behind x) (root_key x) w v e c w₃ r
    pop_answer w₃ (Ok c₃) k =
        step_made (key_targets x) (key_behind x) (root_key x) v e w c g some u a.vertex w₁ a.start
        keys pop_targets counts pop_counts w₂ c₂ made w₃ c₃ k
    pop_answer w₃ (Err a₂) k =
        step_loop_many (key_targets x) (key_behind x) (root_key x) v e w c g some u a.vertex w₁ a.start
        keys pop_targets counts pop_counts w₂ c₂ made k
