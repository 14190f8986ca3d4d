-- How many marks a step has, and that they and its edges have different words. Assumes nothing.
use mathlib.Core.Path.{◌≡◌, refl, sym, subst, ◌∙◌}
use mathlib.Core.Bool.{Bool, true, false, cond}
use mathlib.Core.List.{List, []}
use Prim.Native.Nat.{ℕ, ◌+◌, ◌-◌, ◌*◌, ◌≤◌, ◌<◌}
use native.Mathlib.Omega.{arith}
use lib.Dec.{leb, ltb}
use lib.ListN.{length}
use borrow.Author.Tests.{leb-true, leb-false, le-leb, lt-leb, ltb-true, ltb-false, lt-ltb, le-ltb}
use Rattle.rules.specs.declared.Room.{Room}
use Rattle.settling.specs.declared.Counters.{Counters}
use Rattle.settling.specs.declared.MarkedBy.{MarkedBy}
use Rattle.settling.specs.declared.MarkedBy.TheVariants.{State, Vertex}
use Rattle.std.specs.Prelude.{Result}
use Rattle.std.specs.declared.result.Result.TheVariants.{Ok, Err}
use Rattle.pairs.specs.declared.NoRoom.{NoRoom}
use Rattle.work_slice.specs.Regions.{Zeroed}
use Rattle.settling.specs.Made.{Ready, Made, Answer}
use Rattle.settling.proofs.Make.{made_more, many_more, made_cleared, marks_cleared}
use Rattle.modalities.specs.Matched.{mark_count, marked_by, Unmarked, Counted, Spacious}

-- ---- the number of marks, as the code finds it

module _ (v e edges states transitions : ℕ) where
  pub count_few : states ≤ v → v ≡ mark_count v e edges states transitions
  unfolding mark_count
  count_few h = rw (le-leb states v h) refl

  pub count_dear : v < states → transitions < states - v → v ≡ mark_count v e edges states transitions
  unfolding mark_count
  count_dear h l = rw (lt-leb states v h, lt-ltb transitions (states - v) l) refl

  pub count_states : v < states → states - v ≤ transitions → edges + states + (states - v) < e
      → states ≡ mark_count v e edges states transitions
  unfolding mark_count
  count_states h l k =
      rw (lt-leb states v h, le-ltb transitions (states - v) l, lt-ltb (edges + states + (states - v)) e k) refl

  pub count_close : v < states → states - v ≤ transitions → e ≤ edges + states + (states - v)
      → v ≡ mark_count v e edges states transitions
  unfolding mark_count
  count_close h l k =
      rw (lt-leb states v h, le-ltb transitions (states - v) l, le-ltb (edges + states + (states - v)) e k) refl

-- ---- and what it is good for

counted : (v e edges states transitions : ℕ) → Counted v e edges states (mark_count v e edges states transitions)
unfolding mark_count
counted v e edges states transitions =
    go (leb states v) (ltb transitions (states - v)) (ltb (edges + states + (states - v)) e) refl refl
  where
    region : Counted v e edges states v
    region = record { least = omega arith; apart = λ h. absurd (omega arith) }

    go : (a b d : Bool) → leb states v ≡ a → ltb (edges + states + (states - v)) e ≡ d
        → Counted v e edges states (cond a v (cond b v (cond d states v)))
    go true b d p q = region
    go false true d p q = region
    go false false false p q = region
    go false false true p q =
        let more = leb-false states v p in
        let wide = ltb-true (edges + states + (states - v)) e q in
        record { least = omega arith; apart = λ h. (refl, omega arith) }

-- what tells the marks says how many there are
by_states : MarkedBy → Type 0
by_states State = Unit
by_states Vertex = ⊥

told_state : (b : Bool) (m : MarkedBy) → m ≡ cond b State Vertex → m ≡ State → b ≡ true
unfolding by_states
told_state true m e h = refl
told_state false m e h = absurd (subst by_states (sym h ∙ e) tt)

module _ (w : List ℕ) (room : Room) (c : Counters) (states transitions marks : ℕ)
    (counts : marks ≡ mark_count room.vertices room.edges c.edges states transitions) where
  facts : Counted room.vertices room.edges c.edges states marks
  facts =
      subst (Counted room.vertices room.edges c.edges states) (sym counts)
      (counted room.vertices room.edges c.edges states transitions)

  close : room.vertices < marks → marks + c.edges ≤ room.vertices + room.edges
  close h = omega (arith, (facts.apart h).1)

  -- the marks are words of the work slice
  pub marks_inside : Ready w room.vertices room.edges c → 7 * room.vertices + marks ≤ length w
  marks_inside r = go (ltb room.vertices marks) refl
    where
      go : (b : Bool) → ltb room.vertices marks ≡ b → 7 * room.vertices + marks ≤ length w
      go true z = omega (arith, close (ltb-true room.vertices marks z), r.whole)
      go false z = omega (arith, ltb-false room.vertices marks z, r.whole)

  -- once those past the region are 0
  module _ (w₁ : List ℕ) (u : Unmarked w room c) (k : Zeroed w w₁ (8 * room.vertices) (7 * room.vertices + marks)) where
    cleared : Made w room.vertices room.edges c w₁ c [] []
    cleared = made_cleared w w₁ room.vertices room.edges c marks u.0 k facts.least close

    pub cleared_ready : Ready w₁ room.vertices room.edges c
    cleared_ready = cleared.ready

    pub cleared_spacious : (item : ℕ) (by : MarkedBy)
        → by ≡ marked_by states marks
        → Spacious w₁ states room marks (record { item = item; start = c.edges; marked_by = by }) c
    cleared_spacious item by is =
        record {
          marks = marks_cleared w w₁ room.vertices marks c.edges k u.1;
          counted = facts;
          one-each = λ z. leb-true states marks (told_state (leb states marks) by is z);
        }

    -- what is answered from there on is answered from the beginning
    pub cleared_answer : (ts cs w₂ : List ℕ) (r : Result Counters NoRoom)
        → Answer w₁ room.vertices room.edges c ts cs w₂ r → Answer w room.vertices room.edges c ts cs w₂ r
    cleared_answer ts cs w₂ (Ok c') a =
        made_more room.vertices room.edges w w₁ w₂ c c c' [] ts [] cs cleared a
    cleared_answer ts cs w₂ (Err x) a =
        many_more room.vertices room.edges w w₁ w₂ c c c [] ts [] cs cleared a
