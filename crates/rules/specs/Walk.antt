-- The walk (document 01, "One step": "A step takes the waiting vertex that was numbered last, settles it, and numbers
-- new targets in order"), for any targets. Assumes nothing: these are definitions.
use Rattle.std.specs.Prelude.{ℕ, zero, suc, ◌+◌, ◌-◌, Bool, List, [], ◌∷◌, get_or, length}
use Rattle.rules.specs.Lists.{insert_all}

-- Where a walk stands: the known pairs, vertex v being element v, and of the vertices those that wait, the one numbered
-- last first. The others are settled
pub record Stand (A : Type 0) : Type 0 where
  pub known : List A
  pub waiting : List ℕ

-- the vertices n, n + 1, .. (`count` of them), the last first, before those that waited already
unfoldable pub push_new : (n count : ℕ) → List ℕ → List ℕ
push_new n zero waiting = waiting
push_new n (suc count) waiting = (n + count) ∷ push_new n count waiting

module _ {A : Type 0} (same : A → A → Bool) (next : A → List A) (root : A) where
  -- vertex v is settled, `rest` being the others that wait: its new targets get the next numbers, in order
  unfoldable pub settle : List A → ℕ → List ℕ → Stand A
  settle known v rest =
      let more = insert_all same known (next (get_or known v root)) in
      record { known = more; waiting = push_new (length known) (length more - length known) rest }

  -- one step, if a vertex waits
  unfoldable pub step_from : List A → List ℕ → Stand A
  step_from known [] = record { known = known; waiting = [] }
  step_from known (v ∷ rest) = settle known v rest

  unfoldable pub step : Stand A → Stand A
  step st = step_from st.known st.waiting

  -- at most k steps: the walk ends where none waits (theorem `walk_step`: k + 1 steps are k steps and one more)
  unfoldable pub steps_from : ℕ → List A → List ℕ → Stand A
  steps_from zero known waiting = record { known = known; waiting = waiting }
  steps_from (suc k) known [] = record { known = known; waiting = [] }
  steps_from (suc k) known (v ∷ rest) = let st = settle known v rest in steps_from k st.known st.waiting

  -- the walk of k steps; vertex 0 is the root
  unfoldable pub walk : ℕ → Stand A
  walk k = steps_from k (root ∷ []) (0 ∷ [])
