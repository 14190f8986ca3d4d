-- What a `Search` has met. Assumes nothing: these are definitions.
use Rattle.std.specs.Prelude.{ℕ, ◌≡◌, List, length, take}
use Rattle.reachability.specs.Knowing.{Knows}
use Rattle.reachability.specs.declared.Search.{Search}

-- its slices say the vertices met
abbrev pub Ready : Search → Type 0
Ready s = Knows s.count s.mapping.now s.work.now

-- the vertices met
abbrev pub met_in : Search → List ℕ
met_in s = take s.count s.work.now

-- the search went on, in the same slices, and has met these vertices
pub record Met (met : List ℕ) (s s' : Search) : Type 0 where
  pub same_mapping : s'.mapping.ghost_name ≡ s.mapping.ghost_name
  pub same_work : s'.work.ghost_name ≡ s.work.ghost_name
  pub long : length s'.mapping.now ≡ length s.mapping.now
  pub ready : Ready s'
  pub known : met_in s' ≡ met
