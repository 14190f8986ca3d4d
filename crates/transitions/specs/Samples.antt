-- The first transition of one state in sixteen, which a run writes down once. Assumes nothing: these are statements.
use Rattle.std.specs.Prelude.{◌≡◌, List, ℕ, ◌*◌, ◌≤◌, ◌<◌, length}
use Rattle.rules.specs.Lists.{word}
use Rattle.rules.specs.System.{state_count, first_transition}
use Rattle.tables.specs.Good.{GoodSystem}

-- a good system, for any number of labels: nothing here reads them
abbrev pub System : List ℕ → Type 0
System ss = (l : ℕ) × GoodSystem l ss

-- of how many states one is written down
abbrev pub stride : ℕ
stride = 16

-- so many are enough for every system
abbrev pub sample_count : ℕ
sample_count = 4_096

-- entry i is the first transition of state i * stride
pub record Samples (ss samples : List ℕ) : Type 0 where
  pub room : state_count ss ≤ length samples * stride
  pub entry : (i : ℕ) → i * stride < state_count ss → word samples i ≡ first_transition ss (i * stride)
