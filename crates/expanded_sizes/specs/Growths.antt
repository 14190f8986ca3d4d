-- What the program counts, of regular formulas and of the formula. Assumes nothing: these are definitions.
use Rattle.std.specs.Prelude.{◌≡◌, List, ℕ, ◌≤◌, ◌<◌, get_or}
use Rattle.rules.specs.Table.{size}
use Rattle.regular_rules.specs.Regular.{Regular, regular_tree}
use Rattle.regular_rules.specs.Sizes.{offset, factor, capped, size_at}
use Rattle.expanded_sizes.specs.declared.growth.Growth.{Growth}

-- g has the offset and the factor of a modality of r, counted to 1,025
abbrev pub GrowsBy : Regular → Growth → Type 0
GrowsBy r g = (g.offset ≡ capped (offset r)) × (g.factor ≡ capped (factor r))

-- the list has this of each regular formula of the table from node i on, at its node
abbrev pub GrowFrom : List ℕ → (i : ℕ) → List Growth → Type 0
GrowFrom regs i gs = (v : ℕ) (d : Growth) → i ≤ v → v < size regs → GrowsBy (regular_tree regs v) (get_or gs v d)

-- the list has of each node of the formula from node i on how many nodes it is expanded to, counted to 1,025
abbrev pub CountedFrom : List ℕ → List ℕ → (i : ℕ) → List ℕ → Type 0
CountedFrom regs f i ns = (v : ℕ) → i ≤ v → v < size f → get_or ns v 0 ≡ capped (size_at regs f v)
