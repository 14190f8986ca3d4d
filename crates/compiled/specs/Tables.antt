-- The tables that a run compiles before it walks, as lists of words. Assumes nothing: these are definitions.
use Rattle.std.specs.Prelude.{◌≡◌, ℕ, List, map, replicate}
use Rattle.node_kinds.specs.Codes.{formula_code}
use Rattle.compiled.specs.declared.Compiled.{Compiled}

-- the items, column by column: the words that stand for their kinds, their operands, their priorities
abbrev pub kinds_in : Compiled → List ℕ
kinds_in c = map (λ i. formula_code i.kind) c.items

abbrev pub lefts_in : Compiled → List ℕ
lefts_in c = map (λ i. i.left) c.items

abbrev pub rights_in : Compiled → List ℕ
rights_in c = map (λ i. i.right) c.items

abbrev pub priorities_in : Compiled → List ℕ
priorities_in c = c.priorities

-- the multiset of each label, the first transition of every sixteenth state
abbrev pub classes_in : Compiled → List ℕ
classes_in c = c.classes

abbrev pub samples_in : Compiled → List ℕ
samples_in c = c.samples

-- every word is 0
abbrev pub Blank : Compiled → Type 0
Blank c =
    (kinds_in c ≡ replicate 2_048 0) × (lefts_in c ≡ replicate 2_048 0) × (rights_in c ≡ replicate 2_048 0)
    × (priorities_in c ≡ replicate 2_048 0) × (classes_in c ≡ replicate 4_096 0)
    × (samples_in c ≡ replicate 4_096 0)
