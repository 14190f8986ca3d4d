-- That a text's lines are those of its vertices is one fact: it holds in no two ways. Assumes nothing.
use Prim.Native.Nat.{ℕ}
use mathlib.Core.List.{List, [], ◌∷◌}
use Rattle.std.proofs.Props.{props}
use Rattle.rules.specs.Lists.{Distinct}
use Rattle.pgsolver_reader.specs.Parts.{Whole}

distinct_prop : (ns : List ℕ) → IsProp (Distinct ns)
distinct_prop [] = Prim.hlevel props
distinct_prop (n ∷ ns) = Prim.hlevel (props, distinct_prop ns)

pub whole_prop : (text : List ℕ) (n : ℕ) → IsProp (Whole text n)
whole_prop text n = Prim.hlevel (props, distinct_prop)
