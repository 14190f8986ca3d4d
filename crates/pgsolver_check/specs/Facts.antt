-- That a text was surveyed is one fact: it holds in no two ways. Assumes nothing.
use Prim.Native.Nat.{ℕ}
use mathlib.Core.List.{List, [], ◌∷◌}
use Rattle.std.proofs.Props.{props}
use Rattle.pgsolver_check.specs.declared.Found.{Found}
use Rattle.pgsolver_check.specs.Windows.{Apart}
use Rattle.pgsolver_check.specs.Survey.{Seen}

apart_prop : (base : ℕ) (ns : List ℕ) → IsProp (Apart base ns)
apart_prop base [] = Prim.hlevel props
apart_prop base (n ∷ ns) = Prim.hlevel (props, apart_prop base ns)

pub seen_prop : (text : List ℕ) (found : Found) → IsProp (Seen text found)
seen_prop text found = Prim.hlevel (props, apart_prop)
