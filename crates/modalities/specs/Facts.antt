-- That the tables are right is one fact: it holds in no two ways. Assumes nothing.
use Prim.Native.Nat.{ℕ}
use mathlib.Core.List.{List}
use Rattle.match_table.specs.declared.MatchRows.{MatchRows}
use Rattle.std.proofs.Props.{props}
use Rattle.compiled.specs.declared.Compiled.{Compiled}
use Rattle.modalities.specs.Tables.{Tables}

pub tables_prop : (ls ss acts : List ℕ) (compiled : Compiled) (matched : MatchRows)
    → IsProp (Tables ls ss acts compiled matched)
tables_prop ls ss acts compiled matched = Prim.hlevel props
