-- What it is to run records that a reader holds one after the other. Assumes nothing: these are definitions.
use Rattle.std.specs.Prelude.{◌≡◌, ℕ, ◌<◌, List, length, Option, Result, Ok, IfSome}
use Rattle.std.specs.Borrow.{MutBor}
use Rattle.std.specs.Io.KnownBytes.{Consumes}
use Rattle.std.specs.Fn.{Mut, CalledWithState}
use Rattle.std.specs.List.{FoldsTo}

-- `run`, which reads on where the head of a record ends
abbrev pub Runner : (F R H E : Type 0) → Type 1
Runner F R H E = Mut F (MutBor R × (H × Unit {0})) (Result (Unit {0}) E × (MutBor R × Unit {0}))

module _ {F R H E : Type 0} (remaining : R → Option (List ℕ)) (from_gives : List ℕ → H → Type 0) (g : Runner F R H E) (n : ℕ) where
  -- a record was run: its head of n bytes was read, and `run` called on it, which gave no error
  pub record RecordRan (before : F × R) (bytes : List ℕ) (after : F × R) : Type 0 where
    pub whole : length bytes ≡ n
    pub behind : R
    pub read : Consumes (remaining before.1) (remaining behind) bytes
    pub head : H
    pub made : from_gives bytes head
    pub ran : CalledWithState g before.0 behind head (Ok tt) after.0 after.1

  -- so many were, one after the other
  pub record RecordsRan (many : ℕ) (before after : F × R) : Type 0 where
    pub heads : List (List ℕ)
    pub each : length heads ≡ many
    pub in_turn : FoldsTo RecordRan before heads after

  -- each was, up to `most` of them: where fewer were run, the bytes behind the last are too few for a head
  pub record EachRan (most many : ℕ) (before : F × R) : Type 0 where
    pub last : F × R
    pub runs : RecordsRan many before last
    pub all : many < most → IfSome (remaining last.1) (λ bytes. length bytes < n)
