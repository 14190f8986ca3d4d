-- Records that were run, one by one. Assumes nothing.
use mathlib.Core.Path.{◌≡◌, refl, ◌∙◌}
use mathlib.Core.List.{List, [], ◌∷◌, ◌++◌}
use Prim.Native.Nat.{ℕ, ◌+◌}
use native.Mathlib.Omega.{arith}
use lib.ListN.{length-append}
use Rattle.std.specs.declared.option.Option.{Option}
use Rattle.std.proofs.lemmas.Fn.{FoldsTo-push}
use Rattle.stored_runs.specs.Records.{Runner, RecordRan, RecordsRan}

module _ {F R H E : Type 0} (remaining : R → Option (List ℕ)) (from_gives : List ℕ → H → Type 0) (g : Runner F R H E) (n : ℕ) where
  pub none_ran : (p : F × R) → RecordsRan remaining from_gives g n 0 p p
  none_ran p = record { heads = []; each = refl; in_turn = refl }

  pub one_more : {many : ℕ} {p q t : F × R} (bytes : List ℕ) → RecordsRan remaining from_gives g n many p q
      → RecordRan remaining from_gives g n q bytes t → RecordsRan remaining from_gives g n (many + 1) p t
  one_more {many} {p} {q} {t} bytes runs run =
      record {
        heads = runs.heads ++ (bytes ∷ []);
        each = omega (arith, length-append runs.heads (bytes ∷ []), runs.each);
        in_turn = FoldsTo-push (RecordRan remaining from_gives g n) p runs.heads q bytes t runs.in_turn run;
      }

  pub as_many : {many m : ℕ} {p q : F × R} → many ≡ m → RecordsRan remaining from_gives g n many p q
      → RecordsRan remaining from_gives g n m p q
  as_many e runs = record { heads = runs.heads; each = runs.each ∙ e; in_turn = runs.in_turn }
