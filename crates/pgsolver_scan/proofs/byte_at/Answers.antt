-- `byte_at` meets its contract. Assumes nothing.
use Prim.Native.Nat.{ℕ, ◌+◌, ◌<◌, ◌≤◌}
use native.Mathlib.Omega.{arith}
use mathlib.Core.Path.{◌≡◌, sym, ap, ◌∙◌}
use mathlib.Core.Bool.{Bool, cond}
use mathlib.Core.List.{List}
use mathlib.Core.Option.{none, some}
use lib.ListN.{length}
use lib.Dec.{eqb}
use Rattle.std.proofs.Common.{Bor, Some, None}
use Rattle.std.specs.declared.option.Option.{Option as Answer}
use Rattle.std.specs.Option.{option_eq, MatchOption, option_map, unwrap_or}
use Rattle.rules.specs.Lists.{word}
use Rattle.rules.specs.TextReading.{read_byte}
use Rattle.pgsolver_scan.specs.Told.{since}
use Rattle.pgsolver_scan.proofs.Scanning.{byte_here, byte_end}
use Rattle.pgsolver_scan.proofs.byte_at.Goals as goal

got : (text : List ℕ) (p : ℕ) (b : Bor ℕ) (Q : Bor ℕ → Type 0) (g : Answer (Bor ℕ)) (r : Bool)
    → r ≡ option_eq (λ x y. eqb x.now y.now) g (Some b)
    → MatchOption g (length text ≤ p) (λ x. (p < length text) × Q x)
    → unwrap_or (option_map (λ x. x.now) g) 0 ≡ word text p
    → read_byte b.now (since text p) ≡ cond r (some (since text (p + 1))) none
got text p b Q (Some x) r e m u =
    byte_here text p b.now r m.0 (ap (λ (n : ℕ). eqb n b.now) (sym u) ∙ sym e)
got text p b Q None r e m u = rw e (byte_end text p b.now m)

pub returns-clause-place_value : goal.returns-clause-place_value
returns-clause-place_value c =
    let (a, same, inside, m, u) = c.get.ensures.lookup in
    got c.args.text.now c.args.place _ _ c.get.result c.eq.result c.eq.ensures m (u (omega arith) 0)
