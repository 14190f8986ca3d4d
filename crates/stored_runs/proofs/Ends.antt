-- What is left of an input that ends too early. Assumes nothing.
use mathlib.Core.Path.{ap}
use mathlib.Core.List.{List}
use Prim.Native.Nat.{ℕ, ◌<◌}
use native.Mathlib.Omega.{arith}
use lib.ListN.{length, take, length-append}
use Rattle.std.specs.declared.option.Option.{Option}
use Rattle.std.specs.declared.option.Option.TheVariants.{None, Some}
use Rattle.std.specs.Option.{IfSome}
use Rattle.std.specs.Io.KnownBytes.{Consumes, IsAtEnd}
use Rattle.std.proofs.lemmas.List.{length-take}

pub rest_short : (old new : Option (List ℕ)) (n size : ℕ) (bytes : List ℕ) → Consumes old new (take n bytes) → IsAtEnd new
    → n < size → IfSome old (λ xs. length xs < size)
rest_short None new n size bytes c e h = tt
rest_short (Some xs) None n size bytes c e h = absurd c
rest_short (Some xs) (Some ys) n size bytes c e h =
    omega (arith, h, ap length c, length-append (take n bytes) ys, ap length e, length-take n bytes)
