-- The tests of numbers and of pairs are equality. Assumes nothing.
use mathlib.Core.Path.{refl, ap₂}
use Prim.Native.Nat.{ℕ}
use lib.Dec.{eqb}
use borrow.Author.Tests.{eqb-true, eq-eqb}
use Rattle.rules.specs.Pairs.{same_pair}
use Rattle.lists.specs.Shapes.{Equality}
use Rattle.lists.proofs.Tests.{and-true}

pub number_equality : Equality eqb
number_equality = record { sound = eqb-true; self = λ a. eq-eqb a a refl }

pub pair_equality : Equality same_pair
unfolding same_pair
pair_equality =
    record {
      sound = λ p q e.
          ap₂ (λ (a b : ℕ). (a, b)) (eqb-true p.0 q.0 (and-true (eqb p.0 q.0) (eqb p.1 q.1) e).0)
          (eqb-true p.1 q.1 (and-true (eqb p.0 q.0) (eqb p.1 q.1) e).1);
      self = λ p. rw (eq-eqb p.0 p.0 refl, eq-eqb p.1 p.1 refl) refl;
    }
