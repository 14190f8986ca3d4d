-- A formula that is in order for some number of nodes of action formulas. Assumes nothing.
use mathlib.Core.List.{List, [], ◌∷◌}
use Prim.Native.Nat.{ℕ, zero, suc, ◌+◌, ◌≤◌}
use native.Mathlib.Omega.{arith}
use Rattle.rules.specs.Lists.{word, largest}
use Rattle.rules.specs.Table.{size}
use Rattle.tables.specs.Good.{GoodFormula}
use Rattle.modal_equation_system.specs.System.{named, Good}

word_most : (ws : List ℕ) (i : ℕ) → word ws i ≤ largest ws
unfolding largest
word_most [] i = omega arith
word_most (x ∷ xs) zero = omega arith
word_most (x ∷ xs) (suc i) = omega (arith, word_most xs i)

pub good_formula : (m : ℕ) (f : List ℕ) → GoodFormula m f → Good f
unfolding named
good_formula m f good =
    record {
      formula = record {
        sized = good.sized;
        some = good.some;
        few = good.few;
        nodes = λ v h.
            let node = good.nodes v h in
            record {
              known = node.known;
              next = node.next;
              right = node.right;
              action = λ p q. omega (arith, word_most f (1 + size f + v));
              refers = node.refers;
            };
      };
    }
