-- Listing the priorities equation by equation. Assumes nothing.
use mathlib.Core.Path.{◌≡◌, ap, ◌∙◌}
use mathlib.Core.List.{List, ◌++◌}
use Prim.Native.Nat.{ℕ, ◌+◌, ◌-◌, ◌≤◌}
use native.Mathlib.Omega.{arith}
use lib.ListN.{length, take, drop, length-append, length-drop, get_or-append}
use lib.Seq.{get_or-drop, length-take-le}
use Rattle.std.proofs.lemmas.List.{get_or-append_right}
use Rattle.rules.specs.Lists.{word}
use Rattle.rules.specs.Depth.{Ranking}
use Rattle.modal_equation_system.specs.System.{RankedBy}

module _ (rank : Ranking) (f : List ℕ) where
  -- the first n words are lent, and come back as zs
  pub ranked_lent : (n : ℕ) (ws zs : List ℕ) → n ≤ length ws → RankedBy rank f n (take n ws) zs → RankedBy rank f n ws (zs ++ drop n ws)
  ranked_lent n ws zs room r =
      let long : length zs ≡ n = r.sized ∙ length-take-le n ws room in
      record {
        sized = simp (length-append, length-drop) (omega arith);
        ranked = λ i h. get_or-append zs (drop n ws) 0 i (omega arith) ∙ r.ranked i h;
        rest = λ i h.
            let g : n + (i - n) ≡ i = omega arith in
            get_or-append_right zs (drop n ws) n i 0 long h
            ∙ get_or-drop n ws (i - n) 0 ∙ ap (λ (j : ℕ). word ws j) g;
      }
