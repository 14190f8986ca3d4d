-- One operand after another. Assumes nothing.
use mathlib.Core.Path.{◌≡◌, refl, sym, ◌∙◌, ap, subst}
use mathlib.Core.List.{List, [], ◌∷◌, ◌++◌, map}
use Prim.Native.Nat.{ℕ, ◌+◌, ◌<◌}
use lib.ListN.{length, take, drop, replicate}
use Rattle.std.proofs.Math.Seq.{take-length}
use Rattle.std.proofs.lemmas.List.{take_more, map-append, replicate-append-replicate, take-append-drop}
use Rattle.rules.specs.Lists.{word, zeros}
use Rattle.pairs.specs.Slot.{key_of}
use Rattle.settling.specs.declared.Counters.{Counters}
use Rattle.settling.specs.Made.{Ready, Made, TooMany}
use Rattle.settling.proofs.Make.{made_none, made_more, many_more, many_early}

-- the first i operands have their edges, behind which no transition stands
pub record Settling (w₀ : List ℕ) (v e : ℕ) (c₀ : Counters) (s : ℕ) (items w : List ℕ) (c : Counters) (i : ℕ) : Type 0 where
  pub same : length w ≡ length w₀
  pub made : Made w₀ v e c₀ w c (map (key_of s) (take i items)) (replicate i 0)

pub settling_start : (w : List ℕ) (v e : ℕ) (c : Counters) (s : ℕ) (items : List ℕ) → Ready w v e c
    → Settling w v e c s items w c 0
settling_start w v e c s items r = record { same = refl; made = made_none w v e c r }

module _ (w₀ : List ℕ) (v e : ℕ) (c₀ : Counters) (s : ℕ) (items : List ℕ) (w w' : List ℕ) (c : Counters) (i : ℕ)
    (k : Settling w₀ v e c₀ s items w c i) (h : i < length items) where
  abbrev key : ℕ
  key = key_of s (word items i)

  more : map (key_of s) (take i items) ++ (key ∷ []) ≡ map (key_of s) (take (i + 1) items)
  more =
      sym
      (ap (map (key_of s)) (take_more items i 0 h) ∙ map-append (key_of s) (take i items) (word items i ∷ []))

  pub settling_on : (c' : Counters) → length w' ≡ length w → Made w v e c w' c' (key ∷ []) (0 ∷ [])
      → Settling w₀ v e c₀ s items w' c' (i + 1)
  settling_on c' g m =
      record {
        same = g ∙ k.same;
        made =
            subst (Made w₀ v e c₀ w' c' (map (key_of s) (take (i + 1) items))) (replicate-append-replicate i 1 0)
            (subst (λ (ts : List ℕ). Made w₀ v e c₀ w' c' ts (replicate i 0 ++ (0 ∷ []))) more
            (made_more v e w₀ w w' c₀ c c' (map (key_of s) (take i items)) _ (replicate i 0) _ k.made m));
      }

  -- too many with this operand are too many in all
  pub settling_many : TooMany w v e c (key ∷ []) → TooMany w₀ v e c₀ (map (key_of s) items)
  settling_many f =
      subst (TooMany w₀ v e c₀)
      (sym (map-append (key_of s) (take (i + 1) items) (drop (i + 1) items))
      ∙ ap (map (key_of s)) (take-append-drop (i + 1) items))
      (many_early w₀ v e c₀ (map (key_of s) (take (i + 1) items)) (map (key_of s) (drop (i + 1) items))
      (subst (TooMany w₀ v e c₀) more
      (many_more v e w₀ w w c₀ c c (map (key_of s) (take i items)) _ (replicate i 0) [] k.made f)))

pub settling_end : (w₀ : List ℕ) (v e : ℕ) (c₀ : Counters) (s : ℕ) (items w : List ℕ) (c : Counters) (i : ℕ)
    → Settling w₀ v e c₀ s items w c i → i ≡ length items → Made w₀ v e c₀ w c (map (key_of s) items) (zeros items)
unfolding zeros
settling_end w₀ v e c₀ s items w c i k z =
    subst (λ (l : List ℕ). Made w₀ v e c₀ w c (map (key_of s) l) (replicate (length items) 0)) (take-length items)
    (subst (λ (n : ℕ). Made w₀ v e c₀ w c (map (key_of s) (take n items)) (replicate n 0)) z k.made)
