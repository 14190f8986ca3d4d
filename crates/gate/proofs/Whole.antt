-- What the buffer holds of an input that is read until the buffer is full or the input ends, and what is written then.
-- Assumes nothing.
use Rattle.std.proofs.Common.{◌≡◌, ℕ, ◌≤◌, ◌<◌, List, [], ◌++◌, None, Some, IfSome, Result, OnOk, inl, inr, arith, subst, ap, ◌∙◌, append-nil, length, take, length-take-le, take_all}
use Rattle.std.proofs.Math.Nat.{eq-or-lt_of_le}
use Rattle.std.proofs.lemmas.Option.{IfSome_then}
use Rattle.std.proofs.lemmas.Result.{on_ok_weaker}
use Rattle.std.specs.Io.KnownBytes.{Appends, Consumes, IsAtEnd}
use Rattle.std.specs.declared.option.Option.{Option}
use lib.Seq.{take-append-le}

module _ (buffer : List ℕ) (count most : ℕ) (size : length buffer ≡ most) (fits : count ≤ most) where
  abbrev front : List ℕ
  front = take count buffer

  long : length front ≡ count
  long = length-take-le count buffer (omega arith)

  all : take most front ≡ front
  all = take_all most front (omega (arith, long))

  front_whole : (bytes rest : List ℕ) → bytes ≡ front ++ rest → (count < most → rest ≡ []) → take most bytes ≡ front
  front_whole bytes rest split end =
      elim (eq-or-lt_of_le fits) [
        | inl full ↦ ap (take most) split ∙ take-append-le most front rest (omega (arith, long)) ∙ all
        | inr less ↦ ap (take most) (split ∙ ap (λ l. front ++ l) (end less) ∙ append-nil front) ∙ all
      ]

  -- of the bytes that a reader had, as many as the buffer can hold are those that it does hold
  pub read_whole : (old new : Option (List ℕ)) → Consumes old new front → (count < length buffer → IsAtEnd new)
      → IfSome old (λ bytes. take most bytes ≡ front)
  read_whole None new split end = tt
  read_whole (Some bytes) None split end = absurd split
  read_whole (Some bytes) (Some rest) split end = front_whole bytes rest split (λ less. end (omega arith))

-- a text that was written is that of the bytes which a reader had
pub written_whole : {T E : Type 0} (r : Result T E) (input old new : Option (List ℕ)) (text : List ℕ) (text_of : List ℕ → List ℕ)
    → IfSome input (λ bytes. text ≡ text_of bytes) → OnOk r (Appends old new text)
    → OnOk r (IfSome input (λ bytes. Appends old new (text_of bytes)))
written_whole r input old new text text_of same written =
    on_ok_weaker r (λ appended. IfSome_then input same (λ bytes e. subst (Appends old new) e appended)) written
