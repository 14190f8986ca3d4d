-- The text of a list of successors, with one number more. Assumes nothing.
use mathlib.Core.Path.{◌≡◌, refl, sym, ap, ◌∙◌}
use mathlib.Core.Bool.{Bool, true, false, cond}
use mathlib.Core.List.{List, [], ◌∷◌, ◌++◌, append_assoc, append-nil}
use Prim.Native.Nat.{ℕ, ◌+◌, ◌≤◌}
use native.Mathlib.Omega.{arith}
use lib.ListN.{length, length-append}
use lib.Dec.{eqb}
use Rattle.rules.specs.Lists.{insert}
use Rattle.rules.specs.Texts.{decimal}
use Rattle.rules.specs.Pgsolver.{comma_text, list_text}
use Rattle.lists.proofs.Members.{in_has, not_in}
use Rattle.lists.proofs.Inserts.{insert_cases}
use Rattle.lists.proofs.Equalities.{number_equality}
use Rattle.bitmap.specs.Marks.{marked, Holds}
use Rattle.text_writer.specs.Appending.{unless}
use Rattle.pgsolver_writer.specs.Successors.{spaced_list, separator}

-- ---- a list at the end

commas_append : (xs ys : List ℕ) → comma_text (xs ++ ys) ≡ comma_text xs ++ comma_text ys
unfolding comma_text
commas_append [] ys = refl
commas_append (x ∷ xs) ys =
    let e = ap (λ (l : List ℕ). decimal x ++ l) (commas_append xs ys) in
    ap (λ (l : List ℕ). 44 ∷ l) (e ∙ sym (append_assoc (decimal x) (comma_text xs) (comma_text ys)))

commas_one : (t : ℕ) → comma_text (t ∷ []) ≡ 44 ∷ decimal t
unfolding comma_text
commas_one t = ap (λ (l : List ℕ). 44 ∷ l) (append-nil (decimal t))

spaced-append : (x : ℕ) (xs ys : List ℕ) → spaced_list ((x ∷ xs) ++ ys) ≡ spaced_list (x ∷ xs) ++ comma_text ys
unfolding spaced_list
spaced-append x xs ys =
    let e = ap (λ (l : List ℕ). decimal x ++ l) (commas_append xs ys) in
    ap (λ (l : List ℕ). 32 ∷ l) (e ∙ sym (append_assoc (decimal x) (comma_text xs) (comma_text ys)))

-- a longer list has a longer text
pub spaced_longer : (xs ys : List ℕ) → length (spaced_list xs) ≤ length (spaced_list (xs ++ ys))
unfolding spaced_list
spaced_longer [] ys = omega arith
spaced_longer (x ∷ xs) ys =
    omega (arith, ap length (spaced-append x xs ys), length-append (spaced_list (x ∷ xs)) (comma_text ys))

-- ---- a number at the end

spaced_snoc : (xs : List ℕ) (t : ℕ) → spaced_list (xs ++ (t ∷ [])) ≡ spaced_list xs ++ (separator xs ∷ decimal t)
unfolding spaced_list separator comma_text
spaced_snoc [] t = ap (λ (l : List ℕ). 32 ∷ l) (append-nil (decimal t))
spaced_snoc (x ∷ xs) t =
    let more = ap (λ (l : List ℕ). spaced_list (x ∷ xs) ++ l) (commas_one t) in
    spaced-append x xs (t ∷ []) ∙ more

separator_snoc : (xs : List ℕ) (t : ℕ) → separator (xs ++ (t ∷ [])) ≡ 44
unfolding separator
separator_snoc [] t = refl
separator_snoc (x ∷ xs) t = refl

-- a number is met
module _ (bits xs : List ℕ) (t : ℕ) (h : Holds bits xs) where
  pub spaced_met : spaced_list (insert eqb xs t) ≡ spaced_list xs ++ unless (marked bits t) (separator xs ∷ decimal t)
  unfolding unless
  spaced_met =
      insert_cases number_equality
      (λ ys. spaced_list ys ≡ spaced_list xs ++ unless (marked bits t) (separator xs ∷ decimal t)) xs t
      (λ i. rw (h.marks t ∙ in_has number_equality t xs i) (sym (append-nil (spaced_list xs))))
      (λ n. rw (h.marks t ∙ not_in number_equality t xs n) (spaced_snoc xs t))

  pub separator_met : separator (insert eqb xs t) ≡ cond (marked bits t) (separator xs) 44
  separator_met =
      insert_cases number_equality (λ ys. separator ys ≡ cond (marked bits t) (separator xs) 44) xs t
      (λ i. rw (h.marks t ∙ in_has number_equality t xs i) refl)
      (λ n. rw (h.marks t ∙ not_in number_equality t xs n) (separator_snoc xs t))

-- whatever the separator is
unless-length : (b : Bool) (x y : ℕ) (s : List ℕ) → length (unless b (x ∷ s)) ≡ length (unless b (y ∷ s))
unfolding unless
unless-length true x y s = refl
unless-length false x y s = refl

pub length_met : (bits xs : List ℕ) (t : ℕ) → Holds bits xs
    → length (spaced_list (insert eqb xs t))
    ≡ length (spaced_list xs) + length (unless (marked bits t) (32 ∷ decimal t))
length_met bits xs t h =
    omega (
      arith,
      ap length (spaced_met bits xs t h),
      length-append (spaced_list xs) (unless (marked bits t) (separator xs ∷ decimal t)),
      unless-length (marked bits t) (separator xs) 32 (decimal t),
    )

-- ---- the list of a line

pub spaced-list : (ns : List ℕ) → 1 ≤ length ns → 32 ∷ list_text ns ≡ spaced_list ns
unfolding list_text spaced_list
spaced-list [] h = absurd (omega arith)
spaced-list (n ∷ ns) h = refl
