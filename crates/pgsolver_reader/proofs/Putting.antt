-- The different numbers of a list are appended to the game, and the bitmap is emptied by them. Assumes nothing.
use Prim.Native.Nat.{ℕ, zero, suc, ◌+◌, ◌≤◌, ◌<◌}
use native.Mathlib.Omega.{arith}
use mathlib.Core.Path.{◌≡◌, refl, sym, ap, ◌∙◌, subst}
use mathlib.Core.List.{List, [], ◌∷◌, ◌++◌, append-nil}
use mathlib.Core.Logic.{inl, inr}
use lib.ListN.{length, length-append}
use lib.Dec.{eqb}
use Rattle.rules.specs.Lists.{word, In, insert, insert_all, once}
use Rattle.lists.proofs.Members.{in_has, not_in}
use Rattle.lists.proofs.Inserts.{insert_cases, inserts_begins, once_append}
use Rattle.lists.proofs.Equalities.{number_equality}
use Rattle.bitmap.specs.Marks.{marked, Met, Holds, Only}
use Rattle.bitmap.proofs.Sets.{meets}
use Rattle.words.specs.Stretches.{Wrote}
use Rattle.text_writer.specs.Appending.{unless}
use Rattle.text_writer.proofs.Lines.{wrote_none, wrote_as, wrote_both}
use Rattle.std.specs.Prelude.{None}
use Rattle.pgsolver_scan.specs.declared.Number.{Number}
use Rattle.pgsolver_scan.specs.declared.Successors.{Successors}
use Rattle.pgsolver_scan.specs.Successors.{list_at, left_from, Begun, Gave}
use Rattle.pgsolver_scan.proofs.Going.{Gone, gone_none, gone_more, gone_all}
use Rattle.pgsolver_check.proofs.Counting.{once_snoc}

insert-text : (xs : List ℕ) (v : ℕ) (bits : List ℕ) → Holds bits xs → insert eqb xs v
    ≡ xs ++ unless (marked bits v) (v ∷ [])
unfolding unless
insert-text xs v bits h =
    insert_cases number_equality (λ ys. ys ≡ xs ++ unless (marked bits v) (v ∷ [])) xs v
    (λ i. rw (h.marks v ∙ in_has number_equality v xs i) (sym (append-nil xs)))
    (λ n. rw (h.marks v ∙ not_in number_equality v xs n) refl)

-- the different ones of the numbers that were given are appended
pub record Putting (text : List ℕ) (list next start at : ℕ) (bits game game₀ : List ℕ) (s : Successors) : Type 0 where
  pub given : List ℕ
  pub gone : Gone text list given next s
  pub long : length game ≡ length game₀
  pub wrote : Wrote start (once eqb given) game₀ game at
  pub holds : Holds bits (once eqb given)

pub putting_start : {text : List ℕ} {list : ℕ} {bits : List ℕ} {s : Successors} (start : ℕ) (game : List ℕ)
    → Begun s text list → Holds bits [] → Putting text list list start start bits game game s
unfolding once insert_all
putting_start start game b h =
    record { given = []; gone = gone_none b; long = refl; wrote = wrote_none refl; holds = h }

once_longer : (xs ys : List ℕ) → length (once eqb xs) ≤ length (once eqb (xs ++ ys))
once_longer xs ys =
    let (rest, e) = inserts_begins number_equality (once eqb xs) ys in
    omega (arith, ap length (once_append number_equality xs ys ∙ e), length-append (once eqb xs) rest)

module _ {text : List ℕ} {list next start at : ℕ} {bits game game₀ : List ℕ} {s : Successors}
    (k : Putting text list next start at bits game game₀ s) where
  module _ {n : Number} {t : Successors} (g : Gave s n t) where
    abbrev v : ℕ
    v = n.value

    text-more : once eqb (k.given ++ (v ∷ [])) ≡ once eqb k.given ++ unless (marked bits v) (v ∷ [])
    text-more = once_snoc k.given v ∙ insert-text (once eqb k.given) v bits k.holds

    pub putting_room : start + length (once eqb (list_at text list)) ≤ length game₀
        → at + length (unless (marked bits v) (v ∷ [])) ≤ length game
    putting_room h =
        omega (
          arith,
          h,
          k.long,
          k.wrote.past,
          ap length text-more,
          length-append (once eqb k.given) (unless (marked bits v) (v ∷ [])),
          ap (λ (z : List ℕ). length (once eqb z)) (gone_more k.gone g).all,
          once_longer (k.given ++ (v ∷ [])) (left_from text t.at),
        )

    pub putting_more : {r : ℕ} {bits' game' : List ℕ} → length game' ≡ length game
        → Wrote at (unless (marked bits v) (v ∷ [])) game game' r → Met bits bits' v
        → Putting text list n.next start r bits' game' game₀ t
    putting_more {r} {bits'} l w m =
        record {
          given = k.given ++ (v ∷ []);
          gone = gone_more k.gone g;
          long = l ∙ k.long;
          wrote = wrote_as (sym text-more) (wrote_both k.wrote w);
          holds = subst (Holds bits') (sym (once_snoc k.given v)) (meets k.holds m);
        }

  module _ (e : s.at ≡ None) where
    pub putting_done : Wrote start (once eqb (list_at text list)) game₀ game at
    putting_done = wrote_as (ap (once eqb) (sym (gone_all k.gone e))) k.wrote

    pub putting_holds : Holds bits (once eqb (list_at text list))
    putting_holds = subst (λ (ns : List ℕ). Holds bits (once eqb ns)) (sym (gone_all k.gone e)) k.holds

-- ---- the bitmap is emptied by the words that were written

-- only these words are marked, and they are small
pub record Wiping (written bits : List ℕ) : Type 0 where
  pub only : Only bits written
  pub small : (i : ℕ) → i < length written → word written i < 1048576

pub word_in : (xs : List ℕ) (i : ℕ) → i < length xs → In (word xs i) xs
word_in [] i h = absurd (omega (arith, h))
word_in (x ∷ xs) zero h = inl refl
word_in (x ∷ xs) (suc i) h = inr (word_in xs i (omega (arith, h)))
