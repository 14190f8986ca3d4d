-- The successors of a line, number by number. Assumes nothing.
use Prim.Native.Nat.{ℕ, ◌+◌, ◌≤◌}
use native.Mathlib.Omega.{arith}
use mathlib.Core.Path.{◌≡◌, refl, sym, ap, ◌∙◌, subst}
use mathlib.Core.Bool.{Bool, true, false, not}
use mathlib.Core.List.{List, [], ◌∷◌, ◌++◌}
use lib.ListN.{length, length-append}
use lib.Dec.{eqb}
use mir.Val.{bool_byte}
use Rattle.rules.specs.Lists.{one, insert, insert_all, once}
use Rattle.lists.proofs.Members.{in_has, not_in}
use Rattle.lists.proofs.Inserts.{insert_cases, inserts_snoc}
use Rattle.lists.proofs.Equalities.{number_equality}
use Rattle.bitmap.specs.Marks.{marked, Met, Holds, Only}
use Rattle.bitmap.proofs.Sets.{meets, only_holds}
use Rattle.std.specs.Prelude.{None}
use Rattle.pgsolver_scan.specs.declared.Number.{Number}
use Rattle.pgsolver_scan.specs.declared.Successors.{Successors}
use Rattle.pgsolver_scan.specs.Successors.{list_at, Begun, Gave}
use Rattle.pgsolver_scan.proofs.Going.{Gone, gone_none, gone_more, gone_all, gone_few}

-- ---- different numbers are counted

pub once_snoc : (xs : List ℕ) (v : ℕ) → once eqb (xs ++ (v ∷ [])) ≡ insert eqb (once eqb xs) v
unfolding once
once_snoc xs v = inserts_snoc eqb [] xs v

insert_count : (xs : List ℕ) (v : ℕ) (bits : List ℕ) → Holds bits xs → length (insert eqb xs v)
    ≡ length xs + one (not (marked bits v))
insert_count xs v bits h =
    insert_cases number_equality (λ ys. length ys ≡ length xs + one (not (marked bits v))) xs v
    (λ i. rw (h.marks v ∙ in_has number_equality v xs i) (omega arith))
    (λ n. rw (h.marks v ∙ not_in number_equality v xs n) (length-append xs (v ∷ [])))

-- of the numbers that were given the different ones were counted
pub record Counting (text : List ℕ) (list count next : ℕ) (bits : List ℕ) (s : Successors) : Type 0 where
  pub given : List ℕ
  pub gone : Gone text list given next s
  pub right : count ≡ length (once eqb given)
  pub few : count ≤ length given
  pub holds : Holds bits (once eqb given)

pub counting_start : {text bits : List ℕ} {list : ℕ} {s : Successors} → Begun s text list → Holds bits []
    → Counting text list 0 list bits s
unfolding once insert_all
counting_start b h = record { given = []; gone = gone_none b; right = refl; few = omega arith; holds = h }

module _ {text bits : List ℕ} {list count next : ℕ} {s : Successors} (k : Counting text list count next bits s) where
  pub counting_more : {bits' : List ℕ} {n : Number} {t : Successors} {new : Bool} → Gave s n t
      → new ≡ not (marked bits n.value) → Met bits bits' n.value
      → Counting text list (count + bool_byte new) n.next bits' t
  counting_more {n = n} g e m =
      let q = ap bool_byte e ∙ same (not (marked bits n.value)) in
      record {
        given = k.given ++ (n.value ∷ []);
        gone = gone_more k.gone g;
        right = omega (
          arith,
          q,
          k.right,
          ap length (once_snoc k.given n.value),
          insert_count (once eqb k.given) n.value bits k.holds,
        );
        few = omega (arith, q, k.few, length-append k.given (n.value ∷ []), one_most (not (marked bits n.value)));
        holds = subst (Holds _) (sym (once_snoc k.given n.value)) (meets k.holds m);
      }
    where
      same : (b : Bool) → bool_byte b ≡ one b
      same true = refl
      same false = refl

      one_most : (b : Bool) → one b ≤ 1
      one_most true = omega arith
      one_most false = omega arith

  -- the count stays small
  pub counting_few : {n : Number} {t : Successors} (new : Bool) → Gave s n t → count + bool_byte new ≤ length text
  counting_few true g = omega (arith, k.few, gone_few k.gone g)
  counting_few false g = omega (arith, k.few, gone_few k.gone g)

  module _ (e : s.at ≡ None) where
    pub counting_done : count ≡ length (once eqb (list_at text list))
    counting_done = k.right ∙ ap (λ ns. length (once eqb ns)) (sym (gone_all k.gone e))

    pub counting_only : Only bits (list_at text list)
    counting_only = only_holds (subst (λ ns. Holds bits (once eqb ns)) (sym (gone_all k.gone e)) k.holds)
