-- A vertex that is met, as the two slices show it: its number stands in one of them, and the vertices met stand in the
-- other. Assumes nothing.
use mathlib.Core.Path.{◌≡◌, sym, ap, ◌∙◌, subst}
use mathlib.Core.List.{List, [], ◌∷◌, ◌++◌}
use mathlib.Core.Logic.{inl, inr, ⊎_elim}
use Prim.Native.Nat.{ℕ, ◌+◌, ◌≤◌, ◌<◌}
use native.Mathlib.Decide.{ℕ_discrete}
use native.Mathlib.Numerals.{add-one}
use native.Mathlib.Omega.{arith}
use lib.Dec.{eqb}
use lib.ListN.{length, get_or, take, set, replicate, length-set, get_or-replicate}
use lib.Seq.{take-suc-set, get_or-set_same, get_or-set_other, length-take-le, get_or-take}
use Rattle.rules.specs.Lists.{word, In, from, insert}
use Rattle.rules.specs.Restrict.{new_number}
use Rattle.lists.proofs.Members.{in_at, in_last, in_left, in_or, in_either, no_more, distinct_snoc, position_append, position_out}
use Rattle.lists.proofs.Inserts.{insert_new, insert_old}
use Rattle.lists.proofs.Equalities.{number_equality}
use Rattle.lists.proofs.Ranges.{from-length, from_in}
use Rattle.restrictions.proofs.Kept.{number_in, number-out, number_below}
use Rattle.reachability.specs.Knowing.{Knows}

-- ---- the new number, once one more vertex is met

number_new : (t : ℕ) (met : List ℕ) → (¬ In t met) → new_number (met ++ (t ∷ [])) t ≡ length met
number_new t met n = number_in (met ++ (t ∷ [])) t (in_last t met) ∙ position_out number_equality t met [] n

number_same : (t v : ℕ) (met : List ℕ) → (¬ (v ≡ t)) → new_number (met ++ (t ∷ [])) v ≡ new_number met v
number_same t v met d =
    ⊎_elim
    (λ m. number_in (met ++ (t ∷ [])) v (in_left v met (t ∷ []) m) ∙ position_append number_equality v met (t ∷ []) m ∙ sym (number_in met v m))
    (λ n. number-out (met ++ (t ∷ [])) v (λ m. ⊎_elim n (λ l. ⊎_elim d (λ z. z) l) (in_either v met (t ∷ []) m)) ∙ sym (number-out met v n))
    (in_or number_equality v met)

-- 4,294,967,295 is no vertex's number
number_away : (met : List ℕ) (v : ℕ) → length met ≤ 1_048_576 → new_number met v ≡ 4_294_967_295 → ¬ In v met
number_away met v h e m = omega (arith, number_below met v m)

number_known : (met : List ℕ) (v : ℕ) → (new_number met v ≡ 4_294_967_295 → ⊥) → In v met
number_known met v n = ⊎_elim (λ m. m) (λ o. absurd (n (number-out met v o))) (in_or number_equality v met)

-- a vertex that is not among distinct ones: there is room for it
room_for : (n t : ℕ) (xs : List ℕ) → Rattle.rules.specs.Lists.Distinct xs → (¬ In t xs) → ((x : ℕ) → In x xs → x < n) → t < n → length xs < n
room_for n t xs d f b h = omega (arith, no_more (t ∷ xs) (from 0 n) (f, d) below, from-length 0 n)
  where
    below : (x : ℕ) → In x (t ∷ xs) → In x (from 0 n)
    below x (inl e) = from_in x 0 n (omega arith) (omega arith)
    below x (inr m) = let l = b x m in from_in x 0 n (omega arith) (omega arith)

-- ---- the two slices

pub length_known : {count : ℕ} {mapping work : List ℕ} → Knows count mapping work → length (take count work) ≡ count
length_known {count} {mapping} {work} k = length-take-le count work (omega (arith, k.within, k.work_long))

-- the slices once vertex t has got the next number
pub record Met (count t : ℕ) (mapping work : List ℕ) : Type 0 where
  pub room : count < length work
  pub knows : Knows (count + 1) (set mapping t count) (set work count t)
  pub known : take (count + 1) (set work count t) ≡ insert eqb (take count work) t

pub fresh : (count t : ℕ) (mapping work : List ℕ) → Knows count mapping work → t < length mapping → word mapping t ≡ 4_294_967_295 → Met count t mapping work
fresh count t mapping work k h e =
    record {
      room = room;
      knows =
          record {
            work_long = length-set work count t ∙ k.work_long ∙ sym (length-set mapping t count);
            few = rw length-set k.few;
            within = rw length-set (omega (arith, room, k.work_long));
            right = λ v l. rw snoc (right v (subst (λ (n : ℕ). v < n) (length-set mapping t count) l));
            distinct = rw snoc (distinct_snoc (take count work) t k.distinct new);
            below = λ v m. subst (λ (n : ℕ). v < n) (sym (length-set mapping t count)) (below v (rw snoc at m));
          };
      known = snoc ∙ sym (insert_new number_equality (take count work) t new);
    }
  where
    long : length (take count work) ≡ count
    long = length_known k

    new : ¬ In t (take count work)
    new = number_away (take count work) t (omega (arith, long, k.within, k.few)) (sym (k.right t h) ∙ e)

    room : count < length work
    room = omega (arith, long, k.work_long, room_for (length mapping) t (take count work) k.distinct new k.below h)

    snoc : take (count + 1) (set work count t) ≡ take count work ++ (t ∷ [])
    snoc = rw add-one (take-suc-set work count t room)

    right : (v : ℕ) → v < length mapping → word (set mapping t count) v ≡ new_number (take count work ++ (t ∷ [])) v
    right v l = go (ℕ_discrete v t)
      where
        go : Dec (v ≡ t) → word (set mapping t count) v ≡ new_number (take count work ++ (t ∷ [])) v
        go (yes p) = rw p (get_or-set_same mapping t count 0 h ∙ sym long ∙ sym (number_new t (take count work) new))
        go (no d) = get_or-set_other mapping t v count 0 d ∙ k.right v l ∙ sym (number_same t v (take count work) d)

    below : (v : ℕ) → In v (take count work ++ (t ∷ [])) → v < length mapping
    below v m = ⊎_elim (k.below v) (λ w. ⊎_elim (λ p. omega (arith, p, h)) (λ z. absurd z) w) (in_either v (take count work) (t ∷ []) m)

pub old : (count t : ℕ) (mapping work : List ℕ) → Knows count mapping work → t < length mapping → (word mapping t ≡ 4_294_967_295 → ⊥)
    → take count work ≡ insert eqb (take count work) t
old count t mapping work k h n =
    sym (insert_old number_equality (take count work) t (number_known (take count work) t (λ e. n (k.right t h ∙ e))))

-- no vertex is met yet
pub none_known : (mapping work : List ℕ) → length work ≡ length mapping → length mapping ≤ 1_048_576 → mapping ≡ replicate (length mapping) 4_294_967_295
    → Knows 0 mapping work
none_known mapping work e h f =
    record {
      work_long = e;
      few = h;
      within = omega arith;
      right = λ v l. ap (λ (xs : List ℕ). word xs v) f ∙ get_or-replicate (length mapping) v 4_294_967_295 0 l ∙ sym (number-out [] v (λ z. z));
      distinct = tt;
      below = λ v m. absurd m;
    }

-- the vertex that has a number that is given is one
pub knows_at : {count : ℕ} {mapping work : List ℕ} → Knows count mapping work → (i : ℕ) → i < count → word work i < length mapping
knows_at {count} {mapping} {work} k i h =
    let e : get_or (take count work) i 0 ≡ get_or work i 0 = get_or-take count work i 0 h in
    k.below (word work i) (subst (λ (x : ℕ). In x (take count work)) e (in_at (take count work) i 0 (omega (arith, length_known k))))

-- a slice that is filled
pub filled : (v : ℕ) (ws ws' : List ℕ) → length ws' ≡ length ws → ws' ≡ replicate (length ws) v
    → ws' ≡ replicate (length ws') v
filled v ws ws' l e = e ∙ ap (λ (k : ℕ). replicate k v) (sym l)
