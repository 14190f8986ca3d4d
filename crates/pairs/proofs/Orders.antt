-- What holds along one order of slots and along another holds along both, one behind the other; and which slots the
-- order of a search has. Assumes nothing.
use Rattle.std.proofs.Common.{◌≡◌, ℕ, zero, suc, ◌+◌, ◌-◌, ◌<◌, ◌≤◌, min, List, ◌++◌, length, sym, refl, ap, ◌∙◌, subst, not-suc-le-zero, arith, length-append}
use native.Mathlib.Decide.{dec_lt}
use lib.ListN.{get_or-append}
use lib.Seq.{get_or-append-add}
use Rattle.std.specs.Prelude.{MatchOption}
use Rattle.std.specs.declared.option.Option.{Option}
use Rattle.std.specs.declared.option.Option.TheVariants.{Some, None}
use Rattle.rules.specs.Lists.{word, from}
use Rattle.lists.proofs.Ranges.{from-length, from_at}
use Rattle.pairs.specs.declared.Place.{Place}
use Rattle.pairs.specs.declared.Place.TheVariants.{Known, Free}
use Rattle.pairs.specs.Slot.{slot_of, multiple, bucket_size, bucket_count, bucket, buckets, probe_sequence}
use Rattle.pairs.specs.Table.{key_in, held_in}
use Rattle.pairs.specs.Answers.{Others, Has, Ends, Probed}

-- ---- what holds of the slots before a place

module _ (P : ℕ → Type 0) (fs gs : List ℕ) where
  -- of all of the first and the first n of the second
  before_both : (n : ℕ) → ((t : ℕ) → t < length fs → P (word fs t)) → ((t : ℕ) → t < n → P (word gs t)) → (t : ℕ)
      → t < length fs + n → P (word (fs ++ gs) t)
  before_both n f g t h = go (dec_lt t (length fs))
    where
      go : Dec (t < length fs) → P (word (fs ++ gs) t)
      go (yes l) = rw (get_or-append fs gs 0 t l) (f t l)
      go (no m) =
          let e : length fs + (t - length fs) ≡ t = omega arith in
          subst (λ (x : ℕ). P (word (fs ++ gs) x)) e
          (rw (get_or-append-add fs gs (t - length fs) 0) (g (t - length fs) (omega arith)))

  -- of all of both
  each_both : ((t : ℕ) → t < length fs → P (word fs t)) → ((t : ℕ) → t < length gs → P (word gs t)) → (t : ℕ)
      → t < length (fs ++ gs) → P (word (fs ++ gs) t)
  each_both f g t h = before_both (length gs) f g t (omega (arith, length-append fs gs))

-- ---- one order behind another

module _ (slots : List ℕ) (k : ℕ) (fs gs : List ℕ) where
  others_both : Others slots fs k → Others slots gs k → Others slots (fs ++ gs) k
  others_both f g =
      record {
        taken = each_both (λ (p : ℕ). 0 < held_in slots p) fs gs f.taken g.taken;
        other = each_both (λ (p : ℕ). key_in slots p ≡ k → ⊥) fs gs f.other g.other;
      }

  longer : (t : ℕ) → t < length fs → t < length (fs ++ gs)
  longer t h = omega (arith, length-append fs gs)

  has_first : (i : ℕ) → Has slots fs k i → Has slots (fs ++ gs) k i
  has_first i f =
      record {
        place = f.place;
        inside = longer f.place f.inside;
        key = rw (get_or-append fs gs 0 f.place f.inside) f.key;
        holds = rw (get_or-append fs gs 0 f.place f.inside) f.holds;
      }

  has_second : (i : ℕ) → Has slots gs k i → Has slots (fs ++ gs) k i
  has_second i f =
      record {
        place = length fs + f.place;
        inside = omega (arith, length-append fs gs, f.inside);
        key = rw (get_or-append-add fs gs f.place 0) f.key;
        holds = rw (get_or-append-add fs gs f.place 0) f.holds;
      }

  ends_first : (p : ℕ) → Ends slots fs k p → Ends slots (fs ++ gs) k p
  ends_first p f =
      record {
        path =
            record {
              place = f.path.place;
              inside = longer f.path.place f.path.inside;
              there = get_or-append fs gs 0 f.path.place f.path.inside ∙ f.path.there;
              before = λ t h. rw (get_or-append fs gs 0 t (omega (arith, f.path.inside))) (f.path.before t h);
            };
        empty = f.empty;
        other = λ t h. rw (get_or-append fs gs 0 t (omega (arith, f.path.inside))) (f.other t h);
      }

  ends_second : (p : ℕ) → Others slots fs k → Ends slots gs k p → Ends slots (fs ++ gs) k p
  ends_second p o f =
      record {
        path =
            record {
              place = length fs + f.path.place;
              inside = omega (arith, length-append fs gs, f.path.inside);
              there = get_or-append-add fs gs f.path.place 0 ∙ f.path.there;
              before = before_both (λ (q : ℕ). 0 < held_in slots q) fs gs f.path.place o.taken f.path.before;
            };
        empty = f.empty;
        other = before_both (λ (q : ℕ). key_in slots q ≡ k → ⊥) fs gs f.path.place o.other f.other;
      }

  -- what was found along the first
  probed_first : (f : Place) → Probed slots fs k (Some f) → Probed slots (fs ++ gs) k (Some f)
  probed_first (Known i) q = has_first i.0 q
  probed_first (Free p) q = ends_first p q

  -- what was answered along the second, where nothing was found along the first
  probed_second : (r : Option Place) → Others slots fs k → Probed slots gs k r → Probed slots (fs ++ gs) k r
  probed_second (Some (Known i)) o q = has_second i.0 q
  probed_second (Some (Free p)) o q = ends_second p o q
  probed_second None o q = others_both o q

  -- where the second is gone along if nothing was found along the first
  pub probed_both : {C : Type 0} (r₁ r : Option Place) → Probed slots fs k r₁ → (C → Probed slots gs k r)
      → MatchOption r₁ C (λ f. r ≡ Some f) → Probed slots (fs ++ gs) k r
  probed_both (Some f) r q again e = rw e (probed_first f q)
  probed_both None r o again e = probed_second r o (again e)

-- ---- slots a, a + 1, ..

module _ (slots : List ℕ) (k a : ℕ) where
  at : (n t : ℕ) → t < length (from a n) → word (from a n) t ≡ a + t
  at n t h = from_at a n t 0 (omega (arith, from-length a n))

  -- what holds of a, .., s - 1 holds of each below s, however many come after
  up_to : (P : ℕ → Type 0) (s : ℕ) → a ≤ s → ((t : ℕ) → t < length (from a (s - a)) → P (word (from a (s - a)) t))
      → (n t : ℕ) → t < length (from a n) → a + t < s → P (word (from a n) t)
  up_to P s h f n t l m =
      let short : t < length (from a (s - a)) = omega (arith, from-length a (s - a)) in
      subst P (at (s - a) t short ∙ sym (at n t l)) (f t short)

  pub none_yet : Others slots (from a (a - a)) k
  none_yet =
      record {
        taken = λ t h. absurd (omega (arith, from-length a (a - a)));
        other = λ t h e. absurd (omega (arith, from-length a (a - a)));
      }

  -- one more slot, which is taken by another key
  pub one_more : (s : ℕ) → a ≤ s → 0 < held_in slots s → (key_in slots s ≡ k → ⊥) → Others slots (from a (s - a)) k
      → Others slots (from a (s + 1 - a)) k
  one_more s h taken other f =
      record {
        taken = next (λ (q : ℕ). 0 < held_in slots q) taken f.taken;
        other = next (λ (q : ℕ). key_in slots q ≡ k → ⊥) other f.other;
      }
    where
      next : (P : ℕ → Type 0) → P s → ((t : ℕ) → t < length (from a (s - a)) → P (word (from a (s - a)) t)) → (t : ℕ)
          → t < length (from a (s + 1 - a)) → P (word (from a (s + 1 - a)) t)
      next P here f t l =
          elim (dec_lt (a + t) s) [
            | yes m ↦ up_to P s h f (s + 1 - a) t l m
            | no m ↦ (let e : a + t ≡ s = omega (arith, from-length a (s + 1 - a)) in rw (at (s + 1 - a) t l, e) here)
          ]

  -- slot s has the key
  pub has_at : (s b i : ℕ) → a ≤ s → s < b → key_in slots s ≡ k → held_in slots s ≡ i + 1 → Has slots (from a (b - a)) k i
  has_at s b i h l key holds =
      let inside : s - a < length (from a (b - a)) = omega (arith, from-length a (b - a)) in
      let e : word (from a (b - a)) (s - a) ≡ s = at (b - a) (s - a) inside ∙ omega arith in
      record { place = s - a; inside = inside; key = rw e key; holds = rw e holds }

  -- slot s is empty
  pub ends_at : (s b : ℕ) → a ≤ s → s < b → held_in slots s ≡ 0 → Others slots (from a (s - a)) k → Ends slots (from a (b - a)) k s
  ends_at s b h l empty f =
      let inside : s - a < length (from a (b - a)) = omega (arith, from-length a (b - a)) in
      record {
        path =
            record {
              place = s - a;
              inside = inside;
              there = at (b - a) (s - a) inside ∙ omega arith;
              before = λ t m. up_to (λ (q : ℕ). 0 < held_in slots q) s h f.taken (b - a) t (omega arith) (omega arith);
            };
        empty = empty;
        other = λ t m. up_to (λ (q : ℕ). key_in slots q ≡ k → ⊥) s h f.other (b - a) t (omega arith) (omega arith);
      }

-- ---- the buckets that are left after j of them

module _ (slots : List ℕ) (k v j origin a b : ℕ) where
  -- the slots of a bucket, as the code bounds them
  bounded : a ≡ slot_of origin v → b ≡ min v (a + bucket_size) → from a (b - a) ≡ bucket origin v
  bounded e d = rw (d, e) (ap (from (slot_of origin v)) (omega arith))

  one_bucket : (next : ℕ) → j < bucket_count → next ≡ multiple origin → buckets (bucket_count - j) origin v ≡ bucket origin v ++ buckets (bucket_count - (j + 1)) next v
  unfolding buckets
  one_bucket next h e =
      let less : bucket_count - j ≡ suc (bucket_count - (j + 1)) = omega arith in
      ap (λ (m : ℕ). buckets m origin v) less ∙ ap (λ (x : ℕ). bucket origin v ++ buckets (bucket_count - (j + 1)) x v) (sym e)

  pub found_in_bucket : (f : Place) → j < bucket_count → a ≡ slot_of origin v → b ≡ min v (a + bucket_size) → Probed slots (from a (b - a)) k (Some f)
      → Probed slots (buckets (bucket_count - j) origin v) k (Some f)
  found_in_bucket f h e d q =
      subst (λ (l : List ℕ). Probed slots l k (Some f)) (sym (one_bucket (multiple origin) h refl))
      (probed_first slots k (bucket origin v) _ f (subst (λ (l : List ℕ). Probed slots l k (Some f)) (bounded e d) q))

  pub past_bucket : (next : ℕ) (r : Option Place) → j < bucket_count → a ≡ slot_of origin v → b ≡ min v (a + bucket_size) → next ≡ multiple origin
      → Others slots (from a (b - a)) k → Probed slots (buckets (bucket_count - (j + 1)) next v) k r → Probed slots (buckets (bucket_count - j) origin v) k r
  past_bucket next r h e d g none q =
      subst (λ (l : List ℕ). Probed slots l k r) (sym (one_bucket next h g))
      (probed_second slots k (bucket origin v) _ r (subst (λ (l : List ℕ). Others slots l k) (bounded e d) none) q)

pub no_bucket_left : (slots : List ℕ) (k v j origin : ℕ) → bucket_count ≤ j → Others slots (buckets (bucket_count - j) origin v) k
unfolding buckets
no_bucket_left slots k v j origin h =
    let none : bucket_count - j ≡ 0 = omega arith in
    rw none (record { taken = λ t l. absurd (not-suc-le-zero l); other = λ t l. absurd (not-suc-le-zero l) })

-- ---- the order of a search

-- each slot of the order is one of v
abbrev Inside : List ℕ → ℕ → Type 0
Inside order v = (t : ℕ) → t < length order → word order t < v

bucket_inside : (key v : ℕ) → Inside (bucket key v) v
bucket_inside key v t h =
    let n : ℕ = min bucket_size (v - slot_of key v) in
    let l : t < n = omega (arith, from-length (slot_of key v) n) in
    rw (from_at (slot_of key v) n t 0 l) (omega arith)

buckets_inside : (n key v : ℕ) → Inside (buckets n key v) v
unfolding buckets
buckets_inside zero key v t h = absurd (not-suc-le-zero h)
buckets_inside (suc n) key v t h =
    each_both (λ (p : ℕ). p < v) (bucket key v) (buckets n (multiple key) v) (bucket_inside key v) (buckets_inside n (multiple key) v) t h

all_inside : (v : ℕ) → Inside (from 0 v) v
all_inside v t h =
    let l : t < v = omega (arith, from-length 0 v) in
    rw (from_at 0 v t 0 l) (omega arith)

pub order_inside : (key v : ℕ) → Inside (probe_sequence key v) v
order_inside key v = each_both (λ (p : ℕ). p < v) (buckets bucket_count key v) (from 0 v) (buckets_inside bucket_count key v) (all_inside v)

-- what holds of each slot of the order holds of each of v
pub order_whole : (P : ℕ → Type 0) (key v : ℕ) → ((t : ℕ) → t < length (probe_sequence key v) → P (word (probe_sequence key v) t))
    → (p : ℕ) → p < v → P p
order_whole P key v f p h =
    let e : word (probe_sequence key v) (length (buckets bucket_count key v) + p) ≡ p = get_or-append-add (buckets bucket_count key v) (from 0 v) p 0 ∙ from_at 0 v p 0 h ∙ omega arith in
    subst P e (f (length (buckets bucket_count key v) + p) (omega (arith, length-append (buckets bucket_count key v) (from 0 v), from-length 0 v)))
