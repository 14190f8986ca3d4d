-- The laws of the slots: what a taken slot and a search without success say of a key, and one more pair. Assumes
-- nothing.
use Rattle.std.proofs.Common.{◌≡◌, ℕ, zero, suc, ◌+◌, ◌-◌, ◌*◌, ◌<◌, ◌≤◌, eqb, ltb, List, [], ◌∷◌, ◌++◌, length, set, sym, refl, ap, ◌∙◌, subst, not-suc-le-zero, add-one, arith, length-append, length-set, get_or-set_other, get_or-set_same, le-ltb, lt-ltb}
use native.Mathlib.Decide.{ℕ_discrete}
use lib.ListN.{get_or-append}
use lib.Seq.{get_or_at}
use Rattle.rules.specs.Lists.{word, tally, In, position}
use Rattle.lists.proofs.Members.{in_at, position_below, position_at, position-of, distinct_snoc}
use Rattle.lists.proofs.Equalities.{number_equality}
use Rattle.lists.proofs.Tallies.{tally-all, tally_gains}
use Rattle.pairs.specs.Slot.{probe_sequence}
use Rattle.pairs.proofs.Orders.{order_inside}
use Rattle.pairs.specs.Table.{slot_count, key_in, held_in, taken, keys_in, Path, Reached, Holding, Slots}

-- ---- the keys of the vertices

pub length-keys_in : (keys : List ℕ) (n : ℕ) → length (keys_in keys n) ≡ n
unfolding keys_in
length-keys_in keys zero = refl
length-keys_in keys (suc n) = simp (length-append, length-keys_in keys n, add-one)

pub get_d_keys_in : (keys : List ℕ) (n i : ℕ) → i < n → word (keys_in keys n) i ≡ word keys i
unfolding keys_in
get_d_keys_in keys zero i h = absurd (not-suc-le-zero h)
get_d_keys_in keys (suc n) i h = go (ℕ_discrete i n) (get_d_keys_in keys n i)
  where
    go : Dec (i ≡ n) → (i < n → word (keys_in keys n) i ≡ word keys i) → word (keys_in keys (suc n)) i ≡ word keys i
    go (yes e) ih = rw e (get_or_at (keys_in keys n) _ [] 0 n (length-keys_in keys n))
    go (no e) ih = get_or-append (keys_in keys n) _ 0 i (omega (arith, length-keys_in keys n)) ∙ ih (omega arith)

keys_in_kept : (keys : List ℕ) (n k m : ℕ) → m ≤ n → keys_in (set keys n k) m ≡ keys_in keys m
unfolding keys_in
keys_in_kept keys n k zero h = refl
keys_in_kept keys n k (suc m) h = rw (keys_in_kept keys n k m (omega arith), get_or-set_other keys n m k 0 (omega arith))

pub keys_in_more : (keys : List ℕ) (n k : ℕ) → n < length keys → keys_in (set keys n k) (n + 1) ≡ keys_in keys n ++ (k ∷ [])
unfolding keys_in
keys_in_more keys n k h = ap (keys_in (set keys n k)) (add-one n) ∙ rw (keys_in_kept keys n k n (omega arith), get_or-set_same keys n k 0 h)

-- ---- a slot is filled with a key and what it holds

abbrev pub filled : List ℕ → (p k h : ℕ) → List ℕ
filled slots p k h = set (set slots (2 * p) k) (2 * p + 1) h

module _ (slots : List ℕ) (p k h : ℕ) where
  key_other : (q : ℕ) → (q ≡ p → ⊥) → key_in (filled slots p k h) q ≡ key_in slots q
  key_other q d =
      get_or-set_other (set slots (2 * p) k) (2 * p + 1) (2 * q) h 0 (omega arith) ∙ get_or-set_other slots (2 * p) (2 * q) k 0 (omega arith)

  held_other : (q : ℕ) → (q ≡ p → ⊥) → held_in (filled slots p k h) q ≡ held_in slots q
  held_other q d =
      get_or-set_other (set slots (2 * p) k) (2 * p + 1) (2 * q + 1) h 0 (omega arith) ∙ get_or-set_other slots (2 * p) (2 * q + 1) k 0 (omega arith)

  module _ (room : 2 * p + 1 < length slots) where
    key_new : key_in (filled slots p k h) p ≡ k
    key_new =
        get_or-set_other (set slots (2 * p) k) (2 * p + 1) (2 * p) h 0 (omega arith) ∙ get_or-set_same slots (2 * p) k 0 (omega arith)

    held_new : held_in (filled slots p k h) p ≡ h
    held_new = get_or-set_same (set slots (2 * p) k) (2 * p + 1) h 0 (omega (arith, length-set slots (2 * p) k))

-- ---- where a key stands

in_by : (k : ℕ) (ks : List ℕ) (i : ℕ) → i < length ks → word ks i ≡ k → In k ks
in_by k ks i l e = subst (λ (x : ℕ). In x ks) e (in_at ks i 0 l)

-- a slot to which a search comes is one of them
pub path_inside : {slots : List ℕ} {v : ℕ} (k p : ℕ) → Path slots (probe_sequence k v) p → p < v
path_inside {v = v} k p a = subst (λ (x : ℕ). x < v) a.there (order_inside k v a.place a.inside)

module _ (slots ks : List ℕ) (v n : ℕ) (c : Slots slots ks v n) (long : length ks ≡ n) where
  -- a taken slot with the key shows its vertex
  pub found_at : (p k i : ℕ) → p < slot_count v → key_in slots p ≡ k → held_in slots p ≡ i + 1 → In k ks × (i ≡ position eqb k ks)
  found_at p k i h e g =
      let m = c.holding p h (omega arith) in
      let l : i < length ks = omega (arith, m.known) in
      let f : held_in slots p - 1 ≡ i = omega arith in
      let w : word ks i ≡ k = sym (m.key ∙ ap (λ (j : ℕ). word ks j) f) ∙ e in
      (in_by k ks i l w, sym (ap (λ (x : ℕ). position eqb x ks) (sym w) ∙ position-of number_equality ks i 0 c.distinct l))

  -- a key that no slot has to which a search for it comes is not known
  pub absent : (k : ℕ) → ((p : ℕ) → Path slots (probe_sequence k (slot_count v)) p → 0 < held_in slots p → key_in slots p ≡ k → ⊥) → ¬ In k ks
  absent k none m =
      let i : ℕ = position eqb k ks in
      let l : i < n = omega (arith, position_below number_equality k ks m) in
      let w : word ks i ≡ k = position_at number_equality k ks 0 m in
      let r = c.vertex i l in
      let p : ℕ = r.slot in
      let g : held_in slots p ≡ i + 1 = r.holds in
      let f : held_in slots p - 1 ≡ i = omega arith in
      none p (subst (λ (x : ℕ). Path slots (probe_sequence x (slot_count v)) p) w r.path) (omega arith)
      ((c.holding p (path_inside _ p r.path) (omega arith)).key ∙ ap (λ (j : ℕ). word ks j) f ∙ w)

  -- where all slots are taken there is no room for one vertex more
  pub crowded : ((p : ℕ) → p < slot_count v → 0 < held_in slots p) → n ≡ v
  crowded full =
      let a : tally (taken slots) 0 (slot_count v) ≡ slot_count v = tally-all (taken slots) 0 (slot_count v) (λ q x y. lt-ltb 0 (held_in slots q) (full q (omega arith))) in
      omega (arith, c.count, c.room)

  -- ---- one more pair, whose key is not there yet, in the empty slot to which the search for it comes

  module _ (k p : ℕ) (room : n < v) (fits : 2 * p + 1 < length slots) (within : p < slot_count v) (path : Path slots (probe_sequence k (slot_count v)) p) (empty : held_in slots p ≡ 0) (fresh : ¬ In k ks) where
    abbrev new : List ℕ
    new = filled slots p k (n + 1)

    -- what is taken stays so
    stays : (q : ℕ) → 0 < held_in slots q → 0 < held_in new q
    stays q h = rw (held_other slots p k (n + 1) q (λ e. let z : held_in slots q ≡ 0 = rw e empty in omega arith)) h

    path_stays : (order : List ℕ) (s : ℕ) → Path slots order s → Path new order s
    path_stays order s a = record { place = a.place; inside = a.inside; there = a.there; before = λ t h. stays _ (a.before t h) }

    old_key : (i : ℕ) → i < n → word (ks ++ (k ∷ [])) i ≡ word ks i
    old_key i h = get_or-append ks (k ∷ []) 0 i (omega (arith, long))

    last-key : word (ks ++ (k ∷ [])) n ≡ k
    last-key = get_or_at ks k [] 0 n long

    vertex : (i : ℕ) → i < n + 1 → Reached new (probe_sequence (word (ks ++ (k ∷ [])) i) (slot_count v)) i
    vertex i h = go (ℕ_discrete i n)
      where
        go : Dec (i ≡ n) → Reached new (probe_sequence (word (ks ++ (k ∷ [])) i) (slot_count v)) i
        go (yes e) =
            rw (e, last-key)
            (record { slot = p; path = path_stays _ p path; holds = held_new slots p k (n + 1) fits })
        go (no e) =
            let l : i < n = omega arith in
            let r = c.vertex i l in
            rw (old_key i l)
            (record {
              slot = r.slot;
              path = path_stays _ r.slot r.path;
              holds =
                  held_other slots p k (n + 1) r.slot (λ x. let z : held_in slots r.slot ≡ 0 = rw x empty in absurd (omega (arith, r.holds)))
                  ∙ r.holds;
            })

    holding : (q : ℕ) → q < slot_count v → 0 < held_in new q → Holding new (ks ++ (k ∷ [])) (n + 1) q
    holding q h b = go (ℕ_discrete q p)
      where
        go : Dec (q ≡ p) → Holding new (ks ++ (k ∷ [])) (n + 1) q
        go (yes e) =
            let f : n + 1 - 1 ≡ n = omega arith in
            rw e
            (record {
              known = rw (held_new slots p k (n + 1) fits) (omega arith);
              key =
                  key_new slots p k (n + 1) fits
                  ∙ sym (ap (λ (j : ℕ). word (ks ++ (k ∷ [])) (j - 1)) (held_new slots p k (n + 1) fits) ∙ ap (λ (j : ℕ). word (ks ++ (k ∷ [])) j) f ∙ last-key);
            })
        go (no e) =
            let s = held_other slots p k (n + 1) q e in
            let b' : 0 < held_in slots q = omega arith in
            let m = c.holding q h b' in
            record {
              known = omega (arith, m.known);
              key =
                  key_other slots p k (n + 1) q e
                  ∙ m.key
                  ∙ sym (ap (λ (j : ℕ). word (ks ++ (k ∷ [])) (j - 1)) s ∙ old_key (held_in slots q - 1) (omega (arith, m.known)));
            }

    pub more : Slots new (ks ++ (k ∷ [])) v (n + 1)
    more =
        record {
          room = omega arith;
          distinct = distinct_snoc ks k c.distinct fresh;
          vertex = vertex;
          holding = holding;
          count =
              tally_gains (taken slots) (taken new) p (le-ltb 0 (held_in slots p) (omega arith)) (rw (held_new slots p k (n + 1) fits) (lt-ltb 0 (n + 1) (omega arith))) 0 (slot_count v)
              (omega arith) (omega (arith, within)) (λ q x y d. ap (λ (h : ℕ). ltb 0 h) (sym (held_other slots p k (n + 1) q d)))
              ∙ ap (λ (m : ℕ). m + 1) c.count;
        }
