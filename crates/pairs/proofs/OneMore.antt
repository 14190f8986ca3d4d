-- Numbering a pair: what holds of the words in each case. Assumes nothing.
use Rattle.std.proofs.Common.{◌≡◌, ℕ, ◌+◌, ◌*◌, ◌<◌, eqb, List, [], ◌∷◌, ◌++◌, length, take, drop, set, sym, refl, ap, ◌∙◌, subst, subst₂, arith, lit<, length-append, get_or-set_other, get_or-set_same, drop-set-lt}
use native.Mathlib.Decide.{ℕ_discrete}
use Rattle.std.specs.declared.option.Option.{Option}
use Rattle.std.specs.declared.option.Option.TheVariants.{Some, None}
use Rattle.player.specs.declared.VertexIndex.{VertexIndex}
use Rattle.rules.specs.Lists.{word, In, position, insert}
use Rattle.lists.proofs.Members.{position_out}
use Rattle.lists.proofs.Inserts.{insert_old, insert_new}
use Rattle.lists.proofs.Equalities.{number_equality}
use Rattle.work_slice.specs.Regions.{region, put_word}
use Rattle.work_slice.proofs.Regions.{region_past, region_same, rest_put, length-region}
use Rattle.pairs.specs.declared.Place.{Place}
use Rattle.pairs.specs.declared.Place.TheVariants.{Known, Free}
use Rattle.pairs.specs.Slot.{key_of}
use Rattle.pairs.specs.Table.{slots_of, keys_in, keys_of, Slots, Asks}
use Rattle.pairs.specs.Answers.{Fresh, Finding, Numbers, Full}
use Rattle.pairs.proofs.Parts.{slot_set}
use Rattle.pairs.proofs.Filled.{length-keys_in, keys_in_more, filled, more}

-- ---- a word of the slots becomes another

slots_set : (v i x : ℕ) (w : List ℕ) → i < 3 * v → slots_of (set w i x) v ≡ set (slots_of w v) i x
slots_set v i x w h = ap (λ (l : List ℕ). slots_of l v) (slot_set v i x w) ∙ region_same 0 (3 * v) i x w h

keys_beside : (v i x : ℕ) (w : List ℕ) → i < 3 * v → region 3 v (set w i x) ≡ region 3 v w
unfolding region
keys_beside v i x w h = ap (λ (l : List ℕ). take v l) (drop-set-lt (3 * v) w i x h)

slots_beside : (v i x : ℕ) (w : List ℕ) → i < v → slots_of (put_word 3 v i x w) v ≡ slots_of w v
unfolding put_word
slots_beside v i x w h = region_past 0 (3 * v) (3 * v + i) x w (omega arith)

-- the words after a key k was numbered n in slot p
abbrev pub numbered : List ℕ → (v n k p : ℕ) → List ℕ
numbered w v n k p = put_word 3 v n k (set (set w (2 * p) k) (2 * p + 1) (n + 1))

module _ (w : List ℕ) (v n s q : ℕ) (a : Asks w v n s q) where
  abbrev k : ℕ
  k = key_of s q

  -- what `find` answered is f
  pub there : (f : Option Place) (i : VertexIndex) → Finding w v n k f → f ≡ Some (Known i) → Numbers w w v n k i.0 n
  there f i d e =
      let p : In k (keys_of w v n) × (i.0 ≡ position eqb k (keys_of w v n)) = subst (Finding w v n k) e d in
      let o : insert eqb (keys_of w v n) k ≡ keys_of w v n = insert_old number_equality (keys_of w v n) k p.0 in
      record { keys = sym o; vertex = p.1 ∙ ap (position eqb k) (sym o); table = a.table; rest = refl }

  longer : (¬ In k (keys_of w v n)) → length (insert eqb (keys_of w v n) k) ≡ n + 1
  longer f =
      ap length (insert_new number_equality (keys_of w v n) k f)
      ∙ length-append (keys_of w v n) (k ∷ [])
      ∙ ap (λ (m : ℕ). m + 1) (length-keys_in _ n)

  pub full : (f : Option Place) (p : ℕ) → Finding w v n k f → f ≡ Some (Free p) → n ≡ v → Full w w v n k
  full f p d e h =
      let g : Fresh w v n k p = subst (Finding w v n k) e d in
      record { more = omega (arith, longer g.new); kept = refl }

  pub nowhere_full : (f : Option Place) → Finding w v n k f → f ≡ None → Full w w v n k
  nowhere_full f d e =
      let g : (¬ In k (keys_of w v n)) × (n ≡ v) = subst (Finding w v n k) e d in
      record { more = omega (arith, longer g.0, g.1); kept = refl }

  module _ (room : n < v) (p : ℕ) (f : Fresh w v n k p) where
    low : 2 * p < 3 * v
    low = omega (arith, f.within)

    high : 2 * p + 1 < 3 * v
    high = omega (arith, f.within)

    slots_long : length (slots_of w v) ≡ 3 * v
    slots_long = length-region 0 (3 * v) w (omega (arith, a.whole))

    keys_long : length (region 3 v w) ≡ v
    keys_long = length-region 3 v w (omega (arith, a.whole))

    slots : slots_of (numbered w v n k p) v ≡ filled (slots_of w v) p k (n + 1)
    slots =
        slots_beside v n k _ room
        ∙ slots_set v (2 * p + 1) (n + 1) (set w (2 * p) k) high
        ∙ ap (λ (l : List ℕ). set l (2 * p + 1) (n + 1)) (slots_set v (2 * p) k w low)

    keys_region : region 3 v (numbered w v n k p) ≡ set (region 3 v w) n k
    keys_region =
        region_same 3 v n k _ room
        ∙ ap (λ (l : List ℕ). set l n k) (keys_beside v (2 * p + 1) (n + 1) (set w (2 * p) k) high ∙ keys_beside v (2 * p) k w low)

    keys : keys_of (numbered w v n k p) v (n + 1) ≡ keys_of w v n ++ (k ∷ [])
    keys = ap (λ (x : List ℕ). keys_in x (n + 1)) keys_region ∙ keys_in_more (region 3 v w) n k (omega (arith, keys_long))

    small : (i : ℕ) → i < n + 1 → word (set (region 3 v w) n k) i < 65535 * 2048
    small i h = go (ℕ_discrete i n)
      where
        go : Dec (i ≡ n) → word (set (region 3 v w) n k) i < 65535 * 2048
        go (yes e) = rw e (rw (get_or-set_same (region 3 v w) n k 0 (omega (arith, keys_long))) (omega (arith, a.state_fits, a.item_fits)))
        go (no e) = rw (get_or-set_other (region 3 v w) n i k 0 e) (a.table.small i (omega arith))

    rest : drop (4 * v) (numbered w v n k p) ≡ drop (4 * v) w
    rest =
        rest_put 4 3 v n k _ room (lit< tt)
        ∙ drop-set-lt (4 * v) (set w (2 * p) k) (2 * p + 1) (n + 1) (omega (arith, high))
        ∙ drop-set-lt (4 * v) w (2 * p) k (omega (arith, low))

    added : Numbers w (numbered w v n k p) v n k n (n + 1)
    added =
        let o : insert eqb (keys_of w v n) k ≡ keys_of w v n ++ (k ∷ []) = insert_new number_equality (keys_of w v n) k f.new in
        record {
          keys = keys ∙ sym o;
          vertex = sym (length-keys_in _ n) ∙ sym (position_out number_equality k (keys_of w v n) [] f.new) ∙ ap (position eqb k) (sym o);
          table =
              record {
                slots =
                    subst₂ (λ (x y : List ℕ). Slots x y v (n + 1)) (sym slots) (sym keys)
                    (more _ _ _ _ a.table.slots (length-keys_in _ n) k p room (omega (arith, slots_long, f.within)) f.within f.path f.empty f.new);
                small = rw keys_region small;
              };
          rest = rest;
        }

  -- from what the calls ensure
  pub added_by : (f : Option Place) (p : ℕ) (w₁ : List ℕ) → n < v → Finding w v n k f → f ≡ Some (Free p) → w₁ ≡ numbered w v n k p
      → Numbers w w₁ v n k n (n + 1)
  added_by f p w₁ room d e g = rw g (added room p (subst (Finding w v n k) e d))
