-- The successors of a line, number by number. Assumes nothing.
use Prim.Native.Nat.{ℕ, ◌+◌, ◌≤◌, ◌<◌}
use native.Mathlib.Omega.{arith}
use mathlib.Core.Path.{◌≡◌, refl, sym, ap, ◌∙◌, subst}
use mathlib.Core.Bool.{Bool, true, false, cond}
use mathlib.Core.List.{List, [], ◌∷◌, ◌++◌, append-nil, append_assoc}
use mathlib.Core.Logic.{inl, inr}
use mathlib.Core.Option.{Option, none, some}
use lib.ListN.{length, length-append}
use borrow.Author.Tests.{eq-eqb, ne_eqb}
use Rattle.rules.specs.Lists.{word, In}
use Rattle.rules.specs.TextReading.{Front, front, with_first, read_byte, read_number, digits_at, no_numeral, then_read}
use Rattle.rules.specs.PgsolverParse.{read_commas, read_list}
use Rattle.game_texts.proofs.Parsing.{some_same, then_some, byte_sound, byte-read}
use Rattle.std.specs.Prelude.{Some, None}
use Rattle.std.specs.Iterator.{MakesProgress, item_count}
use Rattle.pgsolver_scan.specs.declared.Number.{Number}
use Rattle.pgsolver_scan.specs.declared.Successors.{Successors}
use Rattle.pgsolver_scan.specs.Told.{saturated, since, commas_at, past_line, Told, Stands}
use Rattle.pgsolver_scan.specs.Successors.{value_or, list_at, Listed, left, left_from, Goes, GoesFrom, FollowsAt, Gave, Begun}
use Rattle.pgsolver_scan.proofs.Scanning.{since-cons, since_end, byte_here}
use Rattle.pgsolver_scan.proofs.Reading.{number_later, commas_other, list_first}
use Rattle.pgsolver_scan.proofs.Reading.{list_again, when_true, when_false}
use Rattle.pgsolver_scan.proofs.PastLines.{past_other}
use Rattle.pgsolver_scan.proofs.SameLine.{number_line}

-- ---- a number of a list

first_some : (n : ℕ) (m : Option (Front (List ℕ))) (r : Front (List ℕ)) → with_first n m ≡ some r → (s : Front (List ℕ))
    × (m ≡ some s) × (r.value ≡ n ∷ s.value) × (s.rest ≡ r.rest)
unfolding with_first
first_some n none r e = absurd (let z : ◌≡◌ {A = ℕ} 0 1 = cc in omega arith)
first_some n (some s) r e = (
  s,
  refl,
  sym (ap (λ (k : Front (List ℕ)). k.value) (some_same e)),
  ap (λ (k : Front (List ℕ)). k.rest) (some_same e),
)

exactly : (n : ℕ) → n < 1048576 → saturated n ≡ n
unfolding saturated
exactly n h = omega arith

value_of : (m : Option (Front (List ℕ))) (s : Front (List ℕ)) → m ≡ some s → value_or m ≡ s.value
unfolding value_or
value_of m s e = rw e refl

no-list : read_list [] ≡ none
unfolding read_list read_number digits_at no_numeral then_read
no-list = refl

pub list_there : {text : List ℕ} {q : ℕ} → Listed text q → q < length text
list_there {text} {q} l = go (native.Mathlib.Decide.dec_lt q (length text))
  where
    none-at : length text ≤ q → read_list (since text q) ≡ some (front (list_at text q) l.rest) → ⊥
    none-at h e =
        let z : read_list (since text q) ≡ none = ap read_list (since_end text q h)
        ∙ no-list in
        let y : ◌≡◌ {A = ℕ} 0 1 = cc in
        omega arith

    go : Dec (q < length text) → q < length text
    go (yes h) = h
    go (no h) = absurd (none-at (omega arith) l.reads)

module _ {text : List ℕ} {q : ℕ} (l : Listed text q) where
  module _ (v next : ℕ) (a : Told (Some (record { value = v; next = next })) (read_number (since text q)) text) where
    pub list_later : q < next
    list_later =
        let (n, c, s, w) = a in
        number_later text q next n l.within w c

    opened : (n : ℕ) × (v ≡ saturated n)
        × ((s : Front (List ℕ)) × (commas_at text next ≡ some s) × (list_at text q ≡ n ∷ s.value)
        × (s.rest ≡ l.rest))
    opened =
        let (n, c, s, w) = a in
        let (t, d, f, g) = first_some n (commas_at text next) (front (list_at text q) l.rest)
        (sym (list_first text q next n c) ∙ l.reads) in
        (n, s, (t, d, f, g))

    is-first : (n : ℕ) (s : Front (List ℕ)) → v ≡ saturated n → list_at text q ≡ n ∷ s.value → v ≡ n
    is-first n s c f = c ∙ exactly n (l.small n (subst (λ (ns : List ℕ). In n ns) (sym f) (inl refl)))

    pub list_small : v < 1048576
    list_small =
        let (n, c, (s, d, f, o)) = opened in
        subst (λ (x : ℕ). x < 1048576) (sym (is-first n s c f))
        (l.small n (subst (λ (ns : List ℕ). In n ns) (sym f) (inl refl)))

    pub list_head : (ns : List ℕ) × (list_at text q ≡ v ∷ ns)
    list_head =
        let (n, c, (s, d, f, o)) = opened in
        (s.value, f ∙ ap (λ (u : ℕ). u ∷ s.value) (sym (is-first n s c f)))

    module _ {b : Bool} (g : read_byte 44 (since text next) ≡ cond b (some (since text (next + 1))) none) where
      -- a comma: the list goes on behind it
      pub list_more : (b ≡ true → next < length text) → b ≡ true → (list_at text q ≡ v ∷ list_at text (next + 1))
          × Listed text (next + 1)
      list_more k x =
          let (n, c, (s, d, f, o)) = opened in
          let h = k x in
          let y : word text next ≡ 44 = comma h in
          let m : read_list (since text (next + 1)) ≡ some s = sym (list_again text next h y) ∙ d in
          let z : list_at text (next + 1) ≡ s.value = same m in
          let all : list_at text q ≡ v ∷ list_at text (next + 1) = f
          ∙ ap (λ (u : ℕ). u ∷ s.value) (sym (is-first n s c f)) ∙ ap (λ (u : List ℕ). v ∷ u) (sym z) in (
            all,
            record {
              within = omega arith;
              rest = s.rest;
              reads = m ∙ ap (λ (u : List ℕ). some (front u s.rest)) (sym z);
              ended = omega (arith, ap length o, l.ended);
              small = λ u i. l.small u (subst (λ (ns : List ℕ). In u ns) (sym all) (inr i));
            },
          )
        where
          same : {s : Front (List ℕ)} → read_list (since text (next + 1)) ≡ some s → list_at text (next + 1) ≡ s.value
          same {s} m = unfold list_at in value_of (read_list (since text (next + 1))) s m

          comma : next < length text → word text next ≡ 44
          comma h = ap (λ (ts : List ℕ). word ts 0)
              (sym (since-cons text next h)
              ∙ byte_sound 44 (since text next) (since text (next + 1)) (when_true _ _ _ g x))

      -- none: it ends here
      pub list_last : b ≡ false → list_at text q ≡ v ∷ []
      list_last x =
          let (n, c, (s, d, f, o)) = opened in
          let m : some s ≡ some (front [] (since text next)) = sym d ∙ commas_other text next other in
          f ∙ ap (λ (u : ℕ). u ∷ s.value) (sym (is-first n s c f))
          ∙ ap (λ (t : Front (List ℕ)). v ∷ t.value) (some_same m)
        where
          other : next < length text → ¬ (word text next ≡ 44)
          other h y =
              let p : read_byte 44 (since text next) ≡ some (since text (next + 1)) =
              ap (read_byte 44) (since-cons text next h ∙ ap (λ (c : ℕ). c ∷ since text (next + 1)) y)
              ∙ byte-read 44 (since text (next + 1)) in
              let u : read_byte 44 (since text next) ≡ none = when_false _ _ _ g x in
              let z : ◌≡◌ {A = ℕ} 0 1 = cc in
              omega arith

-- ---- the same, of a number that is known to stand there

commas_behind : (ts : List ℕ) (s : Front (List ℕ)) → read_commas (length ts) ts ≡ some s → 1 ≤ length s.rest
    → 1 ≤ length ts
unfolding read_commas
commas_behind [] s e h = absurd (omega (arith, ap (λ (t : Front (List ℕ)). length t.rest) (some_same e)))
commas_behind (c ∷ cs) s e h = omega arith

pub list_stands : {text : List ℕ} {q : ℕ} → Listed text q → Stands text q
unfolding read_list
list_stands {text} {q} l =
    let (n, a, b) = then_some (read_number (since text q)) _ (front (list_at text q) l.rest) l.reads in
    let (s, c, d, e) = first_some n.value (read_commas (length n.rest) n.rest) (front (list_at text q) l.rest)
    b in
    record {
      within = l.within;
      number = n.value;
      rest = n.rest;
      reads = a;
      behind = commas_behind n.rest s c (omega (arith, ap length e, l.ended));
      small = omega (arith, l.small n.value (subst (λ (ns : List ℕ). In n.value ns) (sym d) (inl refl)));
    }

module _ {text : List ℕ} {q : ℕ} (l : Listed text q) (v next : ℕ)
    (a : Told (Some (record { value = v; next = next })) (read_number (since text q)) text) (h : next < length text) where
  -- a comma: the list goes on behind it, on the same line
  pub known_more : word text next ≡ 44 → (list_at text q ≡ v ∷ list_at text (next + 1)) × Listed text (next + 1)
  known_more x =
      list_more l v next a {b = true} (byte_here text next 44 true h (eq-eqb (word text next) 44 x)) (λ y. h) refl

  pub known_last : ¬ (word text next ≡ 44) → list_at text q ≡ v ∷ []
  known_last x =
      list_last l v next a {b = false} (byte_here text next 44 false h (ne_eqb (word text next) 44 x)) refl

  pub known_line : past_line text q ≡ past_line text next
  known_line = number_line text q next a.0 l.within a.3 a.1

  pub comma_behind : word text next ≡ 44 → past_line text q ≡ past_line text (next + 1)
  comma_behind x = known_line ∙ past_other text next h (λ e. omega arith)

-- ---- a number is given

module _ (s : Successors) (place : ℕ) (n : Number) (e : s.at ≡ Some place) (g : Goes s)
    (a : Told (Some n) (read_number (since s.text.now place)) s.text.now) (h : n.next < length s.text.now) where
  here : Listed s.text.now place
  here = subst (GoesFrom s.text.now) e g

  begun : left s ≡ list_at s.text.now place
  begun = ap (left_from s.text.now) e

  -- a comma stands behind it: the list goes on
  module _ (x : word s.text.now n.next ≡ 44) where
    abbrev pub goes_on : Successors
    goes_on = record { text = s.text; at = Some (n.next + 1) }

    more : (list_at s.text.now place ≡ n.value ∷ list_at s.text.now (n.next + 1)) × Listed s.text.now (n.next + 1)
    more = known_more here n.value n.next a h x

    pub gave_more : Gave s n goes_on
    gave_more =
        record {
          place = place;
          at = e;
          within = h;
          first = more.0;
          small = list_small here n.value n.next a;
          text = refl;
          further = list_later here n.value n.next a;
          line = known_line here n.value n.next a h;
          follows = (omega arith, past_other s.text.now n.next h (λ f. omega arith));
        }

    pub more_goes : MakesProgress Goes (item_count left) s (Some n) goes_on
    more_goes =
        record { on = λ _. (more.1, tt, omega (arith, ap length (begun ∙ more.0))); keeps = more.1; rests = λ _. tt }

  -- none: it was the last
  module _ (x : ¬ (word s.text.now n.next ≡ 44)) where
    abbrev pub ends : Successors
    ends = record { text = s.text; at = None }

    last : list_at s.text.now place ≡ n.value ∷ []
    last = known_last here n.value n.next a h x

    pub gave_last : Gave s n ends
    gave_last =
        record {
          place = place;
          at = e;
          within = h;
          first = last;
          small = list_small here n.value n.next a;
          text = refl;
          further = list_later here n.value n.next a;
          line = known_line here n.value n.next a h;
          follows = tt;
        }

    pub last_goes : MakesProgress Goes (item_count left) s (Some n) ends
    last_goes =
        record { on = λ _. (tt, tt, omega (arith, ap length (begun ∙ last))); keeps = tt; rests = λ _. tt }

-- ---- a list is gone over

-- these numbers were given of a list, up to the place `next`
pub record Gone (text : List ℕ) (list : ℕ) (given : List ℕ) (next : ℕ) (s : Successors) : Type 0 where
  pub same : s.text.now ≡ text
  pub all : list_at text list ≡ given ++ left_from text s.at
  pub further : list + length given ≤ next
  pub line : past_line text list ≡ past_line text next
  pub follows : FollowsAt text next s.at

pub gone_none : {text : List ℕ} {list : ℕ} {s : Successors} → Begun s text list → Gone text list [] list s
gone_none {text} {list} {s} (a, b) =
    record {
      same = a;
      all = sym (ap (left_from text) b);
      further = omega arith;
      line = refl;
      follows = subst (FollowsAt text list) (sym b) (omega arith, refl);
    }

module _ {text : List ℕ} {list : ℕ} {given : List ℕ} {next : ℕ} {s : Successors} (g : Gone text list given next s) where
  -- one more
  pub gone_more : {n : Number} {t : Successors} → Gave s n t → Gone text list (given ++ (n.value ∷ [])) n.next t
  gone_more {n} {t} v =
      let same : t.text.now ≡ text = ap (λ u. u.now) v.text ∙ g.same in
      let (on, line) = subst (FollowsAt text next) v.at g.follows in
      let first : list_at text v.place ≡ n.value ∷ left_from text t.at =
      subst (λ u. list_at u v.place ≡ n.value ∷ left_from u t.at) g.same
      (v.first ∙ ap (λ u. n.value ∷ left_from u t.at) (same ∙ sym g.same)) in
      record {
        same = same;
        all = g.all ∙ ap (λ at. given ++ left_from text at) v.at ∙ ap (λ ns. given ++ ns) first
            ∙ sym (append_assoc given (n.value ∷ []) (left_from text t.at));
        further = omega (arith, g.further, on, v.further, length-append given (n.value ∷ []));
        line = g.line ∙ line ∙ subst (λ u. past_line u v.place ≡ past_line u n.next) g.same v.line;
        follows = subst (λ u. FollowsAt u n.next t.at) g.same v.follows;
      }

  -- the whole list
  pub gone_all : s.at ≡ None → list_at text list ≡ given
  gone_all e = g.all ∙ ap (λ at. given ++ left_from text at) e ∙ append-nil given

  -- where one more is given, fewer were given than the text has bytes
  pub gone_few : {n : Number} {t : Successors} → Gave s n t → length given < length text
  gone_few v =
      let (on, line) = subst (FollowsAt text next) v.at g.follows in
      omega (arith, g.further, on, v.further, v.within, ap length g.same)
