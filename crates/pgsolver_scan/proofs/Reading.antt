-- Reading fields and lists at a place of the text. Assumes nothing.
use Prim.Native.Nat.{ℕ, zero, suc, ◌+◌, ◌*◌, ◌≤◌, ◌<◌, max}
use native.Mathlib.Omega.{arith}
use native.Mathlib.Decide.{dec_lt}
use mathlib.Core.Path.{◌≡◌, refl, sym, ap, ◌∙◌, subst}
use mathlib.Core.Bool.{Bool, true, false, cond}
use mathlib.Core.List.{List, [], ◌∷◌, ◌++◌}
use mathlib.Core.Option.{Option, none, some}
use lib.ListN.{length, length-drop, length-append}
use lib.Dec.{eqb}
use borrow.Author.Tests.{eq-eqb, ne_eqb}
use Rattle.rules.specs.Lists.{word, largest}
use Rattle.rules.specs.Texts.{decimal}
use Rattle.rules.specs.TextReading.{Front, front, then_read, with_first, read_byte, read_number, read_field}
use Rattle.rules.specs.PgsolverParse.{read_commas, read_list}
use Rattle.game_texts.proofs.Decimals.{decimal_some}
use Rattle.game_texts.proofs.Parsing.{then-read, number_sound}
use Rattle.std.specs.Prelude.{Some, None}
use Rattle.std.specs.declared.option.Option.{Option as Answer}
use Rattle.pgsolver_scan.specs.declared.Number.{Number}
use Rattle.pgsolver_scan.specs.declared.Numbers.{Numbers}
use Rattle.pgsolver_scan.specs.Told.{saturated, since, commas_at, Told, ToldList, ToldMore, Followed}
use Rattle.pgsolver_scan.proofs.Scanning.{since-cons, since_end, field_other, field_some}

pub then_none : {A B : Type 0} {m : Option A} (f : A → Option B) → m ≡ none → then_read m f ≡ none
unfolding then_read
then_none f e = rw e refl

-- one answer or the other
pub when_true : {A : Type 0} (m : Option A) (b : Bool) (x : Option A) → m ≡ cond b x none → b ≡ true → m ≡ x
when_true m b x e f = e ∙ ap (λ (t : Bool). cond t x none) f

pub when_false : {A : Type 0} (m : Option A) (b : Bool) (x : Option A) → m ≡ cond b x none → b ≡ false → m ≡ none
when_false m b x e f = e ∙ ap (λ (t : Bool). cond t x none) f

-- what follows a number stands further on
pub number_later : (text : List ℕ) (p q n : ℕ) → p ≤ length text → q ≤ length text
    → read_number (since text p) ≡ some (front n (since text q)) → p < q
number_later text p q n h k e =
    let spelt = (number_sound (since text p) (front n (since text q)) e).0 in
    omega (
      arith,
      ap length spelt,
      length-append (decimal n) (since text q),
      decimal_some n,
      length-drop p text,
      length-drop q text,
    )

-- ---- a number and a byte

module _ (text : List ℕ) (p c : ℕ) (x : Number) (t : Told (Some x) (read_number (since text p)) text) {b : Bool}
    (f : read_byte c (since text x.next) ≡ cond b (some (since text (x.next + 1))) none) where
  pub field_at : b ≡ true → x.next < length text
      → Told (Some (record { value = x.value; next = x.next + 1 })) (read_field c (since text p)) text
  field_at g h = (
    t.0,
    field_some c (since text p) (front t.0 (since text x.next)) (since text (x.next + 1)) t.1 (when_true _ _ _ f g),
    t.2,
    omega arith,
  )

  pub field_bad : b ≡ false → read_field c (since text p) ≡ none
  field_bad g = field_other c (since text p) (front t.0 (since text x.next)) t.1 (when_false _ _ _ f g)

pub field_followed : (text : List ℕ) (p c : ℕ) (x : Number) → Told (Some x) (read_number (since text p)) text
    → (r : Answer Number) → Followed r x c text → Told r (read_field c (since text p)) text
field_followed text p c x t (Some y) (e, h, f) =
    subst (λ y. Told (Some y) (read_field c (since text p)) text) (sym e) (field_at text p c x t {b = true} f refl h)
field_followed text p c x t None f = field_bad text p c x t {b = false} f refl

-- ---- elements in front

unfoldable pub with_all : List ℕ → Option (Front (List ℕ)) → Option (Front (List ℕ))
with_all [] m = m
with_all (n ∷ ns) m = with_first n (with_all ns m)

pub with_snoc : (ns : List ℕ) (n : ℕ) (m : Option (Front (List ℕ)))
    → with_all (ns ++ (n ∷ [])) m ≡ with_all ns (with_first n m)
unfolding with_all
with_snoc [] n m = refl
with_snoc (k ∷ ns) n m = ap (with_first k) (with_snoc ns n m)

pub with_done : (ns ts : List ℕ) → with_all ns (some (front [] ts)) ≡ some (front ns ts)
unfolding with_all with_first
with_done [] ts = refl
with_done (k ∷ ns) ts = ap (with_first k) (with_done ns ts)

pub with_none : (ns : List ℕ) → with_all ns none ≡ none
unfolding with_all with_first
with_none [] = refl
with_none (k ∷ ns) = ap (with_first k) (with_none ns)

-- ---- the largest

saturated-max : (a b : ℕ) → saturated (max a b) ≡ max (saturated a) (saturated b)
unfolding saturated
saturated-max a b = omega arith

largest_snoc : (ns : List ℕ) (n : ℕ) → largest (ns ++ (n ∷ [])) ≡ max (largest ns) n
unfolding largest
largest_snoc [] n = omega arith
largest_snoc (k ∷ ns) n =
    let e : max k (max (largest ns) n) ≡ max (max k (largest ns)) n = omega arith in
    ap (max k) (largest_snoc ns n) ∙ e

-- ---- numbers with a comma before each

-- so many turns are enough
commas_fuel : (f g : ℕ) (ts : List ℕ) → length ts ≤ f → length ts ≤ g → read_commas f ts ≡ read_commas g ts
unfolding read_commas with_first then_read
commas_fuel zero zero ts h k = refl
commas_fuel zero (suc g) [] h k = refl
commas_fuel zero (suc g) (c ∷ cs) h k = absurd (omega arith)
commas_fuel (suc f) zero [] h k = refl
commas_fuel (suc f) zero (c ∷ cs) h k = absurd (omega arith)
commas_fuel (suc f) (suc g) [] h k = refl
commas_fuel (suc f) (suc g) (c ∷ cs) h k = go (λ us a b. commas_fuel f g us a b) (read_number cs) refl
  where
    go : ((us : List ℕ) → length us ≤ f → length us ≤ g → read_commas f us ≡ read_commas g us) → (m : Option (Front ℕ))
        → read_number cs ≡ m
        → cond (eqb c 44) (then_read (read_number cs) (λ n. with_first n.value (read_commas f n.rest)))
        (some (front [] (c ∷ cs)))
        ≡ cond (eqb c 44) (then_read (read_number cs) (λ n. with_first n.value (read_commas g n.rest)))
        (some (front [] (c ∷ cs)))
    go r none e = rw e refl
    go r (some n) e =
        let l = ap length (number_sound cs n e).0 ∙ length-append (decimal n.value) n.rest in
        rw e
        (ap (λ (m : Option (Front (List ℕ))). cond (eqb c 44) (with_first n.value m) (some (front [] (c ∷ cs))))
        (r n.rest (omega arith) (omega arith)))

module _ (text : List ℕ) (q : ℕ) where
  pub commas_other : (q < length text → ¬ (word text q ≡ 44)) → commas_at text q ≡ some (front [] (since text q))
  unfolding commas_at read_commas
  commas_other f = go (dec_lt q (length text))
    where
      go : Dec (q < length text) → commas_at text q ≡ some (front [] (since text q))
      go (yes h) = rw (since-cons text q h, ne_eqb (word text q) 44 (f h)) refl
      go (no h) = rw (since_end text q (omega arith)) refl

  module _ (h : q < length text) (e : word text q ≡ 44) where
    at_comma : commas_at text q
        ≡ then_read (read_number (since text (q + 1))) (λ n.
        with_first n.value (read_commas (length (since text (q + 1))) n.rest))
    unfolding commas_at read_commas
    at_comma =
        ap (λ (ts : List ℕ). read_commas (length ts) ts) (since-cons text q h) ∙ rw (eq-eqb (word text q) 44 e) refl

    commas_next : (next n : ℕ) → read_number (since text (q + 1)) ≡ some (front n (since text next))
        → commas_at text q ≡ with_first n (commas_at text next)
    unfolding commas_at
    commas_next next n f =
        let spelt = (number_sound (since text (q + 1)) (front n (since text next)) f).0 in
        let l = ap length spelt ∙ length-append (decimal n) (since text next) in
        at_comma ∙ then-read _ (front n (since text next)) f
        ∙ ap (with_first n) (commas_fuel (length (since text (q + 1))) (length (since text next)) (since text next)
        (omega arith) (omega arith))

    commas_broken : read_number (since text (q + 1)) ≡ none → commas_at text q ≡ none
    commas_broken f = at_comma ∙ then_none _ f

-- numbers from p on were read, behind a first number; each takes two bytes or more
pub record Commas (text : List ℕ) (p first : ℕ) (l : Numbers) : Type 0 where
  pub ns : List ℕ
  pub within : l.next ≤ length text
  pub left : commas_at text p ≡ with_all ns (commas_at text l.next)
  pub highest : l.largest ≡ max first (saturated (largest ns))
  pub count : l.listed ≡ suc (length ns)
  pub short : 2 * l.listed ≤ l.next + 2

pub commas_start : (text : List ℕ) (p first : ℕ) → p ≤ length text
    → Commas text p first (record { largest = first; listed = 1; next = p })
unfolding with_all largest saturated
commas_start text p first h =
    record { ns = []; within = h; left = refl; highest = omega arith; count = refl; short = omega arith }

module _ {text : List ℕ} {p first : ℕ} (l : Numbers) (k : Commas text p first l) where
  pub commas_end : (l.next < length text → ¬ (word text l.next ≡ 44))
      → ToldMore (Some l) first (commas_at text p) text
  commas_end f = (
    k.ns,
    k.left ∙ ap (with_all k.ns) (commas_other text l.next f) ∙ with_done k.ns (since text l.next),
    k.highest,
    k.count,
    k.within,
  )

  module _ (h : l.next < length text) (e : word text l.next ≡ 44) where
    pub commas_fail : read_number (since text (l.next + 1)) ≡ none → commas_at text p ≡ none
    commas_fail t = k.left ∙ ap (with_all k.ns) (commas_broken text l.next h e t) ∙ with_none k.ns

    pub commas_more : (x : Number) → Told (Some x) (read_number (since text (l.next + 1))) text
        → Commas text p first (record { largest = max l.largest x.value; listed = l.listed + 1; next = x.next })
    commas_more x (n, a, s, w) =
        let snoc = ap saturated (largest_snoc k.ns n) in
        record {
          ns = k.ns ++ (n ∷ []);
          within = w;
          left =
              k.left ∙ ap (with_all k.ns) (commas_next text l.next h e x.next n a)
              ∙ sym (with_snoc k.ns n (commas_at text x.next));
          highest = omega (arith, k.highest, s, snoc, saturated-max (largest k.ns) n);
          count = omega (arith, k.count, length-append k.ns (n ∷ []));
          short = omega (arith, k.short, number_later text (l.next + 1) x.next n (omega arith) w a);
        }

pub commas_later : (text : List ℕ) (q : ℕ) (x : Number) → q < length text
    → Told (Some x) (read_number (since text (q + 1))) text → q < x.next
commas_later text q x h (n, a, s, w) = omega (arith, number_later text (q + 1) x.next n (omega arith) w a)

-- ---- a list

module _ (text : List ℕ) (p : ℕ) where
  pub list_not : read_number (since text p) ≡ none → read_list (since text p) ≡ none
  unfolding read_list
  list_not t = then_none _ t

  -- the rest of it
  pub list-told : (x : Number) → Told (Some x) (read_number (since text p)) text → (s : Answer Numbers)
      → ToldMore s x.value (commas_at text x.next) text → ToldList s (read_list (since text p)) text
  unfolding read_list with_first largest commas_at
  list-told x (n, b, s, w) (Some l) (ns, a, g, d, z) = (
    n ∷ ns,
    then-read _ (front n (since text x.next)) b ∙ ap (with_first n) a,
    g ∙ omega (arith, s, saturated-max n (largest ns)),
    d,
    z,
  )
  list-told x (n, b, s, w) None a = then-read _ (front n (since text x.next)) b ∙ ap (with_first n) a

-- ---- a list, number by number

pub list_first : (text : List ℕ) (q next n : ℕ) → read_number (since text q) ≡ some (front n (since text next))
    → read_list (since text q) ≡ with_first n (commas_at text next)
unfolding read_list commas_at
list_first text q next n e = then-read _ (front n (since text next)) e

-- after a comma there is a list again
pub list_again : (text : List ℕ) (q : ℕ) → q < length text → word text q ≡ 44
    → commas_at text q ≡ read_list (since text (q + 1))
unfolding read_list
list_again text q h e = at_comma text q h e ∙ go (read_number (since text (q + 1))) refl
  where
    go : (m : Option (Front ℕ)) → read_number (since text (q + 1)) ≡ m
        → then_read (read_number (since text (q + 1))) (λ n.
        with_first n.value (read_commas (length (since text (q + 1))) n.rest))
        ≡ then_read (read_number (since text (q + 1))) (λ n.
        with_first n.value (read_commas (length n.rest) n.rest))
    go none f = then_none _ f ∙ sym (then_none _ f)
    go (some n) f =
        let spelt = (number_sound (since text (q + 1)) n f).0 in
        let l = ap length spelt ∙ length-append (decimal n.value) n.rest in
        then-read _ n f
        ∙ ap (with_first n.value) (commas_fuel (length (since text (q + 1))) (length n.rest) n.rest
        (omega arith) (omega arith))
        ∙ sym (then-read _ n f)
