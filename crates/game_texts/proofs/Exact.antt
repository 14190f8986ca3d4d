-- The refusals of #101 one by one: 98, 91 and 92 refuse what they should, and nothing else. Assumes nothing.
use Prim.Native.Nat.{ℕ, zero, suc, ◌+◌, ◌≤◌, ◌<◌}
use native.Mathlib.Omega.{arith}
use mathlib.Core.Path.{◌≡◌, refl, ap, ◌∙◌, subst}
use mathlib.Core.Bool.{Bool, true, false, not, ◌&&◌, true≢false}
use mathlib.Core.List.{List, [], ◌∷◌}
use mathlib.Core.Logic.{inl, inr, ⊎_elim, ◌↔◌}
use mathlib.Core.Option.{Option, none, some}
use lib.ListN.{length, length-map}
use lib.Dec.{eqb, ltb, leb}
use borrow.Author.Tests.{eqb-true, eqb-false, eq-eqb, ne_eqb, leb-true, le-leb, not-true, not-false}
use Rattle.std.specs.declared.result.Result.TheVariants.{Ok}
use Rattle.rules.specs.Answers.{fault}
use Rattle.rules.specs.Lists.{In, Distinct, from, has, every}
use Rattle.rules.specs.Game.{vertex_count, targets_in}
use Rattle.rules.specs.Pgsolver.{SolverLine, SolverText, HasForm}
use Rattle.rules.specs.PgsolverParse.{parse}
use Rattle.rules.specs.PgsolverWriting.{has_successor, refusal98}
use Rattle.rules.specs.PgsolverReading.{all, different, numbers_of, within_highest, refusal92}
use Rattle.lists.proofs.Tests.{and-true}
use Rattle.lists.proofs.Tallies.{every-at, every-all}
use Rattle.lists.proofs.Members.{no_more, no_in, not_in, in_or, in_map}
use Rattle.lists.proofs.Equalities.{number_equality}
use Rattle.lists.proofs.Ranges.{from-length, from_in, in_from}
use Rattle.tables.proofs.Faults.{if-true, if-false, if_passed}
use Rattle.restrictions.proofs.Kept.{from_distinct}
use Rattle.game_texts.specs.GivenOnce.{GivenOnce}
use Rattle.game_texts.proofs.Parsing.{parse_says, says_parse}

-- ---- 98

length_none : (xs : List ℕ) → length xs ≡ 0 → xs ≡ []
length_none [] e = refl
length_none (x ∷ xs) e = absurd (omega arith)

-- every vertex has a successor exactly if 98 passes
pub not_stuck : (g : List ℕ) → refusal98 g ≡ Ok tt → (v : ℕ) → v < vertex_count g → 1 ≤ length (targets_in g v)
unfolding refusal98 has_successor
not_stuck g e v h =
    let k = not-true (eqb (length (targets_in g v)) 0)
    (every-at (has_successor g) 0 (vertex_count g) (not-false _ (if_passed 98 0 _ e)) v (omega arith) (omega arith)) in
    let n : ¬ (length (targets_in g v) ≡ 0) = eqb-false (length (targets_in g v)) 0 k in
    omega arith

pub passes98 : (g : List ℕ) → ((v : ℕ) → v < vertex_count g → ¬ (targets_in g v ≡ [])) → refusal98 g ≡ Ok tt
unfolding refusal98 has_successor
passes98 g h = if-false 98 0 (rw (every-all (has_successor g) 0 (vertex_count g) (λ v a b. held v (omega arith))) refl)
  where
    held : (v : ℕ) → v < vertex_count g → has_successor g v ≡ true
    held v k = rw (ne_eqb (length (targets_in g v)) 0 (λ e. h v k (length_none (targets_in g v) e))) refl

-- ---- a game that has a vertex without successors, and one that is refused for that

not_every : (f : ℕ → Bool) (n : ℕ) → every f 0 n ≡ false → (v : ℕ) × (v < n) × (f v ≡ false)
unfolding every
not_every f zero e = absurd (true≢false e)
not_every f (suc n) e = go (every f 0 n) refl (λ k. not_every f n k) e
  where
    go : (b : Bool) → every f 0 n ≡ b → (every f 0 n ≡ false → (v : ℕ) × (v < n) × (f v ≡ false))
        → (b && f (0 + n)) ≡ false
        → (v : ℕ) × (v < suc n) × (f v ≡ false)
    go true t r e = let q : 0 + n ≡ n = omega arith in (n, omega arith, subst (λ (m : ℕ). f m ≡ false) q e)
    go false t r e = let (v, h, k) = r t in (v, omega arith, k)

pub stuck : (g : List ℕ) → every (has_successor g) 0 (vertex_count g) ≡ false
    → (v : ℕ) × (v < vertex_count g) × (targets_in g v ≡ [])
unfolding has_successor
stuck g e =
    let (v, h, k) = not_every (has_successor g) (vertex_count g) e in
    (v, h, length_none (targets_in g v) (eqb-true (length (targets_in g v)) 0 (not-false _ k)))

pub stuck_refused : (g : List ℕ) (v : ℕ) → v < vertex_count g → targets_in g v ≡ [] → refusal98 g ≡ fault 98 0
stuck_refused g v h s = go (every (has_successor g) 0 (vertex_count g)) refl
  where
    go : (b : Bool) → every (has_successor g) 0 (vertex_count g) ≡ b → refusal98 g ≡ fault 98 0
    go true e =
        let k : length (targets_in g v) ≡ 0 = ap length s in
        absurd (omega (arith, k, not_stuck g (passing e) v h))
      where
        passing : every (has_successor g) 0 (vertex_count g) ≡ true → refusal98 g ≡ Ok tt
        passing e = unfold refusal98 in if-false 98 0 (ap not e)
    go false e = unfold refusal98 in if-true 98 0 (ap not e)

-- ---- 91

pub formless_none : (bytes : List ℕ) → (parse bytes ≡ none) ↔ ((t : SolverText) → ¬ HasForm bytes t)
formless_none bytes = (λ e t s. differ e (says_parse bytes t s), λ h. go (parse bytes) refl h)
  where
    differ : {m : Option SolverText} {t : SolverText} → m ≡ none → m ≡ some t → ⊥
    differ e f = let z : ◌≡◌ {A = ℕ} 0 1 = cc in omega arith

    go : (m : Option SolverText) → parse bytes ≡ m → ((t : SolverText) → ¬ HasForm bytes t) → parse bytes ≡ none
    go none e h = e
    go (some t) e h = absurd (h t (parse_says bytes t e))

-- ---- 92

pub all_holds : {A : Type 0} (f : A → Bool) (xs : List A) → all f xs ≡ true → (x : A) → In x xs → f x ≡ true
unfolding all
all_holds f [] e x i = absurd i
all_holds f (y ∷ xs) e x (inl p) = ap f p ∙ (and-true (f y) (all f xs) e).0
all_holds f (y ∷ xs) e x (inr i) = all_holds f xs (and-true (f y) (all f xs) e).1 x i

pub all_made : {A : Type 0} (f : A → Bool) (xs : List A) → ((x : A) → In x xs → f x ≡ true) → all f xs ≡ true
unfolding all
all_made f [] h = refl
all_made f (y ∷ xs) h = rw (h y (inl refl), all_made f xs (λ x i. h x (inr i))) refl

pub all_not : {A : Type 0} (f : A → Bool) (xs : List A) → all f xs ≡ false → (x : A) × In x xs × (f x ≡ false)
unfolding all
all_not {A = A} f [] e = absurd (true≢false e)
all_not {A = A} f (y ∷ xs) e = go (f y) refl (λ k. all_not f xs k) e
  where
    go : (b : Bool) → f y ≡ b → (all f xs ≡ false → (x : A) × In x xs × (f x ≡ false)) → (b && all f xs) ≡ false
        → (x : A) × In x (y ∷ xs) × (f x ≡ false)
    go true t r e = let (x, i, k) = r e in (x, inr i, k)
    go false t r e = (y, inl refl, t)

pub different_distinct : (ns : List ℕ) → different ns ≡ true → Distinct ns
unfolding different
different_distinct [] e = tt
different_distinct (n ∷ ns) e =
    let (a, b) = and-true (not (has eqb n ns)) (different ns) e in
    (no_in number_equality n ns (not-true (has eqb n ns) a), different_distinct ns b)

pub distinct_different : (ns : List ℕ) → Distinct ns → different ns ≡ true
unfolding different
distinct_different [] d = refl
distinct_different (n ∷ ns) d = rw (not_in number_equality n ns d.0, distinct_different ns d.1) refl

pub within_holds : (h : ℕ) (l : SolverLine) → within_highest h l ≡ true
    → (l.number ≤ h) × ((s : ℕ) → In s l.successors → s ≤ h)
unfolding within_highest
within_holds h l e =
    let (a, b) = and-true (leb l.number h) (all (λ s. leb s h) l.successors) e in
    (leb-true l.number h a, λ s i. leb-true s h (all_holds (λ s. leb s h) l.successors b s i))

within_made : (h : ℕ) (l : SolverLine) → l.number ≤ h → ((s : ℕ) → In s l.successors → s ≤ h)
    → within_highest h l ≡ true
unfolding within_highest
within_made h l a b =
    rw (le-leb l.number h a, all_made (λ s. leb s h) l.successors (λ s i. le-leb s h (b s i))) refl

-- the two tests: 92 has what does not pass the first, 93 a priority that does not pass the second
abbrev pub numbered : SolverText → Bool
numbered t =
    eqb (length t.lines) (suc t.highest)
    && (all (within_highest t.highest) t.lines && different (numbers_of t.lines))

abbrev pub in_word : SolverLine → Bool
in_word l = ltb l.priority 4_294_967_296

pub record Passes92 (t : SolverText) : Type 0 where
  pub long : length t.lines ≡ suc t.highest
  pub inside : (l : SolverLine) → In l t.lines
      → (l.number ≤ t.highest) × ((s : ℕ) → In s l.successors → s ≤ t.highest)
  pub apart : Distinct (numbers_of t.lines)

pub passed92 : (t : SolverText) → refusal92 t ≡ Ok tt → Passes92 t
unfolding refusal92
passed92 t e =
    let (a, b) = and-true (eqb (length t.lines) (suc t.highest)) _ (not-false _ (if_passed 92 0 _ e)) in
    let (c, d) = and-true (all (within_highest t.highest) t.lines) (different (numbers_of t.lines)) b in
    record {
      long = eqb-true (length t.lines) (suc t.highest) a;
      inside = λ l i. within_holds t.highest l (all_holds (within_highest t.highest) t.lines c l i);
      apart = different_distinct (numbers_of t.lines) d;
    }

pub passes92 : (t : SolverText) → Passes92 t → refusal92 t ≡ Ok tt
unfolding refusal92
passes92 t p =
    if-false 92 0
    (rw (
      eq-eqb (length t.lines) (suc t.highest) p.long,
      all_made (within_highest t.highest) t.lines
          (λ l i. within_made t.highest l (p.inside l i).0 (p.inside l i).1),
      distinct_different (numbers_of t.lines) p.apart,
    ) refl)

-- the vertices are among the numbers up to the highest
inside_range : (t : SolverText) → ((l : SolverLine) → In l t.lines → l.number ≤ t.highest) → (v : ℕ)
    → In v (numbers_of t.lines) → In v (from 0 (suc t.highest))
inside_range t h v i =
    let (l, m, e) = in_map (λ (l : SolverLine). l.number) v t.lines i in
    let k = h l m in
    from_in v 0 (suc t.highest) (omega arith) (omega arith)

-- so none is missing
pub none-missing : (t : SolverText) → Passes92 t → (v : ℕ) → v ≤ t.highest → In v (numbers_of t.lines)
none-missing t p v h = ⊎_elim (λ i. i) (λ n. absurd (more n)) (in_or number_equality v (numbers_of t.lines))
  where
    inside : (u : ℕ) → In u (v ∷ numbers_of t.lines) → In u (from 0 (suc t.highest))
    inside u (inl e) = from_in u 0 (suc t.highest) (omega arith) (omega arith)
    inside u (inr i) = inside_range t (λ l m. (p.inside l m).0) u i

    more : (¬ In v (numbers_of t.lines)) → ⊥
    more n =
        let k = no_more (v ∷ numbers_of t.lines) (from 0 (suc t.highest)) (n, p.apart) inside in
        omega (arith, k, from-length 0 (suc t.highest), length-map t.lines (λ l. l.number), p.long)

pub refusal92_exact : (t : SolverText) → (refusal92 t ≡ Ok tt) ↔ GivenOnce t
refusal92_exact t = (λ e. right (passed92 t e), λ n. passes92 t (passing n))
  where
    right : Passes92 t → GivenOnce t
    right p =
        record {
          given = none-missing t p;
          once = p.apart;
          below = λ l i. (p.inside l i).0;
          leads = λ l i. (p.inside l i).1;
        }

    holds : GivenOnce t → (v : ℕ) → In v (from 0 (suc t.highest)) → In v (numbers_of t.lines)
    holds n v i = n.given v (omega (arith, (in_from v 0 (suc t.highest) i).1))

    passing : GivenOnce t → Passes92 t
    passing n =
        let a = no_more (numbers_of t.lines) (from 0 (suc t.highest)) n.once (inside_range t n.below) in
        let b = no_more (from 0 (suc t.highest)) (numbers_of t.lines) (from_distinct 0 (suc t.highest))
        (holds n) in
        record {
          long = omega (arith, a, b, from-length 0 (suc t.highest), length-map t.lines (λ l. l.number));
          inside = λ l i. (n.below l i, n.leads l i);
          apart = n.once;
        }
