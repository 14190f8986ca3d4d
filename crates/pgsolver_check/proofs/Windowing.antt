-- The numbers of the lines, window by window. Assumes nothing.
use Prim.Native.Nat.{ℕ, ◌+◌, ◌≤◌, ◌<◌}
use native.Mathlib.Omega.{arith}
use native.Mathlib.Decide.{dec_lt}
use mathlib.Core.Path.{◌≡◌, refl, sym, ap, ◌∙◌, subst}
use mathlib.Core.Bool.{Bool, true, false}
use mathlib.Core.List.{List, [], ◌∷◌, ◌++◌}
use mathlib.Core.Logic.{inl, inr}
use lib.ListN.{length}
use Rattle.rules.specs.Lists.{In, Distinct}
use Rattle.lists.proofs.Members.{map-append, in_map}
use Rattle.bitmap.specs.Marks.{Holds}
use Rattle.rules.specs.Pgsolver.{SolverLine}
use Rattle.rules.specs.PgsolverReading.{different, numbers_of}
use Rattle.game_texts.proofs.Exact.{different_distinct, distinct_different}
use Rattle.pgsolver_scan.specs.Told.{past_line}
use Rattle.pgsolver_check.specs.Lines.{lines_from, tops_of, Readable}
use Rattle.pgsolver_check.specs.Windows.{Apart, Noted, Again}
use Rattle.pgsolver_check.proofs.Collecting.{Collected, collected_none, collected_twice, collected_more}
use Rattle.pgsolver_check.proofs.Walking.{number_top, Walk, walk_start, walk_done, walk-next, walk_all}
use Rattle.pgsolver_check.proofs.Walking.{walk_more}

-- ---- a pass over the lines

-- the numbers of the lines up to p are noted
pub record Window (text : List ℕ) (first base p : ℕ) (bits : List ℕ) : Type 0 where
  pub walk : Walk text first p
  pub noted : Collected base (numbers_of walk.ls) bits

pub window_start : {text : List ℕ} {first : ℕ} (base : ℕ) {bits : List ℕ} → Readable text first → Holds bits []
    → Window text first base first bits
window_start base r h = record { walk = walk_start r; noted = collected_none base h }

module _ {text : List ℕ} {first base p : ℕ} {bits : List ℕ} (r : Readable text first)
    (w : Window text first base p bits)
    (h : p < length text) (v : ℕ) (given : v ≡ (walk-next r w.walk h).line.number) where
  abbrev ls : List SolverLine
  ls = w.walk.ls

  -- seen before
  pub window_twice : Again base v bits → ¬ Distinct (numbers_of (lines_from text first))
  window_twice x d =
      let n = walk-next r w.walk h in
      collected_twice w.noted v (numbers_of n.later) x
      (subst Distinct (ap numbers_of (walk_all r w.walk h)
      ∙ map-append (λ (l : SolverLine). l.number) ls (n.line ∷ n.later)
      ∙ ap (λ (m : ℕ). numbers_of ls ++ (m ∷ numbers_of n.later)) (sym given)) d)

  numbers : numbers_of (ls ++ ((walk-next r w.walk h).line ∷ [])) ≡ numbers_of ls ++ (v ∷ [])
  numbers =
      map-append (λ (l : SolverLine). l.number) ls ((walk-next r w.walk h).line ∷ [])
      ∙ ap (λ (k : ℕ). numbers_of ls ++ (k ∷ [])) (sym given)

  window_more : {bits' : List ℕ} → Noted base v bits bits' → Window text first base (past_line text p) bits'
  unfolding walk_more
  window_more {bits'} n =
      record {
        walk = walk_more r w.walk h;
        noted = subst (λ (ns : List ℕ). Collected base ns bits') (sym numbers) (collected_more w.noted v n);
      }

  pub window_on : {q : ℕ} {bits' : List ℕ} → q ≡ past_line text p → Noted base v bits bits'
      → Window text first base q bits'
  window_on {bits' = bits'} e n = subst (λ (q : ℕ). Window text first base q bits') (sym e) (window_more n)

pub window_done : {text : List ℕ} {first base p : ℕ} {bits : List ℕ} → Window text first base p bits → length text ≤ p
    → Apart base (numbers_of (lines_from text first))
window_done {base = base} w h =
    subst (λ (ls : List SolverLine). Apart base (numbers_of ls)) (sym (walk_done w.walk h)) w.noted.apart

-- ---- window by window

-- no number below `base` stands twice
abbrev pub Below : ℕ → List ℕ → Type 0
Below base [] = Unit {0}
Below base (n ∷ ns) = (n < base → ¬ In n ns) × Below base ns

pub below_next : (base : ℕ) (ns : List ℕ) → Below base ns → Apart base ns → Below (base + 1048576) ns
below_next base [] b a = tt
below_next base (n ∷ ns) b a = (λ h. go (dec_lt n base) h, below_next base ns b.1 a.1)
  where
    go : Dec (n < base) → n < base + 1048576 → ¬ In n ns
    go (yes k) h = b.0 k
    go (no k) h = a.0 (omega arith) h

pub below_first : (ns : List ℕ) → Apart 0 ns → Below 1048576 ns
below_first ns a = below_next 0 ns (below_none ns) a
  where
    below_none : (ns : List ℕ) → Below 0 ns
    below_none [] = tt
    below_none (n ∷ ns) = (λ h. absurd (omega arith), below_none ns)

below_all : (base : ℕ) (ns : List ℕ) → ((n : ℕ) → In n ns → n < base) → Below base ns → Distinct ns
below_all base [] h b = tt
below_all base (n ∷ ns) h b = (b.0 (h n (inl refl)), below_all base ns (λ m i. h m (inr i)) b.1)

pub all-differ : (ls : List SolverLine) (base highest : ℕ) → tops_of ls ≤ highest → highest < base
    → Below base (numbers_of ls) → true ≡ different (numbers_of ls)
all-differ ls base highest h k b = sym (distinct_different (numbers_of ls) (below_all base (numbers_of ls) small b))
  where
    small : (n : ℕ) → In n (numbers_of ls) → n < base
    small n i =
        let (x, m, e) = in_map (λ (l : SolverLine). l.number) n ls i in
        omega (arith, number_top ls x m)

pub some_same_number : (ns : List ℕ) → ¬ Distinct ns → false ≡ different ns
some_same_number ns h = go (different ns) refl
  where
    go : (b : Bool) → different ns ≡ b → false ≡ different ns
    go true e = absurd (h (different_distinct ns e))
    go false e = sym e
