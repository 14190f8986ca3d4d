-- The places of the lines, posted where owner and priority of their vertices will stand. Assumes nothing.
use Prim.Native.Nat.{ℕ, ◌+◌, ◌*◌, ◌/◌, ◌%◌, ◌≤◌, ◌<◌}
use native.Mathlib.Omega.{arith}
use mathlib.Core.Path.{◌≡◌, refl, sym, ap, ◌∙◌, subst}
use mathlib.Core.List.{List, [], ◌∷◌, ◌++◌}
use mathlib.Core.Logic.{◌⊎◌, inl, inr}
use lib.ListN.{length, set, length-set}
use lib.Seq.{get_or-set_same, get_or-set_other}
use Rattle.rules.specs.Lists.{word, In, Distinct}
use Rattle.rules.specs.Pgsolver.{SolverLine}
use Rattle.rules.specs.TextReading.{read_field}
use Rattle.rules.specs.PgsolverReading.{numbers_of}
use Rattle.lists.proofs.Members.{in_either, in_left, in_right, map_in}
use Rattle.std.specs.Prelude.{Some}
use Rattle.pgsolver_scan.specs.Told.{since, past_line, Told, StandsField}
use Rattle.pgsolver_check.specs.Lines.{lines_in, Body}
use Rattle.pgsolver_check.proofs.Walking.{number_top, Walk, walk_start, walk_done, walk-next, walk_all, walk_later}
use Rattle.pgsolver_check.proofs.Walking.{walk_more, walk_number}
use Rattle.pgsolver_reader.specs.Parts.{Whole, Begins, Turn, column_at, edges_begin, post_at, Posted, LinesPosted}
use Rattle.pgsolver_scan.proofs.SameLine.{field-line}
use Rattle.pgsolver_reader.proofs.Standing.{line_among, number_stands}

-- ---- places

module _ (game : List ℕ) (n v a b : ℕ) (below : v < n) (long : edges_begin n ≤ length game) where
  abbrev after : List ℕ
  after = set (set game (column_at n 0 + v) a) (column_at n 1 + v) b

  post_same : post_at after n v ≡ a + 4294967296 * b
  post_same =
      let x : word after (column_at n 0 + v) ≡ a
      = get_or-set_other (set game (column_at n 0 + v) a) (column_at n 1 + v) (column_at n 0 + v) b 0 (omega arith)
      ∙ get_or-set_same game (column_at n 0 + v) a 0 (omega arith) in
      let y : word after (column_at n 1 + v) ≡ b
      = get_or-set_same (set game (column_at n 0 + v) a) (column_at n 1 + v) b 0
      (omega (arith, length-set game (column_at n 0 + v) a)) in
      omega arith

  post_other : (u : ℕ) → u < n → ¬ (u ≡ v) → post_at game n u ≡ post_at after n u
  post_other u h d =
      let x : word after (column_at n 0 + u) ≡ word game (column_at n 0 + u)
      = get_or-set_other (set game (column_at n 0 + v) a) (column_at n 1 + v) (column_at n 0 + u) b 0 (omega arith)
      ∙ get_or-set_other game (column_at n 0 + v) (column_at n 0 + u) a 0 (λ e. d (omega arith)) in
      let y : word after (column_at n 1 + u) ≡ word game (column_at n 1 + u)
      = get_or-set_other (set game (column_at n 0 + v) a) (column_at n 1 + v) (column_at n 1 + u) b 0 (λ e. d (omega arith))
      ∙ get_or-set_other game (column_at n 0 + v) (column_at n 1 + u) a 0 (omega arith) in
      omega arith

-- ---- the pass

pub record Posting (text : List ℕ) (first n p : ℕ) (game : List ℕ) : Type 0 where
  pub walk : Walk text first p
  pub long : edges_begin n ≤ length game
  pub posted : (l : SolverLine) → In l walk.ls → Posted text n game l.number

pub posting_start : {text : List ℕ} {first n : ℕ} (game : List ℕ) → Begins text first → edges_begin n ≤ length game
    → Posting text first n first game
posting_start game b h = record { walk = walk_start b.readable; long = h; posted = λ l i. absurd i }

-- a number of the lines before is another number
not_again : (ls : List SolverLine) (x : SolverLine) (ms : List SolverLine) (l : SolverLine)
    → Distinct (numbers_of (ls ++ (x ∷ ms))) → In l ls → ¬ (l.number ≡ x.number)
not_again [] x ms l d i e = i
not_again (k ∷ ls) x ms l d (inl f) e =
    d.0
    (subst (λ (n : ℕ). In n (numbers_of (ls ++ (x ∷ ms)))) (sym e ∙ ap (λ (z : SolverLine). z.number) f)
    (map_in (λ (z : SolverLine). z.number) x (ls ++ (x ∷ ms)) (in_right x ls (x ∷ ms) (inl refl))))
not_again (k ∷ ls) x ms l d (inr i) e = not_again ls x ms l d.1 i e

module _ {text : List ℕ} {first n p : ℕ} {game : List ℕ} (w : Whole text n) (b : Begins text first)
    (k : Posting text first n p game) (h : p < length text) where
  pub posting_stands : StandsField text p
  posting_stands = number_stands b k.walk h w

  module _ (v q : ℕ) (a : Told (Some (record { value = v; next = q })) (read_field 32 (since text p)) text) where
    abbrev x : SolverLine
    x = (walk-next b.readable k.walk h).line

    abbrev told : (v ≡ x.number) × (q ≤ length text) × Body (since text q) x
    told = walk_number b.readable k.walk h (record { value = v; next = q }) a

    all : lines_in text ≡ k.walk.ls ++ (x ∷ (walk-next b.readable k.walk h).later)
    all = sym b.lines ∙ walk_all b.readable k.walk h

    pub posting_below : v < n
    posting_below = omega (arith, told.0, number_top (lines_in text) x (line_among b k.walk h), w.low)

    past : past_line text p ≡ past_line text q
    past = field-line text p q a.0 (omega arith) a.3 a.1

    pub posting_later : p + 2 ≤ past_line text q
    posting_later = omega (arith, past, walk_later b.readable k.walk h)

    pub posting_more : {game' : List ℕ} {next : ℕ}
        → game' ≡ set (set game (column_at n 0 + v) (q % 4294967296)) (column_at n 1 + v) (q / 4294967296)
        → next ≡ past_line text q → Posting text first n next game'
    unfolding walk_more
    posting_more {game'} {next} f g =
        subst (λ (z : ℕ). Posting text first n z game') (past ∙ sym g)
        (subst (Posting text first n (past_line text p)) (sym f)
        (record {
          walk = walk_more b.readable k.walk h;
          long = omega (
            arith,
            k.long,
            length-set (set game (column_at n 0 + v) low) (column_at n 1 + v) high,
            length-set game (column_at n 0 + v) low,
          );
          posted = λ l i. both l (in_either l k.walk.ls (x ∷ []) i);
        }))
      where
        low : ℕ
        low = q % 4294967296

        high : ℕ
        high = q / 4294967296

        posted : List ℕ
        posted = set (set game (column_at n 0 + v) (q % 4294967296)) (column_at n 1 + v) (q / 4294967296)

        place : post_at (set (set game (column_at n 0 + v) (q % 4294967296)) (column_at n 1 + v) (q / 4294967296)) n v ≡ q
        place =
            post_same game n v (q % 4294967296) (q / 4294967296) posting_below k.long
            ∙ (let z : q % 4294967296 + 4294967296 * (q / 4294967296) ≡ q = omega arith in z)

        both : (l : SolverLine) → In l k.walk.ls ⊎ In l (x ∷ [])
            → Posted text n (set (set game (column_at n 0 + v) (q % 4294967296)) (column_at n 1 + v) (q / 4294967296))
            l.number
        both l (inl i) =
            let j : In l (lines_in text)
            = subst (λ (z : List SolverLine). In l z) (sym all)
            (in_left l k.walk.ls (x ∷ (walk-next b.readable k.walk h).later) i) in
            subst (Turn text l.number)
            (post_other game n v (q % 4294967296) (q / 4294967296) posting_below k.long l.number
            (omega (arith, number_top (lines_in text) l j, w.low))
            (λ d. not_again k.walk.ls x (walk-next b.readable k.walk h).later l
            (subst (λ (z : List SolverLine). Distinct (numbers_of z)) all w.apart) i (d ∙ told.0)))
            (k.posted l i)
        both l (inr (inl d)) =
            subst (λ (u : ℕ). Turn text l.number u) (sym at)
            (record {
              line = x;
              within = told.1;
              body = told.2;
              among = line_among b k.walk h;
              number = ap (λ (z : SolverLine). z.number) (sym d);
            })
          where
            at : post_at (set (set game (column_at n 0 + v) (q % 4294967296)) (column_at n 1 + v) (q / 4294967296)) n
                l.number ≡ q
            at =
                let z : l.number ≡ v = ap (λ (z : SolverLine). z.number) d ∙ sym told.0 in
                ap (λ (u : ℕ). post_at
                (set (set game (column_at n 0 + v) (q % 4294967296)) (column_at n 1 + v) (q / 4294967296)) n u) z
                ∙ place
        both l (inr (inr z)) = absurd z

pub posting_done : {text : List ℕ} {first n p : ℕ} {game : List ℕ} → Begins text first → Posting text first n p game
    → length text ≤ p → LinesPosted text n game
posting_done b k h =
    record {
      posted = λ l i. k.posted l
          (subst (λ (z : List SolverLine). In l z) (sym b.lines ∙ walk_done k.walk h) i);
    }
