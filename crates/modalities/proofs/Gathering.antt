-- The loop over the transitions of a state: what holds between its turns, at the first, and after the last. Assumes
-- nothing.
use mathlib.Core.Path.{◌≡◌, refl, sym, ap, subst, ◌∙◌}
use mathlib.Core.Bool.{Bool}
use mathlib.Core.List.{List, [], ◌∷◌, ◌++◌, map}
use Prim.Native.Nat.{ℕ, ◌+◌, ◌-◌, ◌≤◌, ◌<◌}
use native.Mathlib.Omega.{arith}
use lib.Dec.{eqb}
use lib.ListN.{length, length-map}
use Rattle.std.specs.declared.result.Result.TheVariants.{Ok, Err}
use Rattle.pairs.specs.declared.NoRoom.{NoRoom}
use Rattle.rules.specs.Lists.{word, from, once}
use Rattle.rules.specs.declared.Room.{Room}
use Rattle.lists.proofs.Ranges.{from-length, in_from}
use Rattle.lists.proofs.Members.{in_map}
use Rattle.settling.specs.declared.Counters.{Counters}
use Rattle.settling.specs.declared.Operand.{Operand}
use Rattle.settling.specs.Made.{Ready, Made, TooMany, tallies, Gathering, Gathered, Raisable}
use Rattle.settling.proofs.Marking.{gathering_none, gathering_marks, gathering_counts, gathered_many}
use Rattle.modalities.specs.Within.{Within}
use Rattle.modalities.specs.Matched.{Spacious, first_moves, answered_keys, answer}
use Rattle.modalities.proofs.Matches.{moves_snoc, moves_split, passing_none, passing_append, passing_most, passing_once}

-- the first i transitions were followed: they have given their targets, each once
pub record Following (answers : List Bool) (labels targets : List ℕ) (room : Room) (many : ℕ) (o : Operand) (w₀ : List ℕ) (c₀ : Counters)
    (w : List ℕ) (c : Counters) (i : ℕ) : Type 0 where
  pub same : length w ≡ length w₀
  pub gathering : Gathering w₀ room.vertices room.edges many c₀ o
      (answered_keys answers o.item (first_moves labels targets i)) w c

module _ (answers : List Bool) (labels targets : List ℕ) (room : Room) (many : ℕ) (o : Operand) (w₀ : List ℕ) (c₀ : Counters) where
  abbrev v : ℕ
  v = room.vertices

  abbrev e : ℕ
  e = room.edges

  abbrev item : ℕ
  item = o.item

  -- the keys that the first transitions give
  abbrev given : ℕ → List ℕ
  given i = answered_keys answers item (first_moves labels targets i)

  pub following_start : (states : ℕ) → Ready w₀ v e c₀ → Spacious w₀ states room many o c₀
      → Following answers labels targets room many o w₀ c₀ w₀ c₀ 0
  unfolding from
  following_start states r k =
      record {
        same = refl;
        gathering =
            subst (λ (l : List ℕ). Gathering w₀ v e many c₀ o l w₀ c₀) (sym (passing_none (answer answers) item))
            (gathering_none w₀ v e many c₀ o r k.marks);
      }

  -- A count is at most the number of the transitions so far, so that it can rise by one. The step has
  -- at most one edge for each state, so that the next one does not meet the marks
  pub following_raisable : (states : ℕ) → Within labels targets states → (w : List ℕ) (c : Counters) (i : ℕ)
      → Following answers labels targets room many o w₀ c₀ w c i → i ≤ length targets → o.start ≡ c₀.edges
      → Spacious w₀ states room many o c₀ → Raisable w v e many o c
  following_raisable states within w c i k h start wide =
      let ms = first_moves labels targets i in
      let as-many : length ms ≡ i =
      length-map (from 0 i) (λ (j : ℕ). (word labels j, word targets j)) ∙ from-length 0 i in
      let short : length (given i) < 4_294_967_295 =
      omega (
        arith,
        passing_most (answer answers) item ms,
        as-many,
        within.few_moves,
      ) in
      let once-few : length (once eqb (given i)) ≤ states =
      passing_once (answer answers) item ms states
      (λ m in-ms.
      let (j, inside, same) = in_map (λ j. (word labels j, word targets j)) m (from 0 i) in-ms in
      let (p, q) = in_from j 0 i inside in
      omega (arith, ap (λ (z : ℕ × ℕ). z.1) same, within.reach j (omega arith))) in
      record {
        marks = gathering_marks w₀ v e many c₀ o (given i) w c k.gathering;
        apart = (
          wide.counted.least,
          λ h. omega (arith, (wide.counted.apart h).1, once-few, k.gathering.made.row_length),
        );
        counts = λ j h l. gathering_counts w₀ v e c₀ (given i) w c short k.gathering.made j (omega (arith, start)) l;
      }

  module _ (w w' : List ℕ) (c : Counters) (i : ℕ) (k : Following answers labels targets room many o w₀ c₀ w c i)
      (target : ℕ) (is : target ≡ word targets i) where
    -- one transition more
    abbrev next : List ℕ
    next = answered_keys answers item ((word labels i, target) ∷ [])

    more : given i ++ next ≡ given (i + 1)
    more =
        ap (λ (j : ℕ). given i ++ answered_keys answers item ((word labels i, j) ∷ [])) is
        ∙ sym (passing_append (answer answers) item (first_moves labels targets i) ((word labels i, word targets i) ∷ []))
        ∙ ap (answered_keys answers item) (sym (moves_snoc labels targets i))

    pub following_on : (c' : Counters) → length w' ≡ length w → Gathered w₀ v e many c₀ o (given i ++ next) w' (Ok c')
        → Following answers labels targets room many o w₀ c₀ w' c' (i + 1)
    following_on c' l b =
        record {
          same = l ∙ k.same;
          gathering = subst (λ (l : List ℕ). Gathering w₀ v e many c₀ o l w' c') more b;
        }

    -- too many at this turn are too many at the end
    pub following_many : (x : NoRoom) → i < length targets → Gathered w₀ v e many c₀ o (given i ++ next) w' (Err x)
        → TooMany w₀ v e c₀ (once eqb (given (length targets)))
    following_many x h b =
        let after : List (ℕ × ℕ) =
        map (λ (j : ℕ). (word labels j, word targets j)) (from (i + 1) (length targets - (i + 1))) in
        let later : List ℕ = answered_keys answers item after in
        let on : i + 1 ≤ length targets = omega (arith, h) in
        subst (λ (l : List ℕ). TooMany w₀ v e c₀ (once eqb l))
        (ap (λ (l : List ℕ). l ++ later) more
        ∙ sym (passing_append (answer answers) item (first_moves labels targets (i + 1)) after)
        ∙ ap (answered_keys answers item) (sym (moves_split labels targets (i + 1) (length targets) on)))
        (gathered_many w₀ v e c₀ (given i ++ next) later b)

  -- the answer where all were followed
  pub following_end : (w : List ℕ) (c : Counters) (i : ℕ) → Following answers labels targets room many o w₀ c₀ w c i
      → i ≡ length targets
      → Made w₀ v e c₀ w c (once eqb (given (length targets))) (tallies (given (length targets)))
  following_end w c i k z =
      subst (λ (y : ℕ). Made w₀ v e c₀ w c (once eqb (given y)) (tallies (given y))) z k.gathering.made
