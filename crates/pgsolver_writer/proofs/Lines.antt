-- The line of a vertex of a game that can be written: where its successors stand, what the line is made of, and which
-- games have such lines. Assumes nothing.
use mathlib.Core.Path.{◌≡◌, refl, sym, ap, ◌∙◌}
use mathlib.Core.Bool.{Bool, true, false, not}
use mathlib.Core.List.{List, [], ◌∷◌, ◌++◌}
use Prim.Native.Nat.{ℕ, suc, ◌+◌, ◌≤◌, ◌<◌}
use native.Mathlib.Omega.{arith}
use lib.ListN.{length, length-append, get_or}
use lib.Dec.{eqb}
use Rattle.std.specs.declared.result.Result.TheVariants.{Ok}
use Rattle.std.specs.Bool.{MatchBool}
use Rattle.std.specs.List.{AllWithin, HoldsAt, range_with_len}
use Rattle.std.proofs.lemmas.List.FromFn.{length-range_with_len, get_or-range_with_len}
use Rattle.lists.proofs.Tallies.{every-at, every-all}
use Rattle.rules.specs.Answers.{Check, fault_if}
use Rattle.rules.specs.Lists.{word, In, once, every}
use Rattle.rules.specs.Game.{vertex_count, owner_in, priority_in, targets_in}
use Rattle.rules.specs.GameRefusal.{game_refusal}
use Rattle.rules.specs.Texts.{decimal}
use Rattle.rules.specs.Pgsolver.{name_text, line_text}
use Rattle.rules.specs.PgsolverWriting.{line_in, has_successor, refusal98, writing_refusal}
use Rattle.tables.proofs.Faults.{then_both}
use Rattle.lists.proofs.Inserts.{once_in}
use Rattle.lists.proofs.Members.{in_at}
use Rattle.lists.proofs.Equalities.{number_equality}
use Rattle.restrictions.specs.GoodGame.{GoodGame}
use Rattle.restrictions.proofs.Accepted.{good_game, most_offset, degree, target_below}
use Rattle.game_texts.proofs.Exact.{not_stuck}
use Rattle.parity_game.specs.Readable.{Readable}
use Rattle.pgsolver_writer.specs.Lines.{line_by}
use Rattle.pgsolver_writer.specs.Successors.{Writable, spaced_list, Vertices}
use Rattle.pgsolver_writer.proofs.Lists.{spaced-list}

-- ---- which games are not refused

pub writable : (g : List ℕ) → ((i : ℕ) → word g i < 4_294_967_296) → writing_refusal g ≡ Ok tt → Writable g
unfolding writing_refusal
writable g words e =
    let (a, b) = then_both (game_refusal g) (refusal98 g) e in
    record { good = good_game g a; leads = not_stuck g b; words = words }

-- ---- the successors of a vertex

module _ (g : List ℕ) (good : GoodGame g) where
  -- a game that is not refused can be read
  pub readable : Readable g
  readable =
      record {
        few = good.few;
        few_edges = good.light;
        inside = omega (arith, good.sized);
        rises = good.rises;
        ends = good.ends;
      }

  pub successors_vertices : (v : ℕ) → v < vertex_count g → Vertices (targets_in g v)
  successors_vertices v below =
      record {
        small = λ i h. small i h;
        few = omega (arith, degree g good v below, most_offset g good (suc v) below, good.light);
      }
    where
      small : (i : ℕ) → i < length (targets_in g v) → word (targets_in g v) i < 1_048_576
      small i h =
          omega (
            arith,
            target_below g good v below (word (targets_in g v) i) (in_at (targets_in g v) i 0 h),
            good.few,
          )

-- whether a test holds at each place below n, as a search among them says
every_searched : (f : ℕ → Bool) (n : ℕ) (r : Bool)
    → MatchBool r (AllWithin (λ i. f i ≡ true) (range_with_len 0 n) 0 (length (range_with_len 0 n)))
    ((k : ℕ) × (k < length (range_with_len 0 n)) × HoldsAt (λ i. f i ≡ false) (range_with_len 0 n) k)
    → r ≡ every f 0 n
every_searched f n true all =
    sym (every-all f 0 n
    (λ q a b. let e : get_or (range_with_len 0 n) q 0 ≡ q = get_or-range_with_len 0 n q 0 (omega arith) ∙ omega arith in
    ap f (sym e) ∙ all q 0 (omega arith) (omega (arith, length-range_with_len 0 n))))
every_searched f n false (k, l, none) = go (every f 0 n) refl
  where
    e : get_or (range_with_len 0 n) k 0 ≡ k
    e = get_or-range_with_len 0 n k 0 (omega (arith, length-range_with_len 0 n)) ∙ omega arith

    go : (t : Bool) → every f 0 n ≡ t → false ≡ t
    go true h = sym (ap f (sym e) ∙ none 0) ∙ every-at f 0 n h k (omega arith) (omega (arith, length-range_with_len 0 n))
    go false h = refl

-- 98 goes by whether each vertex below so many has a successor
pub successors_searched : (g : List ℕ) (n : ℕ) (r : Bool) (check : Check) → n ≡ vertex_count g
    → check ≡ fault_if 98 0 (not r)
    → MatchBool r (AllWithin (λ v. has_successor g v ≡ true) (range_with_len 0 n) 0 (length (range_with_len 0 n)))
    ((k : ℕ) × (k < length (range_with_len 0 n)) × HoldsAt (λ v. has_successor g v ≡ false) (range_with_len 0 n) k)
    → check ≡ refusal98 g
unfolding refusal98
successors_searched g n r check many said found =
    said ∙ ap (λ (b : Bool). fault_if 98 0 (not b))
    (every_searched (has_successor g) n r found ∙ ap (every (has_successor g) 0) many)

-- ---- the line of a vertex

once_some : (xs : List ℕ) → 1 ≤ length xs → 1 ≤ length (once eqb xs)
once_some xs h = go (once eqb xs) ((once_in number_equality xs (word xs 0)).1 (in_at xs 0 0 h))
  where
    go : (ys : List ℕ) → In (word xs 0) ys → 1 ≤ length ys
    go [] i = absurd i
    go (y ∷ ys) i = omega arith

pub line_parts : (g : List ℕ) → Writable g → (v : ℕ) → v < vertex_count g
    → line_by v (priority_in g v) (owner_in g v) (targets_in g v) ≡ line_text (line_in g v)
unfolding line_text line_in name_text line_by
line_parts g w v below =
    let list = spaced-list (once eqb (targets_in g v)) (once_some (targets_in g v) (w.leads v below)) in
    rw (sym list) refl

pub line_size : (number priority owner : ℕ) (targets : List ℕ)
    → length (line_by number priority owner targets)
    ≡ length (decimal number) + length (decimal priority) + length (decimal owner)
    + length (spaced_list (once eqb targets)) + 4
unfolding line_by
line_size number priority owner targets =
    let list = spaced_list (once eqb targets) in
    let line_end : List ℕ = 59 ∷ 10 ∷ [] in
    omega (
      arith,
      length-append (decimal number) ((32 ∷ decimal priority) ++ ((32 ∷ decimal owner) ++ (list ++ line_end))),
      length-append (decimal priority) ((32 ∷ decimal owner) ++ (list ++ line_end)),
      length-append (decimal owner) (list ++ line_end),
      length-append list line_end,
    )
