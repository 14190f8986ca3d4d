-- The text of a game that is not refused in writing has the form and says the game; its lines number the vertices as 92
-- wants it, and give the game's vertices with each edge once. Assumes nothing.
use Prim.Native.Nat.{ℕ, zero, suc, ◌+◌, ◌-◌, ◌≤◌, ◌<◌}
use native.Mathlib.Omega.{arith}
use native.Mathlib.Decide.{ℕ_discrete}
use mathlib.Core.Path.{◌≡◌, refl, sym, ap, ap₂, ◌∙◌, subst}
use mathlib.Core.List.{List, [], ◌∷◌, map}
use lib.ListN.{length, length-map}
use lib.Dec.{eqb}
use borrow.Author.Tests.{eq-eqb, ne_eqb}
use Rattle.std.specs.declared.result.Result.TheVariants.{Ok}
use Rattle.rules.specs.Lists.{word, In, Distinct, from, once}
use Rattle.rules.specs.Game.{vertex_count, owner_in, priority_in, targets_in}
use Rattle.rules.specs.Pgsolver.{SolverLine, ProperLine, HasForm}
use Rattle.rules.specs.PgsolverWriting.{line_in, text_in, game_text, writing_refusal}
use Rattle.rules.specs.PgsolverReading.{text_vertex, vertex_of, vertex_named, read_vertices, numbers_of}
use Rattle.lists.proofs.Members.{in_map, in_at}
use Rattle.lists.proofs.Inserts.{once_in, once_distinct, inserts_new}
use Rattle.lists.proofs.Equalities.{number_equality}
use Rattle.lists.proofs.Ranges.{from-length, in_from}
use Rattle.tables.proofs.Faults.{then_both}
use Rattle.games.proofs.Columns.{map_same}
use Rattle.restrictions.specs.GoodGame.{GoodGame}
use Rattle.restrictions.proofs.Accepted.{good_game, target_below}
use Rattle.restrictions.proofs.Kept.{from_distinct}
use Rattle.game_texts.specs.Repeats.{vertex_once, without_repeats}
use Rattle.game_texts.proofs.Exact.{not_stuck, Passes92}

-- ---- lists

-- each once, twice
pub once_distinct_same : (xs : List ℕ) → Distinct xs → once eqb xs ≡ xs
once_distinct_same xs d = unfold once in inserts_new number_equality [] xs d (λ y i n. n)

pub once_once : (xs : List ℕ) → once eqb (once eqb xs) ≡ once eqb xs
once_once xs = once_distinct_same (once eqb xs) (once_distinct number_equality xs)

pub once_some : (xs : List ℕ) → 1 ≤ length xs → 1 ≤ length (once eqb xs)
once_some xs h = go (once eqb xs) ((once_in number_equality xs (word xs 0)).1 (in_at xs 0 0 h))
  where
    go : (ys : List ℕ) → In (word xs 0) ys → 1 ≤ length ys
    go [] j = absurd j
    go (y ∷ ys) j = omega arith

-- ---- the lines

-- the vertex that a line of the text gives
vertex_said : (g : List ℕ) (v : ℕ) → vertex_of (line_in g v) ≡ vertex_once g v
unfolding line_in vertex_of vertex_once text_vertex
vertex_said g v = ap (text_vertex (owner_in g v) (priority_in g v)) (once_once (targets_in g v))

line_named : (g : List ℕ) (i n v : ℕ) → i ≤ v → v < i + n
    → vertex_named (map (line_in g) (from i n)) v ≡ vertex_of (line_in g v)
unfolding vertex_named from line_in
line_named g i zero v h k = absurd (omega arith)
line_named g i (suc n) v h k = go (ℕ_discrete i v) (λ l. line_named g (suc i) n v l (omega arith))
  where
    go : Dec (i ≡ v) → (suc i ≤ v → vertex_named (map (line_in g) (from (suc i) n)) v ≡ vertex_of (line_in g v))
        → vertex_named (map (line_in g) (from i (suc n))) v ≡ vertex_of (line_in g v)
    go (yes e) r = rw (eq-eqb i v e) (ap (λ (u : ℕ). vertex_of (line_in g u)) e)
    go (no e) r = rw (ne_eqb i v e) (r (omega arith))

pub vertices_said : (g : List ℕ) → map vertex_of (text_in g).lines ≡ without_repeats g
unfolding text_in without_repeats
vertices_said g = same (from 0 (vertex_count g))
  where
    same : (vs : List ℕ) → map vertex_of (map (line_in g) vs) ≡ map (vertex_once g) vs
    same [] = refl
    same (v ∷ vs) = ap₂ ◌∷◌ (vertex_said g v) (same vs)

numbers_said : (g : List ℕ) → numbers_of (text_in g).lines ≡ from 0 (vertex_count g)
unfolding text_in line_in
numbers_said g = same (from 0 (vertex_count g))
  where
    same : (vs : List ℕ) → numbers_of (map (line_in g) vs) ≡ vs
    same [] = refl
    same (v ∷ vs) = ap (λ (l : List ℕ). v ∷ l) (same vs)

-- what holds of the line of every vertex holds of every line
pub each_line : (g : List ℕ) (P : SolverLine → Type 0) → ((v : ℕ) → v < vertex_count g → P (line_in g v))
    → (l : SolverLine) → In l (text_in g).lines → P l
unfolding text_in
each_line g P f l i =
    let (v, m, e) = in_map (line_in g) l (from 0 (vertex_count g)) i in
    let (a, b) = in_from v 0 (vertex_count g) m in
    subst P (sym e) (f v (omega arith))

module _ (g : List ℕ) (passed : writing_refusal g ≡ Ok tt) where
  pub written_good : GoodGame g
  unfolding writing_refusal
  written_good = good_game g (then_both _ _ passed).0

  leads : (v : ℕ) → v < vertex_count g → 1 ≤ length (targets_in g v)
  unfolding writing_refusal
  leads = not_stuck g (then_both _ _ passed).1

  pub game_says : HasForm (game_text g) (text_in g)
  unfolding game_text line_in
  game_says =
      record {
        spelling = refl;
        proper = each_line g ProperLine (λ v h. record {
          owned = omega (arith, written_good.owned v h);
          leads = once_some (targets_in g v) (leads v h);
          plain = tt;
        });
      }

  highest : suc (vertex_count g - 1) ≡ vertex_count g
  highest = omega (arith, written_good.some)

  pub said_passes : Passes92 (text_in g)
  unfolding text_in line_in
  said_passes =
      record {
        long = length-map (from 0 (vertex_count g)) (line_in g) ∙ from-length 0 (vertex_count g) ∙ sym highest;
        inside =
            each_line g (λ l. (l.number ≤ vertex_count g - 1)
            × ((s : ℕ) → In s l.successors → s ≤ vertex_count g - 1))
            (λ v h. (
              omega arith,
              λ s j. omega
                  (arith, target_below g written_good v h s ((once_in number_equality (targets_in g v) s).0 j)),
            ));
        apart = subst Distinct (sym (numbers_said g)) (from_distinct 0 (vertex_count g));
      }

  pub read_said : read_vertices (text_in g) ≡ without_repeats g
  unfolding read_vertices text_in without_repeats
  read_said =
      ap (λ (n : ℕ). map (vertex_named (map (line_in g) (from 0 (vertex_count g)))) (from 0 n)) highest
      ∙ map_same (vertex_named (map (line_in g) (from 0 (vertex_count g)))) (vertex_once g) (from 0 (vertex_count g))
      (λ v i. let (a, b) = in_from v 0 (vertex_count g) i in line_named g 0 (vertex_count g) v a b ∙ vertex_said g v)
