-- The transitions that match an action formula lead to the successors by the rules, and only they. Assumes nothing.
use mathlib.Core.Path.{sym, subst}
use mathlib.Core.List.{List, map}
use Prim.Native.Nat.{ℕ, ◌<◌}
use mathlib.Core.Bool.{Bool}
use Rattle.rules.specs.Lists.{In}
use Rattle.rules.specs.Words.{Input}
use Rattle.rules.specs.Labels.{label_count}
use Rattle.rules.specs.System.{state_count, transition_target, transitions}
use Rattle.rules.specs.Pairs.{matching_transitions, successors}
use Rattle.tables.specs.Good.{GoodSystem, GoodInput}
use Rattle.lists.proofs.Filters.{filter_in, filter_passes, in_filter}
use Rattle.lists.proofs.Inserts.{once_in}
use Rattle.lists.proofs.Equalities.{number_equality}
use Rattle.lists.proofs.Members.{map_in, in_map}
use Rattle.arena.proofs.Inside.{transition_inside}
use Rattle.writing.specs.ActionSyntax.{ActionSyntax}
use Rattle.writing.specs.FormulaSyntax.{read_tree}
use Rattle.meaning.specs.Satisfies.{label_matches, MovesBy, Moves}

-- a transition leads to a state of the system
pub moves_by_inside : (labels : ℕ) (ss : List ℕ) → GoodSystem labels ss → (test : (i : ℕ) → Bool) (s t : ℕ) → s < state_count ss → MovesBy ss test s t → t < state_count ss
moves_by_inside labels ss good test s t h (i, m, d, e) = subst (λ (u : ℕ). u < state_count ss) e (transition_inside labels ss good s h i m).1

module _ (x : Input) (row : List ActionSyntax) (a : ℕ) where
  abbrev matching : ℕ → List ℕ
  matching s = matching_transitions x (read_tree x.labels row a) s

  pub successor_moves : (s t : ℕ) → In t (successors x (read_tree x.labels row a) s) → Moves x row a s t
  unfolding successors matching_transitions
  successor_moves s t m =
      let f = label_matches x (read_tree x.labels row a) in
      let (i, k, e) = in_map (transition_target x.system) t (matching s) ((once_in number_equality (map (transition_target x.system) (matching s)) t).0 m) in
      (i, filter_in f i (transitions x.system s) k, filter_passes f i (transitions x.system s) k, sym e)

  pub moves_successor : (s t : ℕ) → Moves x row a s t → In t (successors x (read_tree x.labels row a) s)
  unfolding successors matching_transitions
  moves_successor s t (i, m, d, e) =
      let k = in_filter (label_matches x (read_tree x.labels row a)) i (transitions x.system s) m d in
      (once_in number_equality (map (transition_target x.system) (matching s)) t).1
      (subst (λ (u : ℕ). In u (map (transition_target x.system) (matching s))) e (map_in (transition_target x.system) i (matching s) k))

  pub moves_inside : (good : GoodInput x) (s t : ℕ) → s < state_count x.system → Moves x row a s t → t < state_count x.system
  moves_inside good = moves_by_inside (label_count x.labels) x.system good.system (label_matches x (read_tree x.labels row a))
