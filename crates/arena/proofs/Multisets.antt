-- Multisets: permuting a label's actions or naming an equal label changes no tree, no item, no target, no number of
-- transitions behind an edge and no word of a run; renaming actions changes no tree, item, target or such number of a
-- state. Assumes nothing.
use mathlib.Core.Path.{◌≡◌, refl, sym, ◌∙◌}
use mathlib.Core.Logic.{◌⊎◌, inl, inr, ◌↔◌}
use mathlib.Core.Bool.{true, ◌&&◌}
use mathlib.Core.List.{List}
use Prim.Native.Nat.{ℕ, ◌+◌, ◌≤◌, ◌<◌}
use native.Mathlib.Decide.{dec_lt}
use native.Mathlib.Omega.{arith}
use lib.Dec.{eqb}
use lib.ListN.{length}
use borrow.Author.Tests.{eqb-true}
use Rattle.rules.specs.Lists.{tally}
use Rattle.rules.specs.declared.Room.{Room}
use Rattle.rules.specs.Words.{Input}
use Rattle.rules.specs.Labels.{label_count, action_count, label_at, action_at, times, same_label, multiset}
use Rattle.rules.specs.System.{state_count, transition_label}
use Rattle.rules.specs.Table.{operand}
use Rattle.rules.specs.Actions.{action_tree}
use Rattle.rules.specs.Formula.{Formula, formula_tree}
use Rattle.rules.specs.Depth.{Ranking, by_depth}
use Rattle.rules.specs.Items.{items, item_number}
use Rattle.rules.specs.Pairs.{Pair, owner, targets, transitions_behind}
use Rattle.rules.specs.Run.{run}
use Rattle.tables.specs.Good.{GoodLabels, GoodActions, GoodInput}
use Rattle.labels.proofs.Counts.{flags, tally_some}
use Rattle.labels.proofs.Alike.{same_times, times_same}
use Rattle.arena.specs.Reworded.{reworded, SameRanks, SameCounts, SameMultisets, SameActions}
use Rattle.lists.proofs.Ranges.{same_seek}
use Rattle.arena.proofs.Inside.{transition_inside}
use Rattle.arena.proofs.SameTrees.{same_actions, same_formulas, same_items, same_numbers, same_owners}
use Rattle.arena.proofs.SameTrees.{same_ranks, same_targets, same_behind, same_run}
use Rattle.arena.proofs.SameRefusals.{relabelled_refusal, renamed_refusal}
use Rattle.lists.proofs.Tests.{and-true}

-- ---- labels

module _ (ls ls' : List ℕ) where
  -- where labels up to l are the same in both alike, l has the same name
  same_name : (l : ℕ) → ((j : ℕ) → j ≤ l → ((a : ℕ) → times ls' j a ≡ times ls' l a) ↔ ((a : ℕ) → times ls j a ≡ times ls l a)) → multiset ls' l ≡ multiset ls l
  unfolding multiset
  same_name l agree =
      same_seek (λ j. same_label ls' j l) (λ j. same_label ls j l) 0 l
      (λ j a b. flags (same_label ls' j l) (same_label ls j l)
      (λ t. times_same ls j l ((agree j (omega arith)).0 (same_times ls' j l t)))
      (λ t. times_same ls' j l ((agree j (omega arith)).1 (same_times ls j l t))))

  pub same_multisets : SameMultisets ls ls' → (l : ℕ) → l < label_count ls → multiset ls' l ≡ multiset ls l
  same_multisets same l h = same_name l (λ j a. same.agree j l (omega arith) h)

  pub counts_multisets : SameCounts ls ls' → SameMultisets ls ls'
  counts_multisets same =
      record {
        labels = same.labels;
        agree = λ l m h k. (λ e a. sym (same.counts l a h) ∙ e a ∙ same.counts m a k, λ e a. same.counts l a h ∙ e a ∙ sym (same.counts m a k));
      }

-- past the labels there are no actions
times_past : (ls : List ℕ) → GoodLabels ls → (l a : ℕ) → label_count ls ≤ l → times ls l a ≡ 0
unfolding times
times_past ls good l a h = go (tally_some (λ p. eqb (label_at ls p) l && eqb (action_at ls p) a) 0 (action_count ls))
  where
    go : (tally (λ p. eqb (label_at ls p) l && eqb (action_at ls p) a) 0 (action_count ls) ≡ 0)
        ⊎ ((q : ℕ) × (0 ≤ q) × (q < 0 + action_count ls) × ((eqb (label_at ls q) l && eqb (action_at ls q) a) ≡ true))
        → tally (λ p. eqb (label_at ls p) l && eqb (action_at ls p) a) 0 (action_count ls) ≡ 0
    go (inl e) = e
    go (inr (q, b, c, t)) =
        let e = eqb-true (label_at ls q) l (and-true (eqb (label_at ls q) l) (eqb (action_at ls q) a) t).0 in
        let k = good.below q (omega arith) in
        absurd (omega arith)

module _ (ls ls' : List ℕ) (good : GoodLabels ls) (good' : GoodLabels ls') (same : SameCounts ls ls') where
  all-times : (l a : ℕ) → times ls' l a ≡ times ls l a
  all-times l a = go (dec_lt l (label_count ls))
    where
      go : Dec (l < label_count ls) → times ls' l a ≡ times ls l a
      go (yes h) = same.counts l a h
      go (no h) = times_past ls' good' l a (let e = same.labels in omega arith) ∙ sym (times_past ls good l a (omega arith))

  pub all_multisets : (l : ℕ) → multiset ls' l ≡ multiset ls l
  all_multisets l =
      same_name ls ls' l
      (λ j h. (λ e a. sym (all-times j a) ∙ e a ∙ all-times l a, λ e a. all-times j a ∙ e a ∙ sym (all-times l a)))

-- ---- other labels: actions permuted within labels, or renamed

module _ (x : Input) (good : GoodInput x) (ls' : List ℕ) (same : SameMultisets x.labels ls') where
  names-kept : SameActions x.labels ls' x.actions x.actions
  names-kept =
      record {
        sizes = refl;
        kinds = λ v h. refl;
        operands = λ v h n. refl;
        named = λ v h e. same_multisets x.labels ls' same (operand x.actions v) ((good.actions.nodes v h).label (omega arith) (omega arith));
      }

  pub relabelled_actions : (v : ℕ) → action_tree ls' x.actions v ≡ action_tree x.labels x.actions v
  relabelled_actions = same_actions x.labels ls' x.actions x.actions names-kept

  pub relabelled_formulas : (v : ℕ) → formula_tree (reworded x ls' x.actions) v ≡ formula_tree x v
  relabelled_formulas = same_formulas x ls' x.actions relabelled_actions

  pub relabelled_items : items (reworded x ls' x.actions) ≡ items x
  relabelled_items = same_items x ls' x.actions relabelled_actions

  pub relabelled_numbers : (t : Formula) → item_number (reworded x ls' x.actions) t ≡ item_number x t
  relabelled_numbers = same_numbers x ls' x.actions relabelled_actions

  pub relabelled_owners : (p : Pair) → owner (reworded x ls' x.actions) p ≡ owner x p
  relabelled_owners = same_owners x ls' x.actions relabelled_actions

  pub relabelled_ranks : SameRanks by_depth x (reworded x ls' x.actions)
  relabelled_ranks = same_ranks x ls' x.actions relabelled_actions

  pub relabelled_targets : (s q : ℕ) → s < state_count x.system → targets (reworded x ls' x.actions) (s, q) ≡ targets x (s, q)
  relabelled_targets s q h =
      same_targets x ls' x.actions relabelled_actions s
      (λ t m. same_multisets x.labels ls' same (transition_label x.system t)
      (transition_inside (label_count x.labels) x.system good.system s h t m).0)
      q

  pub relabelled_behind : (s q : ℕ) (r : Pair) → s < state_count x.system
      → transitions_behind (reworded x ls' x.actions) (s, q) r ≡ transitions_behind x (s, q) r
  relabelled_behind s q r h =
      same_behind x ls' x.actions relabelled_actions s
      (λ t m. same_multisets x.labels ls' same (transition_label x.system t)
      (transition_inside (label_count x.labels) x.system good.system s h t m).0)
      q r

-- permuting actions within labels changes no word of a run, by any ranking that ranks the equations of both inputs
-- alike; so by depth
pub permuted_run : (x : Input) → GoodInput x → (ls' : List ℕ) → GoodLabels ls' → SameCounts x.labels ls'
    → (rank : Ranking) → SameRanks rank x (reworded x ls' x.actions) → (r : Room) (k : ℕ) (game work : List ℕ)
    → run rank (reworded x ls' x.actions) r k game work ≡ run rank x r k game work
permuted_run x good ls' good' same rank ranks r k game work =
    same_run x ls' x.actions (relabelled_actions x good ls' (counts_multisets x.labels ls' same))
    (all_multisets x.labels ls' good.labels good' same) rank ranks r k game work
    (relabelled_refusal x ls' good.labels good' same.labels r (length game) (length work))

pub permuted_run_by_depth : (x : Input) → GoodInput x → (ls' : List ℕ) → GoodLabels ls' → SameCounts x.labels ls'
    → (r : Room) (k : ℕ) (game work : List ℕ)
    → run by_depth (reworded x ls' x.actions) r k game work ≡ run by_depth x r k game work
permuted_run_by_depth x good ls' good' same =
    permuted_run x good ls' good' same by_depth (relabelled_ranks x good ls' (counts_multisets x.labels ls' same))

-- ---- other action formulas: multi-actions that name an equal label

-- by `multiset_same` a label is equal if every action occurs in it as often
module _ (x : Input) (acts' : List ℕ) (same : SameActions x.labels x.labels x.actions acts') where
  pub renamed_actions : (v : ℕ) → action_tree x.labels acts' v ≡ action_tree x.labels x.actions v
  renamed_actions = same_actions x.labels x.labels x.actions acts' same

  pub renamed_formulas : (v : ℕ) → formula_tree (reworded x x.labels acts') v ≡ formula_tree x v
  renamed_formulas = same_formulas x x.labels acts' renamed_actions

  pub renamed_items : items (reworded x x.labels acts') ≡ items x
  renamed_items = same_items x x.labels acts' renamed_actions

  pub renamed_targets : (p : Pair) → targets (reworded x x.labels acts') p ≡ targets x p
  renamed_targets p = same_targets x x.labels acts' renamed_actions p.0 (λ t m. refl) p.1

  pub renamed_behind : (p q : Pair) → transitions_behind (reworded x x.labels acts') p q ≡ transitions_behind x p q
  renamed_behind p q = same_behind x x.labels acts' renamed_actions p.0 (λ t m. refl) p.1 q

  pub renamed_ranks : SameRanks by_depth x (reworded x x.labels acts')
  renamed_ranks = same_ranks x x.labels acts' renamed_actions

  pub renamed_run : GoodInput x → GoodActions (label_count x.labels) acts'
      → (rank : Ranking) → SameRanks rank x (reworded x x.labels acts') → (r : Room) (k : ℕ) (game work : List ℕ)
      → run rank (reworded x x.labels acts') r k game work ≡ run rank x r k game work
  renamed_run good good' rank ranks r k game work =
      same_run x x.labels acts' renamed_actions (λ l. refl) rank ranks r k game work
      (renamed_refusal x acts' good.actions good' same r (length game) (length work))

  pub renamed_run_by_depth : GoodInput x → GoodActions (label_count x.labels) acts'
      → (r : Room) (k : ℕ) (game work : List ℕ)
      → run by_depth (reworded x x.labels acts') r k game work ≡ run by_depth x r k game work
  renamed_run_by_depth good good' = renamed_run good good' by_depth renamed_ranks
