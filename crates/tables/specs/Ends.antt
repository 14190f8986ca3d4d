-- Ends of trees in the form in which a program keeps them: as numbers. Assumes nothing: these are definitions.
use Rattle.std.specs.Prelude.{ℕ, ◌+◌, ◌-◌, Bool}
use Rattle.std.proofs.Math.Option.{Option, none, some}
use Rattle.rules.specs.Table.{end_of_trees, tree_end, comes_to}

-- in a table of n nodes: n + 1 for an unfinished tree
unfoldable pub end_number : ℕ → Option ℕ → ℕ
end_number n none = n + 1
end_number n (some e) = e

module _ (children : ℕ → ℕ) (n : ℕ) where
  -- the end of the tree of node v
  unfoldable pub end_of : ℕ → ℕ
  end_of v = end_number n (tree_end children n v)

  -- so many more trees from where others ended
  unfoldable pub trees_after : Option ℕ → ℕ → Option ℕ
  trees_after none due = none
  trees_after (some u) due = end_of_trees children (n - u) u due

  -- the end of the tree that begins where another one ended
  unfoldable pub tree_after : Option ℕ → Option ℕ
  tree_after none = none
  tree_after (some u) = tree_end children n u

  -- going from tree to tree, from the one that begins at node u on, one comes to v
  unfoldable pub on_row_from : (u v : ℕ) → Bool
  on_row_from u v = comes_to children n (v - u) (some u) v
