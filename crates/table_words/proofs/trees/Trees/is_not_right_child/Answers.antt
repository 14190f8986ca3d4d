use native.Mathlib.Omega.{arith}
use mathlib.Core.Path.{sym, ◌∙◌, ap}
use mathlib.Core.Bool.{not}
use lib.Dec.{eqb}
use borrow.Author.Tests.{lt-leb}
use Rattle.tables.proofs.Ends.{not_end_finished, not_end_unfinished}
use Rattle.table_words.proofs.trees.Trees.is_not_right_child.Goals as goal

pub returns-then-end-size : goal.returns-then-end-size
returns-then-end-size g c =
    ap (λ e. not (eqb c.args.right e)) c.end-end.ensures ∙ sym (not_end_finished _ _ _ _ (omega arith))

pub returns-else-end-size : goal.returns-else-end-size
returns-else-end-size g c = lt-leb _ _ c.if-end-size.false ∙ sym (not_end_unfinished _ _ _ _ (omega arith))
