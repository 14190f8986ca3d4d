use borrow.Author.Rules.{rules}
use borrow.Author.Tests.{tests}
use Rattle.std.proofs.lemmas.Result.{MatchResult-weaker}
use Rattle.formula_words.proofs.References.{fixpoint_read}
use Rattle.formula_words.proofs.FormulaNode.is_fixpoint.Goals as goal

pub returns : goal.returns
returns c =
    fixpoint_read c.args.self.trees.now.words.now c.args.self.node c.args.self.inside c.kind.result c.kind.ensures c.is_ok_and.result
    (MatchResult-weaker c.kind.result c.is_ok_and.ensures (λ k p. search (rules, tests)) (λ e p. p))
