-- Every definition of the expansion that computes, under one name, for which `every_rule` of crate rules is unfolded
-- too. Assumes nothing.
use Rattle.writing.specs.Nodes.{table_words}
use Rattle.writing.specs.FormulaSyntax.{formula_size, write_over, words_over}
use Rattle.writing.specs.FormulaReading.{syntax_of, syntax_to, syntax_at, formula_syntax}
use Rattle.regular_rules.specs.Regular.{regular_of, regular_to, regular_tree}
use Rattle.regular_rules.specs.Expand.{modal_formula, both_formula, again_formula, below, modal, expand}
use Rattle.regular_rules.specs.Refusals.{refusal_out, bad_regular_operand, malformed, refusal61, expanded_size}
use Rattle.regular_rules.specs.Refusals.{refusal62, expansion_refusal}
use Rattle.regular_rules.specs.Expansion.{regular_formula, expanded, expanded_words, expanded_or, expansion}

unfoldable pub every_expansion_rule : Unit {0}
unfolding table_words formula_size write_over words_over syntax_of syntax_to syntax_at formula_syntax
    regular_of regular_to regular_tree modal_formula both_formula again_formula below modal expand
    refusal_out bad_regular_operand malformed refusal61 expanded_size refusal62 expansion_refusal
    regular_formula expanded expanded_words expanded_or expansion
every_expansion_rule = tt
