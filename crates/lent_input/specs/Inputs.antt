-- The four lent slices of an input, as the input that the rules speak of. Assumes nothing: this is a definition.
use Rattle.rules.specs.Words.{Input as Words, input_of}
use Rattle.lent_input.specs.declared.Input.{Input}

-- the input that they hold
abbrev pub input_in : Input → Words
input_in i = input_of i.labels.now i.system.now i.actions.now i.formula.now
