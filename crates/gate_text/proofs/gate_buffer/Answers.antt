-- `gate_buffer` meets its contract: what follows the first 8,193 bytes of an input changes nothing. Assumes nothing.
use mathlib.Core.Path.{ap, ◌∙◌}
use mathlib.Core.List.{List}
use Prim.Native.Nat.{ℕ}
use Rattle.rules.specs.Texts.{text_into}
use Rattle.rules.specs.Program.{gate_text_length, program_text}
use Rattle.gate_text.proofs.Programs.{front-printed}
use Rattle.gate_text.proofs.gate_buffer.Goals as goal

pub returns : goal.returns
unfolding program_text
returns c =
    λ input e.
    c.gate.ensures
    ∙ ap (λ (s : List ℕ). text_into gate_text_length s c.args.text.now) (front-printed input _ e)
