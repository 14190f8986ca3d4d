-- The slice is long enough, so the text is written and no other answer is given.
use mathlib.Core.Logic.{inl, inr}
use mathlib.Core.Path.{refl}
use Rattle.gate.proofs.Fronts.{front-done, front_not_cut, front_not_refused}
use Rattle.gate.proofs.put_text.Goals as goal

pub returns-in-Done : goal.returns-in-Done
returns-in-Done c =
    front-done c.args.bytes.now c.args.text.now c.gate_buffer.new.text c.gate_buffer.result
    c.requires.0 c.requires.1 c.gate_buffer.ensures _ _ _ c.in-Done.is _ refl

pub returns-in-Cut : goal.returns-in-Cut
returns-in-Cut c =
    let front = c.args.bytes.now in
    let text = c.args.text.now in
    let after = c.gate_buffer.new.text in
    let answer = c.gate_buffer.result in
    elim c.in-Cut.is [
      | inl (n, v, e, is) ↦
          absurd (front_not_cut front text after answer c.requires.0 c.requires.1 c.gate_buffer.ensures n v e is)
      | inr (n, p, is) ↦
          absurd (front_not_refused front text after answer c.requires.0 c.requires.1 c.gate_buffer.ensures n p is)
    ]
