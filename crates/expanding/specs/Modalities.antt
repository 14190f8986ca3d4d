-- A modality of a regular formula, written before a formula that stands already. Assumes nothing: these are
-- definitions.
use Rattle.std.specs.Prelude.{◌≡◌, ℕ, ◌+◌, List}
use Rattle.writing.specs.FormulaSyntax.{FormulaOver}
use Rattle.regular_rules.specs.Regular.{Regular}
use Rattle.regular_rules.specs.Expand.{Modality, box, diamond, modal}
use Rattle.regular_rules.specs.Sizes.{modal_size}
use Rattle.expanding.specs.declared.table.Part.{Part}
use Rattle.expanding.specs.declared.modal.Modality.{Modality as Said}
use Rattle.expanding.specs.declared.modal.Modality.TheVariants.{Box, Diamond}
use Rattle.expanding.specs.Parts.{SameFrom, part_size, Unwritten, Stands}

abbrev pub modality_of : Said → Modality
modality_of Box = box
modality_of Diamond = diamond

-- the kinds of its nodes: before an action formula, of what joins the two parts of a choice, of the fixpoint of a star
abbrev pub modal_kind : Modality → ℕ
modal_kind box = 4
modal_kind diamond = 5

abbrev pub both_kind : Modality → ℕ
both_kind box = 2
both_kind diamond = 3

abbrev pub again_kind : Modality → ℕ
again_kind box = 7
again_kind diamond = 6

-- the modality of r was written just before part p, and stands with it in part q: [R] f, where f stands in p
pub record ModalWritten (m : Modality) (r : Regular) (p : Part) (ws vs : List ℕ) (q : Part) : Type 0 where
  pub rest : SameFrom p.start ws vs
  pub begins : q.start + modal_size r (part_size p) ≡ p.end
  pub ends : q.end ≡ p.end
  pub stands : (f : FormulaOver ℕ) (around : List ℕ) → Unwritten around → Stands f around p ws
      → Stands (modal m r f) around q vs
