-- What the check of a text promises. Assumes nothing: these are definitions.
use Rattle.std.specs.Prelude.{ℕ, suc, ◌≤◌, ◌<◌, ◌≡◌, List, map, Result}
use Rattle.std.proofs.Math.Option.{some}
use Rattle.std.specs.declared.result.Result.TheVariants.{Ok, Err}
use Rattle.rules.specs.declared.Room.{Room}
use Rattle.rules.specs.Game.{edge_count}
use Rattle.rules.specs.PgsolverParse.{parse}
use Rattle.rules.specs.PgsolverReading.{vertex_of, refusal92, refusal93, text_refusal}
use Rattle.rules.specs.declared.Fault.{Fault}
use Rattle.pgsolver_check.specs.declared.Plan.{Plan}
use Rattle.pgsolver_check.specs.Numbers.{in_turn}
use Rattle.pgsolver_check.specs.Lines.{solver_text, lines_in, lines_from, tops_of, ranks_of, in_order, Readable}

-- a text that is not refused in this room: its highest vertex, the place of its first line, and whether its lines are
-- in the order of their numbers
pub record Planned (text : List ℕ) (room : Room) (plan : Plan) : Type 0 where
  pub says : parse text ≡ some (solver_text text)
  pub numbered : refusal92 (solver_text text) ≡ Ok tt
  pub roomy : refusal93 room (solver_text text) ≡ Ok tt
  pub header : plan.highest ≡ (solver_text text).highest
  pub fits : suc plan.highest ≤ room.vertices
  pub lines : lines_from text plan.first ≡ lines_in text
  pub readable : Readable text plan.first
  pub low : tops_of (lines_in text) ≤ plan.highest
  pub ranked : ranks_of (lines_in text) < 4_294_967_296
  pub held : edge_count (map vertex_of (lines_in text)) ≤ room.edges
  pub order : in_turn plan.numbering ≡ in_order 0 (lines_in text)

-- a text gives a plan, or a fault
abbrev pub ToldPlan : Result Plan Fault → Room → List ℕ → Type 0
ToldPlan (Ok plan) room text = Planned text room plan
ToldPlan (Err f) room text = text_refusal room (parse text) ≡ Err f
