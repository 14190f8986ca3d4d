-- The measure goes first by the equation, which rises where a later one is entered, then by the node; both are below
-- what a table has room for.
use Prim.Native.Nat.{◌+◌, ◌-◌, ◌*◌}
use Rattle.modal_equation_system.proofs.EquationTable.+read_body_read_equation.Given as goal

abbrev pub decreases-read_body : goal.decreases-read_body
decreases-read_body l = (1_025 - l.equation) * 2_048 + (1_024 - l.node)

abbrev pub decreases-read_equation : goal.decreases-read_equation
decreases-read_equation l = (1_025 - l.equation) * 2_048 + 1_025
