-- How many nodes an expanded modality has, above a formula of s nodes (theorem `modal_size_told`), as an offset and a
-- factor of s (theorem `size_affine`); and numbers up to 1,025: the program counts no further. Assumes nothing: these
-- are definitions.
use Rattle.std.specs.Prelude.{ℕ, suc, ◌+◌, ◌*◌, min, List, []}
use Rattle.rules.specs.Words.{most_nodes}
use Rattle.writing.specs.FormulaSyntax.{formula_size}
use Rattle.regular_rules.specs.Regular.{Regular, action, sequence, choice, star, plus, regular_tree}
use Rattle.writing.specs.FormulaReading.{syntax_at}
use Rattle.regular_rules.specs.Expand.{expand}

unfoldable pub modal_size : Regular → (s : ℕ) → ℕ
modal_size (action a) s = suc s
modal_size (sequence r t) s = modal_size r (modal_size t s)
modal_size (choice r t) s = suc (modal_size r s + modal_size t s)
modal_size (star r) s = suc (suc (modal_size r 1 + s))
modal_size (plus r) s = modal_size r (suc (suc (modal_size r 1 + s)))

unfoldable pub factor : Regular → ℕ
factor (action a) = 1
factor (sequence r t) = factor r * factor t
factor (choice r t) = factor r + factor t
factor (star r) = 1
factor (plus r) = factor r

unfoldable pub offset : Regular → ℕ
offset (action a) = 1
offset (sequence r t) = offset r + factor r * offset t
offset (choice r t) = suc (offset r + offset t)
offset (star r) = suc (suc (offset r + factor r))
offset (plus r) = offset r + factor r * suc (suc (offset r + factor r))

-- counting stops at 1,025
unfoldable pub capped : ℕ → ℕ
capped n = min n (suc most_nodes)

-- the nodes that node u of the formula is expanded to
unfoldable pub size_at : List ℕ → List ℕ → ℕ → ℕ
size_at regs f u = formula_size (expand (syntax_at (regular_tree regs) f [] u))
