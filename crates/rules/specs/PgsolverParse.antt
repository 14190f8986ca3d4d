-- Reading PGSolver text byte by byte: what a text says, none where it does not have the form of specs/Pgsolver. Exact:
-- theorems `parse_says`, `says_parse`. Assumes nothing: these are definitions.
use Rattle.std.specs.Prelude.{ℕ, zero, suc, cond, List, [], ◌∷◌, length, eqb, ltb}
use Rattle.std.proofs.Math.Option.{Option, none, some}
use Rattle.rules.specs.TextReading.{Front, front, then_read, with_first, read_byte, read_bytes, read_number, read_field}
use Rattle.rules.specs.Pgsolver.{SolverLine, SolverText, parity_word}

-- numbers, a comma before each, as long as there are commas; at most `turns` of them
unfoldable pub read_commas : (turns : ℕ) → List ℕ → Option (Front (List ℕ))
read_commas zero ts = some (front [] ts)
read_commas (suc turns) [] = some (front [] [])
read_commas (suc turns) (c ∷ cs) =
    let more = then_read (read_number cs) (λ n. with_first n.value (read_commas turns n.rest)) in
    cond (eqb c 44) more (some (front [] (c ∷ cs)))

-- numbers parted by commas, at least one; no more follow than there are bytes
unfoldable pub read_list : List ℕ → Option (Front (List ℕ))
read_list ts = then_read (read_number ts) (λ n. with_first n.value (read_commas (length n.rest) n.rest))

-- the bytes up to a quote, none of them a newline
unfoldable pub read_name : List ℕ → Option (Front (List ℕ))
read_name [] = none
read_name (c ∷ cs) =
    let more = with_first c (read_name cs) in
    let inner = cond (eqb c 10) none more in
    cond (eqb c 34) (some (front [] cs)) inner

-- a space and a name, if there is a space
unfoldable pub read_named : List ℕ → Option (Front (Option (List ℕ)))
read_named [] = some (front none [])
read_named (c ∷ cs) =
    let named = then_read (read_byte 34 cs) (λ r. then_read (read_name r) (λ n. some (front (some n.value) n.rest))) in
    cond (eqb c 32) named (some (front none (c ∷ cs)))

unfoldable pub read_owner : List ℕ → Option (Front ℕ)
read_owner ts = then_read (read_field 32 ts) (λ o. cond (ltb 1 o.value) none (some o))

unfoldable pub read_line : List ℕ → Option (Front SolverLine)
read_line ts =
    then_read (read_field 32 ts) (λ v. then_read (read_field 32 v.rest) (λ p. then_read (read_owner p.rest) (λ o.
    then_read (read_list o.rest) (λ s. then_read (read_named s.rest) (λ n.
    then_read (read_bytes (59 ∷ 10 ∷ []) n.rest) (λ r. some (front (record {
      number = v.value;
      priority = p.value;
      owner = o.value;
      successors = s.value;
      name = n.value;
    }) r)))))))

unfoldable pub with_line : SolverLine → Option (List SolverLine) → Option (List SolverLine)
with_line l none = none
with_line l (some ls) = some (l ∷ ls)

-- lines up to the end, at most `turns` of them
unfoldable pub read_lines : (turns : ℕ) → List ℕ → Option (List SolverLine)
read_lines zero [] = some []
read_lines zero (c ∷ cs) = none
read_lines (suc turns) [] = some []
read_lines (suc turns) (c ∷ cs) =
    then_read (read_line (c ∷ cs)) (λ l. with_line l.value (read_lines turns l.rest))

unfoldable pub read_header : List ℕ → Option (Front ℕ)
read_header ts =
    then_read (read_bytes parity_word ts) (λ r. then_read (read_field 59 r) (λ h.
    then_read (read_byte 10 h.rest) (λ e. some (front h.value e))))

-- what the bytes say; no more lines follow than there are bytes
unfoldable pub parse : List ℕ → Option SolverText
parse ts =
    then_read (read_header ts) (λ h. then_read (read_lines (length h.rest) h.rest) (λ ls.
    some (record { highest = h.value; lines = ls })))
