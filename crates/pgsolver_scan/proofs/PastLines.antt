-- The place past a line: where a line that has the form ends, since neither its numbers nor its name have a newline.
-- Assumes nothing.
use Prim.Native.Nat.{ℕ, zero, suc, ◌+◌, ◌-◌, ◌≤◌, ◌<◌}
use native.Mathlib.Omega.{arith}
use mathlib.Core.Path.{◌≡◌, refl, sym, ap, ◌∙◌, subst}
use mathlib.Core.List.{List, [], ◌∷◌, ◌++◌}
use mathlib.Core.Logic.{inl, inr, ⊎_elim}
use mathlib.Core.Option.{Option, none, some}
use lib.ListN.{length, length-append, length-drop}
use borrow.Author.Tests.{eq-eqb, ne_eqb}
use Rattle.rules.specs.Lists.{word, In}
use Rattle.rules.specs.Texts.{decimal}
use Rattle.rules.specs.TextReading.{front, read_byte, read_bytes}
use Rattle.rules.specs.Pgsolver.{SolverLine, comma_text, list_text, name_text, line_text, PlainName}
use Rattle.rules.specs.PgsolverParse.{read_line}
use Rattle.lists.proofs.Members.{in_either}
use Rattle.game_texts.proofs.Decimals.{Digits, digit_small, decimal-digits}
use Rattle.game_texts.proofs.Parsing.{then_some, byte_sound, line_sound}
use Rattle.std.specs.Prelude.{Some}
use Rattle.pgsolver_scan.specs.Told.{since, line_length, past_line, Lacks, ToldFirst}
use Rattle.pgsolver_scan.proofs.Scanning.{since-cons, since_end}
use Rattle.pgsolver_scan.proofs.Blocks.{lacks_less}

-- ---- byte by byte

pub past_newline : (text : List ℕ) (p : ℕ) → p < length text → word text p ≡ 10 → p + 1 ≡ past_line text p
unfolding past_line line_length
past_newline text p h e = rw (since-cons text p h, eq-eqb (word text p) 10 e) refl

pub past_other : (text : List ℕ) (p : ℕ) → p < length text → ¬ (word text p ≡ 10)
    → past_line text p ≡ past_line text (p + 1)
unfolding past_line line_length
past_other text p h n = rw (since-cons text p h, ne_eqb (word text p) 10 n) (omega arith)

pub past_end : (text : List ℕ) (p : ℕ) → length text ≤ p → p ≡ past_line text p
unfolding past_line line_length
past_end text p h = rw (since_end text p h) (omega arith)

-- several bytes that are no newlines
past_on : (n : ℕ) (text : List ℕ) (p : ℕ) → Lacks text p (p + n) 10 10 → past_line text p ≡ past_line text (p + n)
past_on zero text p l =
    let e : p ≡ p + zero = omega arith in
    ap (past_line text) e
past_on (suc n) text p l =
    let (a, b) = l.free (p + n) (omega arith) (omega arith) in
    let e : p + n + 1 ≡ p + suc n = omega arith in
    past_on n text p (lacks_less l (omega arith) (omega arith))
    ∙ past_other text (p + n) (omega (arith, l.within)) a ∙ ap (past_line text) e

pub past_lacks : (text : List ℕ) (p q : ℕ) → Lacks text p q 10 10 → past_line text p ≡ past_line text q
past_lacks text p q l =
    let e : p + (q - p) ≡ q = omega (arith, l.ordered) in
    past_on (q - p) text p (subst (λ (r : ℕ). Lacks text p r 10 10) (sym e) l) ∙ ap (past_line text) e

-- the first newline
pub past_first : (text : List ℕ) (p q : ℕ) → ToldFirst (Some q) text p 10 10 → q + 1 ≡ past_line text p
past_first text p q (l, h, e) =
    past_newline text q h (⊎_elim (λ f. f) (λ f. f) e) ∙ sym (past_lacks text p q l)

-- a semicolon and a newline
pub past_ended : (text : List ℕ) (p : ℕ) (rest : List ℕ) → read_bytes (59 ∷ 10 ∷ []) (since text p) ≡ some rest
    → p + 2 ≡ past_line text p
unfolding past_line line_length read_bytes
past_ended text p rest e =
    let (u, a, f) = then_some (read_byte 59 (since text p)) (read_bytes (10 ∷ [])) rest e in
    let (v, b, g) = then_some (read_byte 10 u) (read_bytes []) rest f in
    let spelt = byte_sound 59 (since text p) u a ∙ ap (λ (l : List ℕ). 59 ∷ l) (byte_sound 10 u v b) in
    omega (arith, ap line_length spelt)

-- ---- bytes without a newline

free_cons : (c : ℕ) (cs : List ℕ) → ¬ (c ≡ 10) → ¬ In 10 cs → ¬ In 10 (c ∷ cs)
free_cons c cs n f m = ⊎_elim (λ e. n (sym e)) f m

free_append : (xs ys : List ℕ) → ¬ In 10 xs → ¬ In 10 ys → ¬ In 10 (xs ++ ys)
free_append xs ys f g m = ⊎_elim f g (in_either 10 xs ys m)

free_digits : (ds : List ℕ) → Digits ds → ¬ In 10 ds
free_digits [] h m = m
free_digits (d ∷ ds) h m =
    let (a, b) = digit_small d h.0 in
    free_cons d ds (λ e. omega arith) (free_digits ds h.1) m

free_decimal : (n : ℕ) → ¬ In 10 (decimal n)
free_decimal n = free_digits (decimal n) (decimal-digits n)

free_commas : (ns : List ℕ) → ¬ In 10 (comma_text ns)
unfolding comma_text
free_commas [] m = m
free_commas (n ∷ ns) m =
    free_cons 44 (decimal n ++ comma_text ns) (λ e. omega arith)
    (free_append (decimal n) (comma_text ns) (free_decimal n) (free_commas ns)) m

free_list : (ns : List ℕ) → ¬ In 10 (list_text ns)
unfolding list_text
free_list [] = λ m. m
free_list (n ∷ ns) = free_append (decimal n) (comma_text ns) (free_decimal n) (free_commas ns)

free_name : (name : Option (List ℕ)) → PlainName name → ¬ In 10 (name_text name)
unfolding name_text
free_name none h = λ m. m
free_name (some cs) h =
    free_cons 32 (34 ∷ (cs ++ (34 ∷ []))) (λ e. omega arith)
    (free_cons 34 (cs ++ (34 ∷ [])) (λ e. omega arith)
    (free_append cs (34 ∷ []) h.1 (free_cons 34 [] (λ e. omega arith) (λ m. m))))

-- ---- bytes that are one line, whatever follows

abbrev OneLine : List ℕ → Type 0
OneLine ts = (rest : List ℕ) → line_length (ts ++ rest) ≡ length ts

newline : OneLine (10 ∷ [])
unfolding line_length
newline rest = refl

one-cons : (c : ℕ) (ts : List ℕ) → ¬ (c ≡ 10) → OneLine ts → OneLine (c ∷ ts)
unfolding line_length
one-cons c ts n h rest = rw (ne_eqb c 10 n) (ap suc (h rest))

one-append : (xs ts : List ℕ) → ¬ In 10 xs → OneLine ts → OneLine (xs ++ ts)
one-append [] ts f h = h
one-append (x ∷ xs) ts f h =
    one-cons x (xs ++ ts) (λ e. f (inl (sym e))) (one-append xs ts (λ m. f (inr m)) h)

-- a number and a space
one_field : (n : ℕ) (ts : List ℕ) → OneLine ts → OneLine (decimal n ++ (32 ∷ ts))
one_field n ts h = one-append (decimal n) (32 ∷ ts) (free_decimal n) (one-cons 32 ts (λ e. omega arith) h)

line-one : (l : SolverLine) → PlainName l.name → OneLine (line_text l)
unfolding line_text
line-one l h =
    let end : List ℕ = 59 ∷ 10 ∷ [] in
    let named = name_text l.name ++ end in
    let listed = list_text l.successors ++ named in
    let owned = decimal l.owner ++ (32 ∷ listed) in
    one_field l.number (decimal l.priority ++ (32 ∷ owned))
    (one_field l.priority owned
    (one_field l.owner listed
    (one-append (list_text l.successors) named (free_list l.successors)
    (one-append (name_text l.name) end (free_name l.name h) (one-cons 59 (10 ∷ []) (λ e. omega arith) newline)))))

-- a line that was read ends at its newline
pub line_ends : (text : List ℕ) (p next : ℕ) (l : SolverLine) → p ≤ length text → next ≤ length text
    → read_line (since text p) ≡ some (front l (since text next)) → past_line text p ≡ next
unfolding past_line
line_ends text p next l h k e =
    let (spelt, good) = line_sound (since text p) (front l (since text next)) e in
    let size = ap line_length spelt ∙ line-one l good.plain (since text next) in
    omega (
      arith,
      size,
      ap length spelt ∙ length-append (line_text l) (since text next),
      length-drop p text,
      length-drop next text,
    )
