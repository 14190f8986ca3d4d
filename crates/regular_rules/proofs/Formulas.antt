-- Formulas read from words that are not refused: a node's tree is made of its children's trees, one law for each kind;
-- every reference names a fixpoint around it. Assumes nothing.
use mathlib.Core.Path.{◌≡◌, refl, sym, ap, ap₂, ◌∙◌, subst}
use mathlib.Core.List.{List, ◌∷◌}
use Prim.Native.Nat.{ℕ, zero, suc, ◌-◌, ◌≤◌, ◌<◌}
use native.Mathlib.Omega.{arith}
use lib.Dec.{eqb}
use Rattle.std.specs.declared.result.Result.TheVariants.{Ok}
use Rattle.rules.specs.Lists.{position}
use Rattle.rules.specs.Table.{size, kind, operand, decode_formula, formula_node}
use Rattle.rules.specs.Refusal.{names_no_root, refusal43, refusal44, refusal45}
use Rattle.tables.specs.Good.{GoodFormula}
use Rattle.tables.proofs.Decode.{formula_at, formula_kinds, formula_of_kind}
use Rattle.writing.specs.FormulaSyntax.{FormulaOver, true_formula, false_formula, and_formula, or_formula, box_formula}
use Rattle.writing.specs.FormulaSyntax.{diamond_formula, least_formula, greatest_formula, reference_formula, Fits}
use Rattle.writing.specs.FormulaReading.{syntax_of, syntax_to, syntax_at, formula_syntax, itself, renamed}
use Rattle.writing.proofs.FormulaReading.{words_read}
use Rattle.writing.proofs.FormulaTheorems.{accepted_words_are_written}

-- ---- trees

module _ {M : Type 0} (named : ℕ → M) where
  -- only the trees of the children that a kind has matter
  syntax_of_same : (t u : List ℕ → ℕ → FormulaOver M) (around : List ℕ) (v o k : ℕ)
      → (2 ≤ k → k ≤ 7 → (known : List ℕ) → t known (suc v) ≡ u known (suc v))
      → (2 ≤ k → k ≤ 3 → (known : List ℕ) → t known o ≡ u known o)
      → syntax_of named t around v (decode_formula k o) ≡ syntax_of named u around v (decode_formula k o)
  unfolding syntax_of
  syntax_of_same t u around v o =
      formula_kinds o
      (λ k n. (2 ≤ k → k ≤ 7 → (known : List ℕ) → t known (suc v) ≡ u known (suc v))
      → (2 ≤ k → k ≤ 3 → (known : List ℕ) → t known o ≡ u known o)
      → syntax_of named t around v n ≡ syntax_of named u around v n)
      (λ p q. refl)
      (λ p q. refl)
      (λ p q. ap₂ and_formula (p (omega arith) (omega arith) around) (q (omega arith) (omega arith) around))
      (λ p q. ap₂ or_formula (p (omega arith) (omega arith) around) (q (omega arith) (omega arith) around))
      (λ p q. ap (box_formula (named o)) (p (omega arith) (omega arith) around))
      (λ p q. ap (diamond_formula (named o)) (p (omega arith) (omega arith) around))
      (λ p q. ap least_formula (p (omega arith) (omega arith) (v ∷ around)))
      (λ p q. ap greatest_formula (p (omega arith) (omega arith) (v ∷ around)))
      (λ p q. refl)
      (λ k h p q. refl)

  module _ (m : ℕ) (f : List ℕ) (good : GoodFormula m f) where
    -- any depth that reaches the last node gives the same tree
    syntax_depth : (d e : ℕ) (around : List ℕ) (v : ℕ) → v < size f → size f - v ≤ d → size f - v ≤ e → syntax_to named d f around v ≡ syntax_to named e f around v
    unfolding syntax_to
    syntax_depth zero e around v h a b = absurd (omega arith)
    syntax_depth (suc d) zero around v h a b = absurd (omega arith)
    syntax_depth (suc d) (suc e) around v h a b =
        let n = good.nodes v h in
        rw (formula_at f v h)
        (syntax_of_same (λ known u. syntax_to named d f known u) (λ known u. syntax_to named e f known u) around v (operand f v) (kind f v)
        (λ p q known. syntax_depth d e known (suc v) (n.next p q) (omega arith) (omega arith))
        (λ p q known. let r = n.right p q in syntax_depth d e known (operand f v) r.1 (omega arith) (omega arith)))

    -- a node's tree is made of the trees of its children
    pub syntax-at : (around : List ℕ) (v : ℕ) → v < size f → syntax_at named f around v ≡ syntax_of named (syntax_at named f) around v (formula_node f v)
    unfolding syntax_at syntax_to
    syntax-at around v h = syntax_depth (size f) (suc (size f)) around v h (omega arith) (omega arith)

    module _ (around : List ℕ) (v : ℕ) (h : v < size f) where
      -- of a known kind
      at_kind : (k : ℕ) → kind f v ≡ k → syntax_at named f around v ≡ syntax_of named (syntax_at named f) around v (decode_formula k (operand f v))
      at_kind k e =
          syntax-at around v h ∙ ap (syntax_of named (syntax_at named f) around v) (formula_of_kind f v h k e)

      pub true_at : kind f v ≡ 0 → syntax_at named f around v ≡ true_formula
      unfolding syntax_of decode_formula
      true_at e = at_kind 0 e

      pub false_at : kind f v ≡ 1 → syntax_at named f around v ≡ false_formula
      unfolding syntax_of decode_formula
      false_at e = at_kind 1 e

      pub and_at : kind f v ≡ 2 → syntax_at named f around v ≡ and_formula (syntax_at named f around (suc v)) (syntax_at named f around (operand f v))
      unfolding syntax_of decode_formula
      and_at e = at_kind 2 e

      pub or_at : kind f v ≡ 3 → syntax_at named f around v ≡ or_formula (syntax_at named f around (suc v)) (syntax_at named f around (operand f v))
      unfolding syntax_of decode_formula
      or_at e = at_kind 3 e

      pub box_at : kind f v ≡ 4 → syntax_at named f around v ≡ box_formula (named (operand f v)) (syntax_at named f around (suc v))
      unfolding syntax_of decode_formula
      box_at e = at_kind 4 e

      pub diamond_at : kind f v ≡ 5 → syntax_at named f around v ≡ diamond_formula (named (operand f v)) (syntax_at named f around (suc v))
      unfolding syntax_of decode_formula
      diamond_at e = at_kind 5 e

      pub least_at : kind f v ≡ 6 → syntax_at named f around v ≡ least_formula (syntax_at named f (v ∷ around) (suc v))
      unfolding syntax_of decode_formula
      least_at e = at_kind 6 e

      pub greatest_at : kind f v ≡ 7 → syntax_at named f around v ≡ greatest_formula (syntax_at named f (v ∷ around) (suc v))
      unfolding syntax_of decode_formula
      greatest_at e = at_kind 7 e

      pub reference_at : kind f v ≡ 8 → syntax_at named f around v ≡ reference_formula (position eqb (operand f v) around)
      unfolding syntax_of decode_formula
      reference_at e = at_kind 8 e

-- ---- fit

renamed_fits : {M N : Type 0} (fit : M → Type 0) (fit' : N → Type 0) (g : M → N) → ((m : M) → fit m → fit' (g m))
    → (t : FormulaOver M) (n : ℕ) → Fits fit n t → Fits fit' n (renamed g t)
unfolding renamed
renamed_fits fit fit' g to true_formula n h = tt
renamed_fits fit fit' g to false_formula n h = tt
renamed_fits fit fit' g to (and_formula a b) n h = (renamed_fits fit fit' g to a n h.0, renamed_fits fit fit' g to b n h.1)
renamed_fits fit fit' g to (or_formula a b) n h = (renamed_fits fit fit' g to a n h.0, renamed_fits fit fit' g to b n h.1)
renamed_fits fit fit' g to (box_formula m a) n h = (to m h.0, renamed_fits fit fit' g to a n h.1)
renamed_fits fit fit' g to (diamond_formula m a) n h = (to m h.0, renamed_fits fit fit' g to a n h.1)
renamed_fits fit fit' g to (least_formula a) n h = renamed_fits fit fit' g to a (suc n) h
renamed_fits fit fit' g to (greatest_formula a) n h = renamed_fits fit fit' g to a (suc n) h
renamed_fits fit fit' g to (reference_formula i) n h = h

-- the formula is closed, and what its modalities name is fit, where they name trees of a row of m nodes
pub read_fits : {M : Type 0} (named : ℕ → M) (fit : M → Type 0) (children : ℕ → ℕ) (m : ℕ) (f : List ℕ) → GoodFormula m f
    → refusal43 f ≡ Ok tt → refusal44 (names_no_root children m) f ≡ Ok tt → refusal45 f ≡ Ok tt
    → ((a : ℕ) → a < m → fit (named a)) → Fits fit 0 (formula_syntax named f)
read_fits named fit children m f good r43 r44 r45 named_fit =
    let (t, closed, few, e) = accepted_words_are_written itself (λ a. a < m) children m (λ a l o. (a, l, refl)) f good r43 r44 r45 in
    subst (λ ws. Fits fit 0 (formula_syntax named ws)) (sym e)
    (subst (Fits fit 0) (sym (words_read named itself (λ a. a < m) t closed)) (renamed_fits (λ a. a < m) fit named named_fit t 0 closed))
