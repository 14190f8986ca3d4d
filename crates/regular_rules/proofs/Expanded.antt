-- The expansion of a formula whose references and leaves are fit is such a formula, and how many nodes it has. Assumes
-- nothing.
use mathlib.Core.Path.{◌≡◌, refl, ap, ap₂, ◌∙◌}
use mathlib.Core.Bool.{Bool, true, false, cond}
use Prim.Native.Nat.{ℕ, suc, ◌+◌, ◌<◌}
use native.Mathlib.Omega.{arith}
use lib.Dec.{ltb}
use Rattle.writing.specs.FormulaSyntax.{FormulaOver, true_formula, false_formula, and_formula, or_formula, box_formula}
use Rattle.writing.specs.FormulaSyntax.{diamond_formula, least_formula, greatest_formula, reference_formula}
use Rattle.writing.specs.FormulaSyntax.{formula_size, Fits}
use Rattle.regular_rules.specs.Regular.{Regular, action, sequence, choice, star, plus}
use Rattle.regular_rules.specs.Expand.{Modality, box, diamond, modal_formula, both_formula, again_formula, below, modal}
use Rattle.regular_rules.specs.Expand.{expand}
use Rattle.regular_rules.specs.Sizes.{modal_size}
use Rattle.regular_rules.specs.Accepts.{Leaves}

-- ---- under one more fixpoint

below_reference : (i n inner : ℕ) → i < n → cond (ltb i inner) i (suc i) < suc n
below_reference i n inner h = go (ltb i inner)
  where
    go : (t : Bool) → cond t i (suc i) < suc n
    go true = omega arith
    go false = omega arith

pub below_fits : {M : Type 0} (fit : M → Type 0) (t : FormulaOver M) (n inner : ℕ) → Fits fit n t → Fits fit (suc n) (below t inner)
unfolding below
below_fits fit true_formula n inner h = tt
below_fits fit false_formula n inner h = tt
below_fits fit (and_formula a b) n inner h = (below_fits fit a n inner h.0, below_fits fit b n inner h.1)
below_fits fit (or_formula a b) n inner h = (below_fits fit a n inner h.0, below_fits fit b n inner h.1)
below_fits fit (box_formula m a) n inner h = (h.0, below_fits fit a n inner h.1)
below_fits fit (diamond_formula m a) n inner h = (h.0, below_fits fit a n inner h.1)
below_fits fit (least_formula a) n inner h = below_fits fit a (suc n) (suc inner) h
below_fits fit (greatest_formula a) n inner h = below_fits fit a (suc n) (suc inner) h
below_fits fit (reference_formula i) n inner h = below_reference i n inner h

pub below_size : {M : Type 0} (t : FormulaOver M) (inner : ℕ) → formula_size (below t inner) ≡ formula_size t
unfolding below formula_size
below_size true_formula inner = refl
below_size false_formula inner = refl
below_size (and_formula a b) inner = ap₂ (λ x y. suc (x + y)) (below_size a inner) (below_size b inner)
below_size (or_formula a b) inner = ap₂ (λ x y. suc (x + y)) (below_size a inner) (below_size b inner)
below_size (box_formula m a) inner = ap suc (below_size a inner)
below_size (diamond_formula m a) inner = ap suc (below_size a inner)
below_size (least_formula a) inner = ap suc (below_size a (suc inner))
below_size (greatest_formula a) inner = ap suc (below_size a (suc inner))
below_size (reference_formula i) inner = refl

-- ---- fit

module _ (fit : ℕ → Type 0) where
  pub modal_formula_fits : (m : Modality) (a : ℕ) (t : FormulaOver ℕ) (n : ℕ) → fit a → Fits fit n t → Fits fit n (modal_formula m a t)
  unfolding modal_formula
  modal_formula_fits box a t n p h = (p, h)
  modal_formula_fits diamond a t n p h = (p, h)

  pub both_fits : (m : Modality) (t u : FormulaOver ℕ) (n : ℕ) → Fits fit n t → Fits fit n u → Fits fit n (both_formula m t u)
  unfolding both_formula
  both_fits box t u n g h = (g, h)
  both_fits diamond t u n g h = (g, h)

  pub again_fits : (m : Modality) (t : FormulaOver ℕ) (n : ℕ) → Fits fit (suc n) t → Fits fit n (again_formula m t)
  unfolding again_formula
  again_fits box t n h = h
  again_fits diamond t n h = h

  -- one pass, past which the fixpoint stands, and what follows
  star_fits : (m : Modality) (r : Regular) (t : FormulaOver ℕ) (n : ℕ) → Fits fit (suc n) (modal m r (reference_formula 0))
      → Fits fit n t → Fits fit n (modal m (star r) t)
  unfolding modal
  star_fits m r t n g h =
      again_fits m (both_formula m (modal m r (reference_formula 0)) (below t 0)) n
      (both_fits m (modal m r (reference_formula 0)) (below t 0) (suc n) g (below_fits fit t n 0 h))

  pub modal_fits : (m : Modality) (r : Regular) (t : FormulaOver ℕ) (n : ℕ) → Leaves fit r → Fits fit n t → Fits fit n (modal m r t)
  unfolding modal
  modal_fits m (action a) t n p h = modal_formula_fits m a t n p h
  modal_fits m (sequence r s) t n p h = modal_fits m r (modal m s t) n p.0 (modal_fits m s t n p.1 h)
  modal_fits m (choice r s) t n p h =
      both_fits m (modal m r t) (modal m s t) n (modal_fits m r t n p.0 h) (modal_fits m s t n p.1 h)
  modal_fits m (star r) t n p h =
      star_fits m r t n (modal_fits m r (reference_formula 0) (suc n) p (omega arith)) h
  modal_fits m (plus r) t n p h =
      modal_fits m r (modal m (star r) t) n p
      (star_fits m r t n (modal_fits m r (reference_formula 0) (suc n) p (omega arith)) h)

  pub expand_fits : (t : FormulaOver Regular) (n : ℕ) → Fits (Leaves fit) n t → Fits fit n (expand t)
  unfolding expand
  expand_fits true_formula n h = tt
  expand_fits false_formula n h = tt
  expand_fits (and_formula a b) n h = (expand_fits a n h.0, expand_fits b n h.1)
  expand_fits (or_formula a b) n h = (expand_fits a n h.0, expand_fits b n h.1)
  expand_fits (box_formula r a) n h = modal_fits box r (expand a) n h.0 (expand_fits a n h.1)
  expand_fits (diamond_formula r a) n h = modal_fits diamond r (expand a) n h.0 (expand_fits a n h.1)
  expand_fits (least_formula a) n h = expand_fits a (suc n) h
  expand_fits (greatest_formula a) n h = expand_fits a (suc n) h
  expand_fits (reference_formula i) n h = h

-- ---- how many nodes

pub modal_formula_size : (m : Modality) (a : ℕ) (t : FormulaOver ℕ) → formula_size (modal_formula m a t) ≡ suc (formula_size t)
unfolding modal_formula formula_size
modal_formula_size box a t = refl
modal_formula_size diamond a t = refl

pub both_size : (m : Modality) (t u : FormulaOver ℕ) → formula_size (both_formula m t u) ≡ suc (formula_size t + formula_size u)
unfolding both_formula formula_size
both_size box t u = refl
both_size diamond t u = refl

pub again_size : (m : Modality) (t : FormulaOver ℕ) → formula_size (again_formula m t) ≡ suc (formula_size t)
unfolding again_formula formula_size
again_size box t = refl
again_size diamond t = refl

star_size : (m : Modality) (r : Regular) (t : FormulaOver ℕ)
    → formula_size (modal m (star r) t) ≡ suc (suc (formula_size (modal m r (reference_formula 0)) + formula_size t))
unfolding modal
star_size m r t =
    again_size m (both_formula m (modal m r (reference_formula 0)) (below t 0))
    ∙ ap suc
    (both_size m (modal m r (reference_formula 0)) (below t 0)
    ∙ ap (λ s. suc (formula_size (modal m r (reference_formula 0)) + s)) (below_size t 0))

pub modal_size_told : (m : Modality) (r : Regular) (t : FormulaOver ℕ) → formula_size (modal m r t) ≡ modal_size r (formula_size t)
unfolding modal modal_size formula_size
modal_size_told m (action a) t = modal_formula_size m a t
modal_size_told m (sequence r s) t =
    modal_size_told m r (modal m s t) ∙ ap (modal_size r) (modal_size_told m s t)
modal_size_told m (choice r s) t =
    both_size m (modal m r t) (modal m s t)
    ∙ ap₂ (λ x y. suc (x + y)) (modal_size_told m r t) (modal_size_told m s t)
modal_size_told m (star r) t =
    star_size m r t ∙ ap (λ s. suc (suc (s + formula_size t))) (modal_size_told m r (reference_formula 0))
modal_size_told m (plus r) t =
    modal_size_told m r (modal m (star r) t)
    ∙ ap (modal_size r)
    (star_size m r t ∙ ap (λ s. suc (suc (s + formula_size t))) (modal_size_told m r (reference_formula 0)))
