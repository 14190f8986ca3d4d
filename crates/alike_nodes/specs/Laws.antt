-- The shapes that show a tree: a tree has only one, and a shape shows only one tree. Assumes nothing.
use mathlib.Core.Path.{◌≡◌, refl, sym, ap, ap₂, ◌∙◌}
use mathlib.Core.List.{List, [], ◌∷◌}
use Prim.Native.Nat.{ℕ}
use native.Mathlib.Omega.{arith}
use lib.ListN.{get_or}
use Rattle.rules.specs.Actions.{Action, action_tree, any_action, never_action, multi_action, union, intersection, negation}
use Rattle.rules.specs.Formula.{Formula, formula_tree, truth, falsity, conjunction, disjunction, box, diamond, reference}
use Rattle.rules.specs.Words.{Input}
use Rattle.rules.specs.Table.{size}
use Rattle.node_kinds.specs.declared.ActionKind.{ActionKind}
use Rattle.node_kinds.specs.declared.ActionKind.TheVariants as action
use Rattle.node_kinds.specs.declared.FormulaKind.{FormulaKind}
use Rattle.node_kinds.specs.declared.FormulaKind.TheVariants as formula
use Rattle.node_kinds.specs.Codes.{action_code, formula_code}
use Rattle.node_kinds.specs.declared.Shape.{Shape}
use Rattle.alike_nodes.specs.Nodes.{Last, ActionShown, FormulaShown, ActionShows, FormulaShows}

-- a tree has one last node
pub last_one : {A : Type 0} (tree : ℕ → A) (n : ℕ) (t : A) (l m : ℕ) → Last tree n t l → Last tree n t m → l ≡ m
last_one tree n t l m a b = let p = a.later m b.below b.carries in let q = b.later l a.below a.carries in omega arith

-- ---- action formulas

module _ (tree : ℕ → Action) (n : ℕ) where
  pub action-words : (a : Action) (k l r k' l' r' : ℕ) → ActionShown (Last tree n) a k l r → ActionShown (Last tree n) a k' l' r' → (k ≡ k') × (l ≡ l') × (r ≡ r')
  action-words any_action k l r k' l' r' (a, b, c) (d, e, f) = (a ∙ sym d, b ∙ sym e, c ∙ sym f)
  action-words never_action k l r k' l' r' (a, b, c) (d, e, f) = (a ∙ sym d, b ∙ sym e, c ∙ sym f)
  action-words (multi_action m) k l r k' l' r' (a, b, c) (d, e, f) = (a ∙ sym d, b ∙ sym e, c ∙ sym f)
  action-words (union s t) k l r k' l' r' (a, b, c) (d, e, f) = (a ∙ sym d, last_one tree n s l l' b e, last_one tree n t r r' c f)
  action-words (intersection s t) k l r k' l' r' (a, b, c) (d, e, f) = (a ∙ sym d, last_one tree n s l l' b e, last_one tree n t r r' c f)
  action-words (negation s) k l r k' l' r' (a, b, c) (d, e, f) = (a ∙ sym d, last_one tree n s l l' b e, c ∙ sym f)

  -- the tree is read back off the words
  unfoldable action_by : (k l r : ℕ) → Action
  action_by k l r = get_or (any_action ∷ never_action ∷ multi_action l ∷ union (tree l) (tree r) ∷ intersection (tree l) (tree r) ∷ negation (tree l) ∷ []) k any_action

  action_read : (a : Action) (k l r : ℕ) → ActionShown (Last tree n) a k l r → action_by k l r ≡ a
  unfolding action_by
  action_read any_action k l r (a, b, c) = rw a refl
  action_read never_action k l r (a, b, c) = rw a refl
  action_read (multi_action m) k l r (a, b, c) = rw a (ap multi_action b)
  action_read (union s t) k l r (a, b, c) = rw a (ap₂ union b.carries c.carries)
  action_read (intersection s t) k l r (a, b, c) = rw a (ap₂ intersection b.carries c.carries)
  action_read (negation s) k l r (a, b, c) = rw a (ap negation b.carries)

  pub action_shown_one : (a b : Action) (k l r : ℕ) → ActionShown (Last tree n) a k l r → ActionShown (Last tree n) b k l r → a ≡ b
  action_shown_one a b k l r s t = sym (action_read a k l r s) ∙ action_read b k l r t

-- ---- subformulas

module _ (tree : ℕ → Formula) (n : ℕ) (actions : ℕ → Action) (m : ℕ) where
  pub formula-words : (f : Formula) (k l r k' l' r' : ℕ) → FormulaShown (Last tree n) (Last actions m) f k l r → FormulaShown (Last tree n) (Last actions m) f k' l' r'
      → (k ≡ k') × (l ≡ l') × (r ≡ r')
  formula-words truth k l r k' l' r' (a, b, c) (d, e, f) = (a ∙ sym d, b ∙ sym e, c ∙ sym f)
  formula-words falsity k l r k' l' r' (a, b, c) (d, e, f) = (a ∙ sym d, b ∙ sym e, c ∙ sym f)
  formula-words (conjunction s t) k l r k' l' r' (a, b, c) (d, e, f) = (a ∙ sym d, last_one tree n s l l' b e, last_one tree n t r r' c f)
  formula-words (disjunction s t) k l r k' l' r' (a, b, c) (d, e, f) = (a ∙ sym d, last_one tree n s l l' b e, last_one tree n t r r' c f)
  formula-words (box s t) k l r k' l' r' (a, b, c) (d, e, f) = (a ∙ sym d, last_one tree n t l l' b e, last_one actions m s r r' c f)
  formula-words (diamond s t) k l r k' l' r' (a, b, c) (d, e, f) = (a ∙ sym d, last_one tree n t l l' b e, last_one actions m s r r' c f)
  formula-words (reference i) k l r k' l' r' (a, b, c) (d, e, f) = (a ∙ sym d, b ∙ sym e, c ∙ sym f)

  unfoldable formula_by : (k l r : ℕ) → Formula
  formula_by k l r =
      get_or
      (truth ∷ falsity ∷ conjunction (tree l) (tree r) ∷ disjunction (tree l) (tree r) ∷ box (actions r) (tree l) ∷ diamond (actions r) (tree l) ∷ truth ∷ truth ∷ reference l ∷ [])
      k
      truth

  formula_read : (f : Formula) (k l r : ℕ) → FormulaShown (Last tree n) (Last actions m) f k l r → formula_by k l r ≡ f
  unfolding formula_by
  formula_read truth k l r (a, b, c) = rw a refl
  formula_read falsity k l r (a, b, c) = rw a refl
  formula_read (conjunction s t) k l r (a, b, c) = rw a (ap₂ conjunction b.carries c.carries)
  formula_read (disjunction s t) k l r (a, b, c) = rw a (ap₂ disjunction b.carries c.carries)
  formula_read (box s t) k l r (a, b, c) = rw a (ap₂ box c.carries b.carries)
  formula_read (diamond s t) k l r (a, b, c) = rw a (ap₂ diamond c.carries b.carries)
  formula_read (reference i) k l r (a, b, c) = rw a (ap reference b)

  pub formula_shown_one : (f g : Formula) (k l r : ℕ) → FormulaShown (Last tree n) (Last actions m) f k l r → FormulaShown (Last tree n) (Last actions m) g k l r → f ≡ g
  formula_shown_one f g k l r s t = sym (formula_read f k l r s) ∙ formula_read g k l r t

-- ---- the kinds by their words

module _ {K : Type 0} (code : K → ℕ) (of : ℕ → K) (back : (k : K) → of (code k) ≡ k) where
  code-one : (a b : K) → code a ≡ code b → a ≡ b
  code-one a b e = sym (back a) ∙ ap of e ∙ back b

action_of : ℕ → ActionKind
action_of n = get_or (action.True ∷ action.False ∷ action.MultiAction ∷ action.Union ∷ action.Intersection ∷ action.Negation ∷ []) n action.True

action-back : (k : ActionKind) → action_of (action_code k) ≡ k
unfolding action_of
action-back action.True = refl
action-back action.False = refl
action-back action.MultiAction = refl
action-back action.Union = refl
action-back action.Intersection = refl
action-back action.Negation = refl

formula_of : ℕ → FormulaKind
formula_of n =
    get_or
    (formula.True ∷ formula.False ∷ formula.And ∷ formula.Or ∷ formula.Box ∷ formula.Diamond ∷ formula.Least ∷ formula.Greatest ∷ formula.Reference ∷ [])
    n
    formula.True

formula-back : (k : FormulaKind) → formula_of (formula_code k) ≡ k
unfolding formula_of
formula-back formula.True = refl
formula-back formula.False = refl
formula-back formula.And = refl
formula-back formula.Or = refl
formula-back formula.Box = refl
formula-back formula.Diamond = refl
formula-back formula.Least = refl
formula-back formula.Greatest = refl
formula-back formula.Reference = refl

-- ---- the same of shapes

pub shape_equal : {K : Type 0} (a b : Shape K) → a.kind ≡ b.kind → a.left ≡ b.left → a.right ≡ b.right → a ≡ b
shape_equal {K} a b p q r =
    ap (λ (k : K). shape k a.left a.right) p ∙ ap (λ (l : ℕ). shape b.kind l a.right) q ∙ ap (λ (m : ℕ). shape b.kind b.left m) r
  where
    shape : K → (l r : ℕ) → Shape K
    shape k l r = record { kind = k; left = l; right = r }

pub action_one_shape : (ls acts : List ℕ) (t : Action) (a b : Shape ActionKind) → ActionShows ls acts t a → ActionShows ls acts t b → a ≡ b
action_one_shape ls acts t a b p q =
    let (k, l, r) = action-words (action_tree ls acts) (size acts) t (action_code a.kind) a.left a.right (action_code b.kind) b.left b.right p q in
    shape_equal a b (code-one action_code action_of action-back a.kind b.kind k) l r

pub action_one_tree : (ls acts : List ℕ) (s t : Action) (a : Shape ActionKind) → ActionShows ls acts s a → ActionShows ls acts t a → s ≡ t
action_one_tree ls acts s t a p q =
    action_shown_one (action_tree ls acts) (size acts) s t (action_code a.kind) a.left a.right p q

pub formula_one_shape : (x : Input) (t : Formula) (a b : Shape FormulaKind) → FormulaShows x t a → FormulaShows x t b → a ≡ b
formula_one_shape x t a b p q =
    let (k, l, r) = formula-words (formula_tree x) (size x.formula) (action_tree x.labels x.actions) (size x.actions) t
    (formula_code a.kind) a.left a.right (formula_code b.kind) b.left b.right p q in
    shape_equal a b (code-one formula_code formula_of formula-back a.kind b.kind k) l r

pub formula_one_tree : (x : Input) (s t : Formula) (a : Shape FormulaKind) → FormulaShows x s a → FormulaShows x t a → s ≡ t
formula_one_tree x s t a p q =
    formula_shown_one (formula_tree x) (size x.formula) (action_tree x.labels x.actions) (size x.actions) s t
    (formula_code a.kind) a.left a.right p q
