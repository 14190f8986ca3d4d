-- No pair is its own target: an operand is a smaller tree, hence another item; an equation's target is a subformula, a
-- reference's an equation. So a settled vertex has an edge to itself exactly if its pair has no targets. Assumes
-- nothing.
use mathlib.Core.Path.{◌≡◌, refl, ap, ◌∙◌}
use mathlib.Core.Logic.{inl, inr}
use mathlib.Core.List.{List, [], ◌∷◌, map}
use Prim.Native.Nat.{ℕ, suc, ◌+◌, ◌<◌}
use native.Mathlib.Omega.{arith}
use Rattle.rules.specs.Lists.{In}
use Rattle.rules.specs.Words.{Input}
use Rattle.rules.specs.Formula.{equation_count, equation_of, Formula, truth, falsity, conjunction, disjunction, box, diamond, reference, body_tree}
use Rattle.rules.specs.Items.{item_number}
use Rattle.rules.specs.Pairs.{Pair, successors, formula_targets, item_targets, targets}
use Rattle.tables.specs.Good.{GoodInput}
use Rattle.lists.proofs.Members.{in_map}
use Rattle.arena.specs.Arena.{Carried, Parts, Inside}
use Rattle.arena.proofs.ItemNumbers.{item_past, item_equal}
use Rattle.arena.proofs.Parts.{carried_parts}
use Rattle.arena.proofs.Inside.{item_cases}

-- how many subformulas a tree has
unfoldable nodes_of : Formula → ℕ
nodes_of truth = 1
nodes_of falsity = 1
nodes_of (conjunction l r) = suc (nodes_of l + nodes_of r)
nodes_of (disjunction l r) = suc (nodes_of l + nodes_of r)
nodes_of (box a b) = suc (nodes_of b)
nodes_of (diamond a b) = suc (nodes_of b)
nodes_of (reference i) = 1

module _ (x : Input) (good : GoodInput x) where
  -- a smaller tree is another item
  smaller : (t u : Formula) (p : Pair) (s : ℕ) → Carried x t → Carried x u → item_number x t ≡ p.1 → nodes_of u < nodes_of t → ¬ (p ≡ (s, item_number x u))
  smaller t u p s c d e h k =
      let i = ap (λ (z : Pair). z.1) k in
      let n = ap nodes_of (item_equal x t u c d (e ∙ i)) in
      omega arith

  two : (t l r : Formula) (p : Pair) (s : ℕ) → Carried x t → Carried x l → Carried x r → item_number x t ≡ p.1 → nodes_of t ≡ suc (nodes_of l + nodes_of r)
      → ¬ In p ((s, item_number x l) ∷ (s, item_number x r) ∷ [])
  two t l r p s c d g e n (inl k) = smaller t l p s c d e (omega arith) k
  two t l r p s c d g e n (inr (inl k)) = smaller t r p s c g e (omega arith) k
  two t l r p s c d g e n (inr (inr k)) = k

  modal : (t b : Formula) (p : Pair) (ss : List ℕ) → Carried x t → Carried x b → item_number x t ≡ p.1 → nodes_of t ≡ suc (nodes_of b) → ¬ In p (map (λ s. (s, item_number x b)) ss)
  modal t b p ss c d e n m =
      let (s, k, f) = in_map (λ s. (s, item_number x b)) p ss m in
      smaller t b p s c d e (omega arith) f

  subformula_apart : (t : Formula) (p : Pair) → Carried x t → Parts x t → item_number x t ≡ p.1 → ¬ In p (formula_targets x p.0 t)
  unfolding formula_targets nodes_of
  subformula_apart truth p c d e m = m
  subformula_apart falsity p c d e m = m
  subformula_apart (conjunction l r) p c d e m = two (conjunction l r) l r p p.0 c d.0 d.1 e refl m
  subformula_apart (disjunction l r) p c d e m = two (disjunction l r) l r p p.0 c d.0 d.1 e refl m
  subformula_apart (box a b) p c d e m = modal (box a b) b p (successors x a p.0) c d e refl m
  subformula_apart (diamond a b) p c d e m = modal (diamond a b) b p (successors x a p.0) c d e refl m
  subformula_apart (reference i) p c d e (inl k) = let j = ap (λ (z : Pair). z.1) k in let h = item_past x (reference i) in omega arith
  subformula_apart (reference i) p c d e (inr k) = k

  pub no_self_target : (p : Pair) → Inside x p → ¬ In p (targets x p)
  unfolding targets item_targets
  no_self_target p (a, b) =
      item_cases x good (λ i. ¬ In p (item_targets x p.0 i)) p.1 b
      (λ l m. only l m)
      (λ t c e m. subformula_apart t p c (carried_parts x good t c) e m)
    where
      only : p.1 < equation_count x.formula → ¬ In p ((p.0, item_number x (body_tree x (equation_of x.formula p.1))) ∷ [])
      only l (inl k) = let j = ap (λ (z : Pair). z.1) k in let h = item_past x (body_tree x (equation_of x.formula p.1)) in omega arith
      only l (inr k) = k
