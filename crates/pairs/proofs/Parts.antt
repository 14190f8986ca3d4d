-- The words of the slots are the first three regions of v words. Assumes nothing.
use Rattle.std.proofs.Common.{◌≡◌, ℕ, ◌+◌, ◌-◌, ◌*◌, ◌<◌, ◌≤◌, List, ◌++◌, take, drop, set, sym, ap, ◌∙◌, ap₂, arith, lit<, drop-drop, take-add}
use Rattle.std.specs.Prelude.{MatchOption, IsSomeAnd}
use Rattle.std.specs.Option.{SomeIff}
use Rattle.std.specs.declared.option.Option.{Option}
use Rattle.std.specs.declared.option.Option.TheVariants.{Some, None}
use Rattle.player.specs.declared.VertexIndex.{VertexIndex}
use Rattle.rules.specs.Lists.{word}
use Rattle.work_slice.specs.Regions.{region, put_word}
use Rattle.work_slice.proofs.Regions.{word_at}
use Rattle.pairs.specs.Table.{slots_of}

three : (v : ℕ) (w : List ℕ) → slots_of w v ≡ region 0 v w ++ (region 1 v w ++ region 2 v w)
unfolding region
three v w =
    let d : 3 * v ≡ v + (v + v) = omega arith in
    let a : 0 * v ≡ 0 * (3 * v) = omega arith in
    let b : 0 * (3 * v) + v ≡ 1 * v = omega arith in
    let c : 1 * v + v ≡ 2 * v = omega arith in
    ap (λ (n : ℕ). take n (drop (0 * (3 * v)) w)) d
    ∙ take-add v (v + v) (drop (0 * (3 * v)) w)
    ∙ ap (λ (l : List ℕ). take v (drop (0 * (3 * v)) w) ++ take (v + v) l) (drop-drop v (0 * (3 * v)) w ∙ ap (λ (m : ℕ). drop m w) b)
    ∙ ap (λ (l : List ℕ). take v (drop (0 * (3 * v)) w) ++ l) (take-add v v (drop (1 * v) w))
    ∙ ap₂ (λ (m : ℕ) (l : List ℕ). take v (drop m w) ++ (take v (drop (1 * v) w) ++ take v l)) (sym a) (drop-drop v (1 * v) w ∙ ap (λ (m : ℕ). drop m w) c)

-- where the first four regions are as they were, the slots are
pub slots_kept : (w w' : List ℕ) (v : ℕ) → ((r : ℕ) → r < 4 → region r v w' ≡ region r v w) → slots_of w' v ≡ slots_of w v
slots_kept w w' v e = rw (three v w, three v w', e 0 (lit< tt), e 1 (lit< tt), e 2 (lit< tt))

-- ---- a word of the slots is the word at that place

flat : (v i : ℕ) → 0 * (3 * v) + i ≡ i
flat v i = omega arith

pub slot_at : (v i : ℕ) (w : List ℕ) → i < 3 * v → word w i ≡ word (slots_of w v) i
slot_at v i w h = ap (λ (j : ℕ). word w j) (sym (flat v i)) ∙ word_at 0 (3 * v) i w h

pub slot_set : (v i x : ℕ) (w : List ℕ) → set w i x ≡ put_word 0 (3 * v) i x w
unfolding put_word
slot_set v i x w = ap (λ (j : ℕ). set w j x) (sym (flat v i))

-- ---- what a slot holds, as it is read

pub vertex_read : (held : ℕ) (less : Option ℕ) (vertex : Option VertexIndex) (Is : ℕ → VertexIndex → Type 0)
    → ((x : ℕ) (i : VertexIndex) → Is x i → i.0 ≡ x) → SomeIff less (1 ≤ held) (held - 1)
    → MatchOption less (vertex ≡ None) (λ x. IsSomeAnd vertex (Is x)) → MatchOption vertex (held ≡ 0) (λ i. held ≡ i.0 + 1)
vertex_read held None vertex Is to s m = rw m (omega (arith, s))
vertex_read held (Some x) None Is to s m = absurd m
vertex_read held (Some x) (Some i) Is to s m = omega (arith, s.0, s.1, to x i m)
