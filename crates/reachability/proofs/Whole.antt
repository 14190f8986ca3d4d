-- The whole call: what its parts leave is the restriction, and so what `Restricts` and `RestrictionDemand1` say.
-- Assumes nothing.
use mathlib.Core.Path.{◌≡◌, sym, ap, ◌∙◌, subst}
use mathlib.Core.List.{List}
use Prim.Native.Nat.{ℕ}
use lib.ListN.{length, take, replicate}
use Rattle.rules.specs.declared.Answer.{Answer}
use Rattle.rules.specs.declared.Answer.TheVariants.{Done}
use Rattle.rules.specs.Lists.{zeros}
use Rattle.rules.specs.Answers.{Accepted}
use Rattle.rules.specs.Game.{edge_count, game_of, padded, vertex_count}
use Rattle.rules.specs.Restrict.{reached_vertices, kept_vertices, Restricted, restricted_to, restriction}
use Rattle.rules.specs.Restricts.{Restricts}
use Rattle.restrictions.proofs.Kept.{kept_length}
use Rattle.restrictions.proofs.Restriction.{restriction_restricts}
use Rattle.reachability.specs.Knowing.{Knows}
use Rattle.reachability.proofs.Meeting.{length_known}
use Rattle.reachability.proofs.Written.{map_is}

-- a slice is cleared
pub cleared : (ws ws₁ ws' : List ℕ) → length ws₁ ≡ length ws → ws' ≡ replicate (length ws₁) 0 → ws' ≡ zeros ws
unfolding zeros
cleared ws ws₁ ws' l e = e ∙ ap (λ (n : ℕ). replicate n 0) l

-- what a call leaves
abbrev pub left : Answer → List ℕ → List ℕ → List ℕ → Restricted
left r out mapping work = record { answer = r; out = out; mapping = mapping; work = work }

parts : {a a' : Answer} {o o' n n' w w' : List ℕ} → a ≡ a' → o ≡ o' → n ≡ n' → w ≡ w'
    → ◌≡◌ {A = Restricted} (record { answer = a; out = o; mapping = n; work = w }) (record { answer = a'; out = o'; mapping = n'; work = w' })
parts e f g h = cc

pub leaves : (g out mapping work work₁ out' work' : List ℕ) (count edges : ℕ) → Knows count mapping work₁ → length mapping ≡ vertex_count g
    → take count work₁ ≡ reached_vertices g → edges ≡ edge_count (kept_vertices g (take count work₁))
    → out' ≡ padded (length out) (game_of 0 (kept_vertices g (take count work₁))) → work' ≡ zeros work
    → left (Done count count edges) out' mapping work' ≡ restricted_to g (reached_vertices g) out work
unfolding restricted_to
leaves g out mapping work work₁ out' work' count edges k n e f h w =
    let many : count ≡ length (kept_vertices g (reached_vertices g)) = sym (length_known k) ∙ ap length e ∙ sym (kept_length g (reached_vertices g)) in
    let most : edges ≡ edge_count (kept_vertices g (reached_vertices g)) = f ∙ ap (λ (l : List ℕ). edge_count (kept_vertices g l)) e in
    parts (rw (many, most)) (h ∙ ap (λ (l : List ℕ). padded (length out) (game_of 0 (kept_vertices g l))) e) (map_is g mapping work₁ count k n e) w

-- what equals the restriction says what users rely on
pub read_back : (g out mapping work : List ℕ) (a : Answer) (out' mapping' work' : List ℕ)
    → left a out' mapping' work' ≡ restriction g out mapping work → Accepted a
    → Restricts g a out' mapping' (reached_vertices g)
read_back g out mapping work a out' mapping' work' e accepted =
    subst (λ (x : Restricted). Restricts g x.answer x.out x.mapping (reached_vertices g)) (sym e)
    (restriction_restricts g out mapping work (subst (λ (x : Restricted). Accepted x.answer) e accepted))
