-- Reading the line of a vertex at a place of the text. Assumes nothing.
use Prim.Native.Nat.{ℕ, ◌+◌, ◌≤◌, ◌<◌}
use native.Mathlib.Omega.{arith}
use mathlib.Core.Path.{◌≡◌, refl, ap, ◌∙◌, subst}
use mathlib.Core.List.{List, [], ◌∷◌}
use mathlib.Core.Option.{Option, none, some}
use lib.ListN.{length}
use borrow.Author.Tests.{lt-ltb, le-ltb}
use Rattle.rules.specs.TextReading.{Front, front, then_read, read_byte, read_bytes, read_field}
use Rattle.rules.specs.Pgsolver.{SolverLine}
use Rattle.rules.specs.PgsolverParse.{read_list, read_named, read_owner, read_line}
use Rattle.game_texts.proofs.Parsing.{some_same, then_some, then-read, owner_sound}
use Rattle.std.specs.Prelude.{Some}
use Rattle.pgsolver_scan.specs.declared.Number.{Number}
use Rattle.pgsolver_scan.specs.declared.Numbers.{Numbers}
use Rattle.pgsolver_scan.specs.Told.{saturated, since, read_successors, Told, ToldList, ToldSkip, ToldRow}
use Rattle.pgsolver_scan.proofs.Reading.{then_none}

-- ---- the owner

above_one : (n : ℕ) → 1 < saturated n → 1 < n
unfolding saturated
above_one n h = omega arith

at_most_one : (n : ℕ) → saturated n ≤ 1 → n ≤ 1
unfolding saturated
at_most_one n h = omega arith

small_same : (n : ℕ) → n ≤ 1 → saturated n ≡ n
unfolding saturated
small_same n h = omega arith

module _ (text : List ℕ) (p : ℕ) where
  pub owner_none : read_field 32 (since text p) ≡ none → read_owner (since text p) ≡ none
  unfolding read_owner
  owner_none e = then_none _ e

  module _ (x : Number) (t : Told (Some x) (read_field 32 (since text p)) text) where
    pub owner_large : 1 < x.value → read_owner (since text p) ≡ none
    unfolding read_owner
    owner_large h =
        let large = above_one t.0 (subst (λ (k : ℕ). 1 < k) t.2 h) in
        then-read _ (front t.0 (since text x.next)) t.1 ∙ rw (lt-ltb 1 t.0 large) refl

    pub owner_told : x.value ≤ 1 → Told (Some x) (read_owner (since text p)) text
    unfolding read_owner
    owner_told h =
        let one = at_most_one t.0 (subst (λ (k : ℕ). k ≤ 1) t.2 h) in
        (t.0, then-read _ (front t.0 (since text x.next)) t.1 ∙ rw (le-ltb 1 t.0 one) refl, t.2, t.3)

-- ---- the successors and the end of the line

module _ (text : List ℕ) (p : ℕ) where
  pub successors_none : read_list (since text p) ≡ none → read_successors (since text p) ≡ none
  unfolding read_successors
  successors_none e = then_none _ e

  module _ (l : Numbers) (t : ToldList (Some l) (read_list (since text p)) text) where
    pub successors_unnamed : read_named (since text l.next) ≡ none → read_successors (since text p) ≡ none
    unfolding read_successors
    successors_unnamed f = then-read _ (front t.0 (since text l.next)) t.1 ∙ then_none _ f

    module _ (z : ℕ) (u : ToldSkip {A = Option (List ℕ)} (Some z) (read_named (since text l.next)) text) where
      pub successors_open : read_bytes (59 ∷ 10 ∷ []) (since text z) ≡ none → read_successors (since text p) ≡ none
      unfolding read_successors
      successors_open g =
          then-read _ (front t.0 (since text l.next)) t.1
          ∙ then-read _ (front u.0 (since text z)) u.1 ∙ then_none _ g

      pub successors_told : read_bytes (59 ∷ 10 ∷ []) (since text z) ≡ some (since text (z + 2)) → z + 2 ≤ length text
          → ToldList (Some (record { largest = l.largest; listed = l.listed; next = z + 2 }))
          (read_successors (since text p)) text
      unfolding read_successors
      successors_told g h = (
        t.0,
        then-read _ (front t.0 (since text l.next)) t.1
            ∙ then-read _ (front u.0 (since text z)) u.1 ∙ then-read _ (since text (z + 2)) g,
        t.2,
        t.3,
        h,
      )

-- ---- what is made of the successors and the name, where both and the end of the line are read

unfoldable closing : {B : Type 0} → (List ℕ → Option (List ℕ) → B) → List ℕ → Option (Front B)
closing f ts =
    then_read (read_list ts) (λ s. then_read (read_named s.rest) (λ n.
    then_read (read_bytes (59 ∷ 10 ∷ []) n.rest) (λ r. some (front (f s.value n.value) r))))

then_both : {A B C : Type 0} (m : Option A) (f : A → Option B) (g : A → Option C)
    → ((a : A) → f a ≡ none → g a ≡ none) → then_read m f ≡ none → then_read m g ≡ none
unfolding then_read
then_both none f g h e = refl
then_both (some a) f g h e = h a e

some_not : {A B : Type 0} (a : A) (m : Option B) → some a ≡ none → m ≡ none
some_not a m e = absurd (let z : ◌≡◌ {A = ℕ} 0 1 = cc in omega arith)

closing_none : {B : Type 0} (f : List ℕ → Option (List ℕ) → B) (ts : List ℕ) → read_successors ts ≡ none
    → closing f ts ≡ none
unfolding closing read_successors
closing_none f ts e =
    then_both (read_list ts) _ _
    (λ s. then_both (read_named s.rest) _ _
    (λ n. then_both (read_bytes (59 ∷ 10 ∷ []) n.rest) _ _ (λ r. some_not _ _))) e

-- something stands before the end of a line
pub end_behind : (ts : List ℕ) (n : Front (Option (List ℕ))) (r : List ℕ) → read_named ts ≡ some n
    → read_bytes (59 ∷ 10 ∷ []) n.rest ≡ some r → 1 ≤ length ts
unfolding read_named read_bytes read_byte then_read
end_behind [] n r e f =
    let same : front none [] ≡ n = some_same e in
    let g : read_bytes (59 ∷ 10 ∷ []) [] ≡ some r
    = ap (λ (x : Front (Option (List ℕ))). read_bytes (59 ∷ 10 ∷ []) x.rest) same ∙ f in
    absurd (let z : ◌≡◌ {A = ℕ} 0 1 = cc in omega arith)
end_behind (c ∷ cs) n r e f = omega arith

closing_some : {B : Type 0} (f : List ℕ → Option (List ℕ) → B) (ts ns r : List ℕ)
    → read_successors ts ≡ some (front ns r)
    → (name : Option (List ℕ)) × (closing f ts ≡ some (front (f ns name) r))
unfolding closing read_successors
closing_some f ts ns r e =
    let (s, e1, f1) = then_some (read_list ts) _ (front ns r) e in
    let (n, e2, f2) = then_some (read_named s.rest) _ (front ns r) f1 in
    let (u, e3, f3) = then_some (read_bytes (59 ∷ 10 ∷ []) n.rest) _ (front ns r) f2 in
    let same : front s.value u ≡ front ns r = some_same f3 in (
      n.value,
      then-read _ s e1 ∙ then-read _ n e2 ∙ then-read _ u e3
          ∙ ap (λ (x : Front (List ℕ)). some (front (f x.value n.value) x.rest)) same,
    )

-- ---- the line

said : (number priority owner : ℕ) → List ℕ → Option (List ℕ) → SolverLine
said number priority owner successors name =
    record { number = number; priority = priority; owner = owner; successors = successors; name = name }

module _ (text : List ℕ) (p : ℕ) where
  pub line_unnumbered : read_field 32 (since text p) ≡ none → read_line (since text p) ≡ none
  unfolding read_line
  line_unnumbered e = then_none _ e

  module _ (a : Number) (s : Told (Some a) (read_field 32 (since text p)) text) where
    pub line_unranked : read_field 32 (since text a.next) ≡ none → read_line (since text p) ≡ none
    unfolding read_line
    line_unranked e = then-read _ (front s.0 (since text a.next)) s.1 ∙ then_none _ e

    module _ (b : Number) (t : Told (Some b) (read_field 32 (since text a.next)) text) where
      pub line_unowned : read_owner (since text b.next) ≡ none → read_line (since text p) ≡ none
      unfolding read_line
      line_unowned e =
          then-read _ (front s.0 (since text a.next)) s.1
          ∙ then-read _ (front t.0 (since text b.next)) t.1 ∙ then_none _ e

      module _ (o : Number) (u : Told (Some o) (read_owner (since text b.next)) text) where
        rest_of : read_line (since text p) ≡ closing (said s.0 t.0 u.0) (since text o.next)
        unfolding read_line closing said
        rest_of =
            then-read _ (front s.0 (since text a.next)) s.1
            ∙ then-read _ (front t.0 (since text b.next)) t.1
            ∙ then-read _ (front u.0 (since text o.next)) u.1

        pub line_open : read_successors (since text o.next) ≡ none → read_line (since text p) ≡ none
        line_open e = rest_of ∙ closing_none (said s.0 t.0 u.0) (since text o.next) e

        pub line_told : (l : Numbers) → ToldList (Some l) (read_successors (since text o.next)) text
            → ToldRow (Some (record {
              number = a.value;
              priority = b.value;
              owner = o.value;
              largest = l.largest;
              listed = l.listed;
              next = l.next;
            })) (read_line (since text p)) text
        unfolding said
        line_told l (ns, e, most, c, h) =
            let line = said s.0 t.0 u.0 in
            let (name, f) = closing_some line (since text o.next) ns (since text l.next) e in
            let small = (owner_sound (since text b.next) (front u.0 (since text o.next)) u.1).1 in (
              line ns name,
              rest_of ∙ f,
              record {
                number = s.2;
                priority = t.2;
                owner = u.2 ∙ small_same u.0 small;
                top = most;
                listed = c;
              },
              h,
            )
