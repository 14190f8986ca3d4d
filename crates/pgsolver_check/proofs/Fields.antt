-- The fields of a line, one after the other: each stands where the one before it ends. Assumes nothing.
use Prim.Native.Nat.{ℕ, ◌≤◌, ◌<◌}
use native.Mathlib.Omega.{arith}
use mathlib.Core.Path.{◌≡◌, refl, sym, ap, ◌∙◌, subst}
use mathlib.Core.List.{List, map}
use mathlib.Core.Option.{some}
use lib.ListN.{length}
use Rattle.rules.specs.Lists.{In}
use Rattle.lists.proofs.Members.{map_in}
use Rattle.rules.specs.Pgsolver.{SolverLine}
use Rattle.rules.specs.TextReading.{Front, front, read_field}
use Rattle.rules.specs.PgsolverParse.{read_list}
use Rattle.game_texts.proofs.Parsing.{some_same}
use Rattle.std.specs.Prelude.{Some}
use Rattle.pgsolver_scan.specs.declared.Number.{Number}
use Rattle.pgsolver_scan.specs.Told.{saturated, since, past_line, Told, StandsField}
use Rattle.pgsolver_scan.proofs.SameLine.{field-line}
use Rattle.pgsolver_check.specs.Lines.{lines_from, ranks_of, Readable, Narrow, Body}
use Rattle.pgsolver_scan.specs.Successors.{value_or, list_at, Listed}
use Rattle.pgsolver_check.proofs.Bounding.{in_largest}
use Rattle.pgsolver_check.proofs.Walking.{Walk, line_body, number_top, successor_top, walk-next, walk_among}
use Rattle.pgsolver_check.proofs.Walking.{walk_number}

-- a list of successors that stands at a place
pub listed_at : {text : List ℕ} {place : ℕ} {ns rest : List ℕ} → place ≤ length text
    → read_list (since text place) ≡ some (front ns rest) → 1 ≤ length rest → ((s : ℕ) → In s ns → s < 1048576)
    → (list_at text place ≡ ns) × Listed text place
listed_at {text} {place} {ns} {rest} w e ended small =
    let same : list_at text place ≡ ns = at in (
      same,
      record {
        within = w;
        rest = rest;
        reads = e ∙ ap (λ (ms : List ℕ). some (front ms rest)) (sym same);
        ended = ended;
        small = λ s i. small s (subst (λ (ms : List ℕ). In s ms) same i);
      },
    )
  where
    at : list_at text place ≡ ns
    at = unfold list_at value_or in rw e refl

-- ---- a field that was read where one is known to stand

pub field_is : (text : List ℕ) (p : ℕ) {n : ℕ} {rest : List ℕ} → read_field 32 (since text p) ≡ some (front n rest)
    → p ≤ length text → (x : Number) → Told (Some x) (read_field 32 (since text p)) text
    → (x.value ≡ saturated n) × (rest ≡ since text x.next) × (x.next ≤ length text)
    × (past_line text p ≡ past_line text x.next)
field_is text p {n} {rest} known h x (m, g, s, w) =
    let q = x.next in
    let same : front n rest ≡ front m (since text q) = some_same (sym known ∙ g) in (
      s ∙ ap (λ (f : Front ℕ). saturated f.value) (sym same),
      ap (λ (f : Front ℕ). f.rest) same,
      w,
      field-line text p q m h w g,
    )

-- ---- the number of the next line, then its priority and its owner

pub line_number : {text : List ℕ} {first p : ℕ} (r : Readable text first) (k : Walk text first p) (h : p < length text)
    → (walk-next r k h).line.number < 4294967296 → StandsField text p
line_number {text} {first} {p} r k h small =
    let x = walk-next r k h in
    let (f, b, c, d) = line_body (since text p) (front x.line (since text x.next)) x.reads in
    record { within = omega arith; number = f.value; rest = f.rest; reads = b; small = omega (arith, c, small) }

module _ (text : List ℕ) (q : ℕ) {line : SolverLine} (w : q ≤ length text) (body : Body (since text q) line) where
  pub line-priority : line.priority < 4294967296 → StandsField text q
  line-priority small =
      record { within = w; number = line.priority; rest = body.ranked; reads = body.priority; small = small }

  module _ (x : Number) (a : Told (Some x) (read_field 32 (since text q)) text) where
    pub owner-known : read_field 32 (since text x.next) ≡ some (front line.owner body.owned)
    owner-known = ap (read_field 32) (sym (field_is text q body.priority w x a).1) ∙ body.owner

    pub line-owner : StandsField text x.next
    line-owner =
        record {
          within = a.3;
          number = line.owner;
          rest = body.owned;
          reads = owner-known;
          small = omega (arith, body.small);
        }

-- ---- of a line among those whose numbers are small

pub priority_rank : (ls : List SolverLine) (x : SolverLine) → In x ls → x.priority ≤ ranks_of ls
unfolding ranks_of
priority_rank ls x i =
    in_largest (map (λ l. l.priority) ls) x.priority (map_in (λ (l : SolverLine). l.priority) x ls i)

module _ {text : List ℕ} {first p : ℕ} (r : Narrow text first) (k : Walk text first p) (h : p < length text) where
  abbrev line : SolverLine
  line = (walk-next r.readable k h).line

  abbrev among : In line (lines_from text first)
  among = walk_among r.readable k h

  pub number_stands : StandsField text p
  number_stands =
      line_number r.readable k h (omega (arith, number_top (lines_from text first) line among, r.low))

  module _ (n1 : Number) (a : Told (Some n1) (read_field 32 (since text p)) text) where
    body : Body (since text n1.next) line
    body = (walk_number r.readable k h n1 a).2

    pub priority_stands : StandsField text n1.next
    priority_stands =
        line-priority text n1.next a.3 body (omega (arith, priority_rank (lines_from text first) line among, r.ranks))

    module _ (n2 : Number) (b : Told (Some n2) (read_field 32 (since text n1.next)) text) where
      pub owner_stands : StandsField text n2.next
      owner_stands = line-owner text n1.next a.3 body n2 b

      module _ (n3 : Number) (c : Told (Some n3) (read_field 32 (since text n2.next)) text) where
        pub successors_stand : (list_at text n3.next ≡ line.successors) × Listed text n3.next
        successors_stand =
            listed_at c.3
            (ap read_list (sym (field_is text n2.next (owner-known text n1.next a.3 body n2 b) b.3 n3 c).1)
            ∙ body.successors)
            body.ended (λ s i. omega (arith, r.low, successor_top (lines_from text first) line among s i))

        pub fields_line : past_line text p ≡ past_line text n3.next
        fields_line =
            field-line text p n1.next a.0 (omega arith) a.3 a.1
            ∙ field-line text n1.next n2.next b.0 a.3 b.3 b.1
            ∙ field-line text n2.next n3.next c.0 b.3 c.3 c.1
