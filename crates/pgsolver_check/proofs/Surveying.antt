-- The first pass: the lines of a text, one after the other. Assumes nothing.
use Prim.Native.Nat.{ℕ, zero, suc, ◌+◌, ◌*◌, ◌≤◌, ◌<◌, min, max}
use native.Mathlib.Omega.{arith}
use mathlib.Core.Path.{◌≡◌, refl, sym, ap, ◌∙◌, subst}
use mathlib.Core.Bool.{Bool, true, false, ◌&&◌, true≢false}
use mathlib.Core.List.{List, [], ◌∷◌, ◌++◌, map, append-nil}
use mathlib.Core.Option.{Option, none, some}
use lib.ListN.{length, length-append, length-drop}
use lib.Dec.{eqb}
use native.Mathlib.Decide.{ℕ_discrete}
use borrow.Author.Tests.{eq-eqb, ne_eqb}
use Rattle.rules.specs.Lists.{Distinct, largest}
use Rattle.lists.proofs.Members.{map-append}
use Rattle.rules.specs.Texts.{decimal}
use Rattle.rules.specs.Pgsolver.{SolverLine, SolverText, comma_text, list_text, name_text, line_text}
use Rattle.rules.specs.TextReading.{Front, front, then_read}
use Rattle.rules.specs.PgsolverParse.{read_line, with_line, read_lines, read_header, parse}
use Rattle.rules.specs.PgsolverReading.{numbers_of}
use Rattle.bitmap.specs.Marks.{Holds}
use Rattle.game_texts.proofs.Parsing.{then-read, line_sound}
use Rattle.game_texts.proofs.Decimals.{decimal_some}
use Rattle.std.specs.Prelude.{Some}
use Rattle.pgsolver_scan.specs.declared.VertexLine.{VertexLine}
use Rattle.pgsolver_scan.specs.Told.{saturated, since, Told, RowAt, ToldRow}
use Rattle.pgsolver_scan.proofs.Scanning.{since_end}
use Rattle.pgsolver_scan.proofs.Reading.{then_none}
use Rattle.pgsolver_check.specs.declared.Found.{Found}
use Rattle.pgsolver_check.specs.Lines.{text_or, solver_text, lines_at, top_of, tops_of, ranks_of, in_order}
use Rattle.pgsolver_check.specs.Windows.{Apart}
use Rattle.pgsolver_check.specs.declared.Numbering.TheVariants.{InOrder}
use Rattle.pgsolver_check.specs.Numbers.{in_turn, apart}
use Rattle.pgsolver_check.specs.Survey.{Addable, Added, Seen}
use Rattle.pgsolver_check.proofs.Bounding.{largest_more, tops_more, no_edges, Enough, enough_more}
use Rattle.pgsolver_check.proofs.Collecting.{Collected, collected_none, collected_twice, collected_more}
use Rattle.pgsolver_check.proofs.Collecting.{noted_exact, again_exact, distinct_before}

-- ---- a line that was read

-- a comma or more for each number
commas_long : (ns : List ℕ) → length ns ≤ length (comma_text ns)
unfolding comma_text
commas_long [] = omega arith
commas_long (n ∷ ns) = omega (arith, commas_long ns, length-append (decimal n) (comma_text ns))

list_long : (ns : List ℕ) → length ns ≤ length (list_text ns)
unfolding list_text
list_long [] = omega arith
list_long (n ∷ ns) = omega (arith, commas_long ns, decimal_some n, length-append (decimal n) (comma_text ns))

-- two bytes at least, and one for each successor
line_long : (l : SolverLine) → 2 + length l.successors ≤ length (line_text l)
unfolding line_text
line_long l =
    let end : List ℕ = name_text l.name ++ (59 ∷ 10 ∷ []) in
    let listed : List ℕ = list_text l.successors ++ end in
    let owned : List ℕ = decimal l.owner ++ (32 ∷ listed) in
    let ranked : List ℕ = decimal l.priority ++ (32 ∷ owned) in
    omega (
      arith,
      list_long l.successors,
      length-append (decimal l.number) (32 ∷ ranked),
      length-append (decimal l.priority) (32 ∷ owned),
      length-append (decimal l.owner) (32 ∷ listed),
      length-append (list_text l.successors) end,
    )

pub line_later : (text : List ℕ) (p next : ℕ) (l : SolverLine) → p ≤ length text → next ≤ length text
    → read_line (since text p) ≡ some (front l (since text next)) → p + 2 + length l.successors ≤ next
line_later text p next l h k e =
    omega (
      arith,
      ap length (line_sound (since text p) (front l (since text next)) e).0,
      length-append (line_text l) (since text next),
      line_long l,
      length-drop p text,
      length-drop next text,
    )

-- ---- lines in front

unfoldable pub with_lines : List SolverLine → Option (List SolverLine) → Option (List SolverLine)
with_lines [] m = m
with_lines (l ∷ ls) m = with_line l (with_lines ls m)

lines_snoc : (ls : List SolverLine) (l : SolverLine) (m : Option (List SolverLine)) → with_lines (ls ++ (l ∷ [])) m
    ≡ with_lines ls (with_line l m)
unfolding with_lines
lines_snoc [] l m = refl
lines_snoc (k ∷ ls) l m = ap (with_line k) (lines_snoc ls l m)

pub lines_done : (ls ms : List SolverLine) → with_lines ls (some ms) ≡ some (ls ++ ms)
unfolding with_lines with_line
lines_done [] ms = refl
lines_done (k ∷ ls) ms = ap (with_line k) (lines_done ls ms)

lines_none : (ls : List SolverLine) → with_lines ls none ≡ none
unfolding with_lines with_line
lines_none [] = refl
lines_none (k ∷ ls) = ap (with_line k) (lines_none ls)

-- ---- one line more

fuel : (f g : ℕ) (ts : List ℕ) → length ts ≤ f → length ts ≤ g → read_lines f ts ≡ read_lines g ts
unfolding read_lines then_read with_line
fuel zero zero ts h k = refl
fuel zero (suc g) [] h k = refl
fuel zero (suc g) (c ∷ cs) h k = absurd (omega arith)
fuel (suc f) zero [] h k = refl
fuel (suc f) zero (c ∷ cs) h k = absurd (omega arith)
fuel (suc f) (suc g) [] h k = refl
fuel (suc f) (suc g) (c ∷ cs) h k = go (λ us a b. fuel f g us a b) (read_line (c ∷ cs)) refl
  where
    go : ((us : List ℕ) → length us ≤ f → length us ≤ g → read_lines f us ≡ read_lines g us)
        → (m : Option (Front SolverLine)) → read_line (c ∷ cs) ≡ m
        → then_read (read_line (c ∷ cs)) (λ l. with_line l.value (read_lines f l.rest))
        ≡ then_read (read_line (c ∷ cs)) (λ l. with_line l.value (read_lines g l.rest))
    go r none e = rw e refl
    go r (some l) e =
        let a = ap length (line_sound (c ∷ cs) l e).0 ∙ length-append (line_text l.value) l.rest in
        rw e (ap (with_line l.value)
        (r l.rest (omega (arith, line_long l.value)) (omega (arith, line_long l.value))))

lines_step : (f : ℕ) (ts : List ℕ) → 1 ≤ length ts → read_lines (suc f) ts
    ≡ then_read (read_line ts) (λ l. with_line l.value (read_lines f l.rest))
unfolding read_lines
lines_step f [] h = absurd (omega arith)
lines_step f (c ∷ cs) h = refl

step : (text : List ℕ) (p : ℕ) → p < length text → lines_at text p
    ≡ then_read (read_line (since text p)) (λ l. with_line l.value (read_lines (length (since text p)) l.rest))
unfolding lines_at
step text p h =
    fuel (length (since text p)) (suc (length (since text p))) (since text p) (omega arith) (omega arith)
    ∙ lines_step (length (since text p)) (since text p) (omega (arith, length-drop p text))

pub lines_more : (text : List ℕ) (p next : ℕ) (l : SolverLine) → p < length text → next ≤ length text
    → read_line (since text p) ≡ some (front l (since text next))
    → lines_at text p ≡ with_line l (lines_at text next)
lines_more text p next l h k e =
    step text p h ∙ then-read _ (front l (since text next)) e ∙ ap (with_line l) (unfold lines_at in later)
  where
    later : read_lines (length (since text p)) (since text next) ≡ read_lines (length (since text next)) (since text next)
    later = fuel (length (since text p)) (length (since text next)) (since text next)
        (omega (arith, length-drop p text, length-drop next text, line_later text p next l (omega arith) k e))
        (omega arith)

pub lines_broken : (text : List ℕ) (p : ℕ) → p < length text → read_line (since text p) ≡ none → lines_at text p ≡ none
lines_broken text p h e = step text p h ∙ then_none _ e

pub lines_end : (text : List ℕ) (p : ℕ) → length text ≤ p → lines_at text p ≡ some []
unfolding lines_at read_lines
lines_end text p h = rw (since_end text p h) refl

-- ---- what is counted

saturated-max : (a b : ℕ) → saturated (max a b) ≡ max (saturated a) (saturated b)
unfolding saturated
saturated-max a b = omega arith

ranks_more : (ls : List SolverLine) (l : SolverLine) → ranks_of (ls ++ (l ∷ [])) ≡ max (ranks_of ls) l.priority
unfolding ranks_of
ranks_more ls l =
    ap largest (map-append (λ l. l.priority) ls (l ∷ [])) ∙ largest_more (map (λ l. l.priority) ls) l.priority

saturated_top : (l : SolverLine)
    → saturated (top_of l) ≡ max (saturated l.number) (saturated (largest l.successors))
unfolding top_of
saturated_top l = saturated-max l.number (largest l.successors)

order_more : (v : ℕ) (ls : List SolverLine) (l : SolverLine)
    → in_order v (ls ++ (l ∷ [])) ≡ (in_order v ls && eqb l.number (v + length ls))
unfolding in_order
order_more v [] l =
    let z : v ≡ v + 0 = omega arith in
    turn (eqb l.number v) ∙ ap (eqb l.number) z
  where
    turn : (b : Bool) → (b && true) ≡ b
    turn true = refl
    turn false = refl
order_more v (k ∷ ls) l =
    let z : suc v + length ls ≡ v + suc (length ls) = omega arith in
    ap (λ (b : Bool). eqb k.number v && b)
    (order_more (suc v) ls l ∙ ap (λ (n : ℕ). in_order (suc v) ls && eqb l.number n) z)
    ∙ turn (eqb k.number v) (in_order (suc v) ls) (eqb l.number (v + suc (length ls)))
  where
    turn : (a b c : Bool) → (a && (b && c)) ≡ ((a && b) && c)
    turn true b c = refl
    turn false b c = refl

-- a number and its saturated value are told from a small one alike
same_turn : (n m turn : ℕ) → m ≡ saturated n → turn < 18446744073709551610 → eqb m turn ≡ eqb n turn
unfolding saturated
same_turn n m turn e h = go (ℕ_discrete n turn)
  where
    go : Dec (n ≡ turn) → eqb m turn ≡ eqb n turn
    go (yes f) = eq-eqb m turn (omega arith) ∙ sym (eq-eqb n turn f)
    go (no f) = ne_eqb m turn (λ g. f (omega arith)) ∙ sym (ne_eqb n turn f)

-- ---- one line more

-- ---- the pass

-- the lines from `first` up to p were read
pub record Surveying (text : List ℕ) (highest first p : ℕ) (found : Found) (bits : List ℕ) : Type 0 where
  pub ls : List SolverLine
  pub small : length text < 18446744073709551616
  pub within : p ≤ length text
  pub left : lines_at text first ≡ with_lines ls (lines_at text p)
  pub header : found.plan.highest ≡ highest
  pub begun : found.plan.first ≡ first
  pub many : found.lines ≡ length ls
  pub few : 2 * found.lines + found.listed ≤ p
  pub tops : found.top ≡ saturated (tops_of ls)
  pub ranks : found.rank ≡ saturated (ranks_of ls)
  pub enough : Enough highest ls found.listed
  pub order : apart found.plan.numbering ≡ true → in_turn found.plan.numbering ≡ in_order 0 ls
  pub new : apart found.plan.numbering ≡ true → Collected 0 (numbers_of ls) bits
  pub again : apart found.plan.numbering ≡ false → ¬ Distinct (numbers_of ls)

pub surveying_start : (text : List ℕ) (highest first : ℕ) {bits : List ℕ} → first ≤ length text
    → length text < 18446744073709551616 → Holds bits []
    → Surveying text highest first first (record {
      plan = record { highest = highest; first = first; numbering = InOrder };
      lines = 0;
      top = 0;
      rank = 0;
      listed = 0;
    }) bits
unfolding with_lines tops_of ranks_of in_order largest saturated in_turn apart
surveying_start text highest first h small k =
    record {
      ls = [];
      small = small;
      within = h;
      left = refl;
      header = refl;
      begun = refl;
      many = refl;
      few = omega arith;
      tops = omega arith;
      ranks = omega arith;
      enough = λ a b. omega (arith, no_edges);
      order = λ e. refl;
      new = λ e. collected_none 0 k;
      again = λ e. absurd (true≢false e);
    }

module _ {text : List ℕ} {highest first p : ℕ} {found : Found} {bits : List ℕ}
    (s : Surveying text highest first p found bits) (h : p < length text) where
  pub surveying_broken : read_line (since text p) ≡ none → lines_at text first ≡ none
  surveying_broken e = s.left ∙ ap (with_lines s.ls) (lines_broken text p h e) ∙ lines_none s.ls

  module _ (row : VertexLine) (a : ToldRow (Some row) (read_line (since text p)) text) where
    -- the line that was read
    pub surveying_later : p + 2 + row.listed ≤ row.next
    surveying_later =
        let (x, b, c, d) = a in
        omega (arith, c.listed, line_later text p row.next x (omega arith) d b)

    inside : row.next ≤ length text
    inside = a.3

    -- one line more can be counted
    pub surveying_room : highest < 18446744073709551615 → Addable found row
    surveying_room low =
        record {
          highest = omega (arith, s.header, low);
          lines = omega (arith, s.few, s.within, s.small);
          listed = omega (arith, s.few, surveying_later, inside, s.small);
        }

    pub surveying_more : {found' : Found} {bits' : List ℕ} → Added found row found' bits bits'
        → Surveying text highest first row.next found' bits'
    surveying_more {found'} {bits'} g =
        let (x, b, c, d) = a in
        let numbers : numbers_of (s.ls ++ (x ∷ [])) ≡ numbers_of s.ls ++ (x.number ∷ [])
        = map-append (λ (l : SolverLine). l.number) s.ls (x ∷ []) in
        let listed : found'.listed ≡ found.listed + min row.listed (highest + 1)
        = g.lists ∙ ap (λ (n : ℕ). found.listed + min row.listed (n + 1)) s.header in
        record {
          ls = s.ls ++ (x ∷ []);
          small = s.small;
          within = d;
          left = s.left ∙ ap (with_lines s.ls) (lines_more text p row.next x h d b)
              ∙ sym (lines_snoc s.ls x (lines_at text row.next));
          header = g.header ∙ s.header;
          begun = g.begun ∙ s.begun;
          many = omega (arith, g.many, s.many, length-append s.ls (x ∷ []));
          few = omega (arith, g.many, listed, s.few, surveying_later);
          tops = g.tops ∙ omega (
            arith,
            s.tops,
            c.number,
            c.top,
            ap saturated (tops_more s.ls x),
            saturated-max (tops_of s.ls) (top_of x),
            saturated_top x,
          );
          ranks = g.ranks ∙ omega (
            arith,
            s.ranks,
            c.priority,
            ap saturated (ranks_more s.ls x),
            saturated-max (ranks_of s.ls) x.priority,
          );
          enough = subst (Enough highest (s.ls ++ (x ∷ []))) (sym listed)
              (enough_more highest s.ls x row c s.enough);
          order = λ f. g.order f ∙ ap (λ (b : Bool). b && eqb row.number found.lines) (s.order (g.new f).0)
              ∙ ap (λ (b : Bool). in_order 0 s.ls && b)
              (same_turn x.number row.number found.lines c.number
              (omega (arith, s.few, s.within, s.small))
              ∙ ap (eqb x.number) (let z : found.lines ≡ 0 + length s.ls = omega (arith, s.many) in z))
              ∙ sym (order_more 0 s.ls x);
          new = λ f. subst (λ (ns : List ℕ). Collected 0 ns bits') (sym numbers)
              (collected_more (s.new (g.new f).0) x.number (noted_exact c.number (g.new f).1));
          again = λ f k. twice_seen f x c (apart found.plan.numbering) refl (subst Distinct numbers k);
        }
      where
        twice_seen : apart found'.plan.numbering ≡ false → (x : SolverLine) → RowAt text x row → (b : Bool) → apart found.plan.numbering ≡ b
            → ¬ Distinct (numbers_of s.ls ++ (x.number ∷ []))
        twice_seen f x c true z k = collected_twice (s.new z) x.number [] (again_exact c.number (g.again f z)) k
        twice_seen f x c false z k = s.again z (distinct_before (numbers_of s.ls) (x.number ∷ []) k)

-- ---- the whole text

-- the header of a text with the form
module _ (text : List ℕ) (h first : ℕ) (a : Told (Some (record { value = h; next = first })) (read_header text) text) where
  pub surveyed_within : first ≤ length text
  surveyed_within = a.3

  parsed : (n : ℕ) × (h ≡ saturated n)
      × (parse text ≡ then_read (lines_at text first) (λ ls. some (record { highest = n; lines = ls })))
  unfolding parse lines_at
  parsed =
      let (n, b, s, w) = a in
      (n, s, then-read _ (front n (since text first)) b)

  pub surveyed_broken : lines_at text first ≡ none → parse text ≡ none
  surveyed_broken f = let (n, s, g) = parsed in g ∙ then_none _ f

  pub surveyed_low : h < 18446744073709551615
  surveyed_low = let (n, b, s, w) = a in saturated_low n s
    where
      saturated_low : (n : ℕ) → h ≡ saturated n → h < 18446744073709551615
      saturated_low n s = unfold saturated in omega arith

  pub surveyed : {p : ℕ} {found : Found} {bits : List ℕ} → length text ≤ p
      → Surveying text h first p found bits → Seen text found
  surveyed {p} {found} l s =
      let (n, b, g) = parsed in
      let all : lines_at text first ≡ some s.ls = s.left ∙ ap (with_lines s.ls) (lines_end text p l)
      ∙ lines_done s.ls []
      ∙ ap (λ (ls : List SolverLine). some ls) (append-nil s.ls) in
      let t : SolverText = record { highest = n; lines = s.ls } in
      let says : parse text ≡ some t = g ∙ then-read _ s.ls all in
      let same : t ≡ solver_text text = is_said t says in
      let lines : s.ls ≡ (solver_text text).lines = ap (λ (x : SolverText). x.lines) same in
      record {
        says = says ∙ ap (λ (x : SolverText). some x) same;
        header = s.header ∙ b ∙ ap (λ (x : SolverText). saturated x.highest) same;
        within = subst (λ (q : ℕ). q ≤ length text) (sym s.begun) surveyed_within;
        lines = ap (lines_at text) s.begun ∙ all ∙ ap (λ (ls : List SolverLine). some ls) lines;
        many = s.many ∙ ap (λ (ls : List SolverLine). length ls) lines;
        few = omega (arith, s.few, s.within);
        tops = s.tops ∙ ap (λ (ls : List SolverLine). saturated (tops_of ls)) lines;
        ranks = s.ranks ∙ ap (λ (ls : List SolverLine). saturated (ranks_of ls)) lines;
        enough = λ low small. subst (λ (ls : List SolverLine). Enough h ls found.listed) lines s.enough
            (omega (arith, s.header, low)) (omega (arith, s.header, small));
        order = λ f. s.order f ∙ ap (in_order 0) lines;
        new = λ f. subst (λ (ls : List SolverLine). Apart 0 (numbers_of ls)) lines (s.new f).apart;
        again = λ f. subst (λ (ls : List SolverLine). ¬ Distinct (numbers_of ls)) lines (s.again f);
      }
    where
      is_said : (t : SolverText) → parse text ≡ some t → t ≡ solver_text text
      is_said t f = unfold solver_text text_or in rw f refl

pub surveyed_not : (text : List ℕ) → read_header text ≡ none → parse text ≡ none
unfolding parse
surveyed_not text e = then_none _ e
