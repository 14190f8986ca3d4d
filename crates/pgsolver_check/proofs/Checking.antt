-- The check of a text: which refusal it is, or what is to be read. Assumes nothing.
use Prim.Native.Nat.{ℕ, suc, ◌+◌, ◌≤◌, ◌<◌}
use native.Mathlib.Omega.{arith}
use mathlib.Core.Path.{◌≡◌, refl, sym, ap, ◌∙◌, subst}
use mathlib.Core.Bool.{Bool, true, false, not, ◌&&◌, ◌||◌, true≢false}
use mathlib.Core.List.{List, [], ◌∷◌, map}
use mathlib.Core.Logic.{inl, inr}
use mathlib.Core.Option.{some}
use lib.ListN.{length}
use lib.Dec.{eqb, ltb}
use borrow.Author.Tests.{eq-eqb, ne_eqb, lt-ltb, le-ltb, ltb-true, ltb-false, eqb-true}
use Rattle.std.specs.Prelude.{Result, Some, None}
use Rattle.std.specs.declared.option.Option.{Option as Answer}
use Rattle.std.specs.Option.{ok_or}
use Rattle.std.specs.Result.{IsErrAnd}
use Rattle.std.specs.declared.result.Result.TheVariants.{Ok, Err}
use Rattle.rules.specs.Answers.{Check, fault}
use Rattle.rules.specs.Lists.{In, Distinct, from, largest}
use Rattle.rules.specs.declared.Room.{Room}
use Rattle.rules.specs.declared.Fault.{Fault}
use Rattle.rules.specs.Answers.{fault_if, and_then}
use Rattle.rules.specs.Game.{edge_count}
use Rattle.lists.proofs.Members.{map_in, in_map}
use Rattle.lists.proofs.Tests.{or_left, or_right, or-false, and-true}
use Rattle.tables.proofs.Faults.{if-true, if_passed, passed_not_fault}
use Rattle.restrictions.proofs.Kept.{from_distinct}
use Rattle.rules.specs.Pgsolver.{SolverLine, SolverText}
use Rattle.rules.specs.PgsolverParse.{parse}
use Rattle.rules.specs.PgsolverReading.{vertex_of, all, different, numbers_of, within_highest, refusal92, refusal93}
use Rattle.rules.specs.PgsolverReading.{text_refusal}
use Rattle.game_texts.proofs.Exact.{all_holds, all_made, within_holds, different_distinct, distinct_different}
use Rattle.game_texts.proofs.Exact.{Passes92, passes92, passed92}
use Rattle.pgsolver_scan.specs.Told.{saturated}
use Rattle.pgsolver_check.specs.declared.Found.{Found}
use Rattle.pgsolver_check.specs.Lines.{solver_text, lines_in, or_none, lines_from, top_of, tops_of, ranks_of}
use Rattle.pgsolver_check.specs.Lines.{in_order, Readable, Narrow}
use Rattle.pgsolver_check.specs.declared.Numbering.{Numbering}
use Rattle.pgsolver_check.specs.declared.Numbering.TheVariants.{InOrder}
use Rattle.pgsolver_check.specs.Numbers.{in_turn, apart}
use Rattle.pgsolver_check.specs.Windows.{Apart}
use Rattle.pgsolver_check.specs.Survey.{Seen, ToldSurvey}
use Rattle.pgsolver_check.specs.Plans.{Planned}
use Rattle.pgsolver_check.proofs.Bounding.{in_largest}
use Rattle.pgsolver_check.proofs.Walking.{number_top, successor_top, exactly}
use Rattle.pgsolver_check.proofs.Windowing.{some_same_number}

-- ---- a fault that is handed on

pub handed_on : {A : Type 0} (r : Result A Fault) (f : Fault) → IsErrAnd r (λ g. g ≡ f) → r ≡ Err f
handed_on (Ok a) f e = absurd e
handed_on (Err g) f e = ap Err e

-- a test found a fault, or passed
pub found_fault : (n : ℕ) {bad : Bool} {r : Check} {f : Fault} → r ≡ fault_if n 0 bad → r ≡ Err f
    → (bad ≡ true) × (Err f ≡ fault_if n 0 (not false))
unfolding fault_if
found_fault n {bad = true} e g = (refl, sym g ∙ e)
found_fault n {bad = false} e g = absurd (passed_not_fault (sym e ∙ g))

pub found_none : (n : ℕ) {bad : Bool} {r : Check} {u : Unit {0}} → r ≡ fault_if n 0 bad → r ≡ Ok u → bad ≡ false
found_none n {bad} e g = if_passed n 0 bad (sym e ∙ g)

pub unequal : (a b : ℕ) → not (eqb a b) ≡ true → ¬ (a ≡ b)
unequal a b e f = true≢false (sym e ∙ ap not (eq-eqb a b f))

pub equal : (a b : ℕ) → not (eqb a b) ≡ false → a ≡ b
equal a b e = eqb-true a b (turn (eqb a b) e)
  where
    turn : (c : Bool) → not c ≡ false → c ≡ true
    turn true e = refl
    turn false e = absurd (true≢false e)

-- ---- lines in the order of their numbers

pub order_numbers : (v : ℕ) (ls : List SolverLine) → in_order v ls ≡ true → numbers_of ls ≡ from v (length ls)
unfolding in_order from
order_numbers v [] e = refl
order_numbers v (l ∷ ls) e =
    let (a, b) = and-true (eqb l.number v) (in_order (suc v) ls) e in
    ap (λ (n : ℕ). n ∷ numbers_of ls) (eqb-true l.number v a)
    ∙ ap (λ (ns : List ℕ). v ∷ ns) (order_numbers (suc v) ls b)

-- ---- 92

and_no : (a b : Bool) → a ≡ false → not (a && b) ≡ true
and_no a b e = rw e refl

and_other : (a b : Bool) → b ≡ false → not (a && b) ≡ true
and_other true b e = rw e refl
and_other false b e = refl

wrong_count : (t : SolverText) → ¬ (length t.lines ≡ suc t.highest) → refusal92 t ≡ fault 92 0
unfolding refusal92
wrong_count t n =
    if-true 92 0
    (and_no (eqb (length t.lines) (suc t.highest))
    (all (within_highest t.highest) t.lines && different (numbers_of t.lines))
    (ne_eqb (length t.lines) (suc t.highest) n))

largest_within : (ns : List ℕ) (h : ℕ) → ((n : ℕ) → In n ns → n ≤ h) → largest ns ≤ h
unfolding largest
largest_within [] h f = omega arith
largest_within (n ∷ ns) h f = omega (arith, f n (inl refl), largest_within ns h (λ m i. f m (inr i)))

tops_within : (ls : List SolverLine) (h : ℕ)
    → ((l : SolverLine) → In l ls → (l.number ≤ h) × ((s : ℕ) → In s l.successors → s ≤ h)) → tops_of ls ≤ h
unfolding tops_of top_of
tops_within ls h f = largest_within (map top_of ls) h low
  where
    low : (n : ℕ) → In n (map top_of ls) → n ≤ h
    low n i =
        let (x, m, e) = in_map top_of n ls i in
        let (a, b) = f x m in
        omega (arith, e, largest_within x.successors h b)

too_high : (t : SolverText) → t.highest < tops_of t.lines → refusal92 t ≡ fault 92 0
unfolding refusal92
too_high t h =
    if-true 92 0
    (and_other (eqb (length t.lines) (suc t.highest))
    (all (within_highest t.highest) t.lines && different (numbers_of t.lines))
    (go (all (within_highest t.highest) t.lines) refl))
  where
    go : (b : Bool) → all (within_highest t.highest) t.lines ≡ b → (b && different (numbers_of t.lines)) ≡ false
    go true e =
        absurd (omega (
          arith,
          h,
          tops_within t.lines t.highest
              (λ l i. within_holds t.highest l (all_holds (within_highest t.highest) t.lines e l i)),
        ))
    go false e = refl

same_number : (t : SolverText) → different (numbers_of t.lines) ≡ false → refusal92 t ≡ fault 92 0
unfolding refusal92
same_number t e =
    if-true 92 0
    (and_other (eqb (length t.lines) (suc t.highest))
    (all (within_highest t.highest) t.lines && different (numbers_of t.lines))
    (last (all (within_highest t.highest) t.lines) (different (numbers_of t.lines)) e))
  where
    last : (a b : Bool) → b ≡ false → (a && b) ≡ false
    last true b f = f
    last false b f = refl

below_bound : (a b : ℕ) → b < 18446744073709551610 → b < saturated a → b < a
unfolding saturated
below_bound a b h k = omega arith

within_bound : (a b : ℕ) → b < 18446744073709551610 → saturated a ≤ b → a ≤ b
unfolding saturated
within_bound a b h k = omega arith

exact_bound : (a b : ℕ) → b < 18446744073709551610 → b ≡ saturated a → b ≡ a
unfolding saturated
exact_bound a b h k = omega arith

highest_bound : (a b : ℕ) → b ≡ saturated a → b ≤ 18446744073709551610
unfolding saturated
highest_bound a b k = omega arith

module _ {text : List ℕ} {found : Found} (s : Seen text found) (small : length text < 18446744073709551616) where
  abbrev t : SolverText
  t = solver_text text

  pub seen_lines : lines_from text found.plan.first ≡ lines_in text
  unfolding lines_from or_none
  seen_lines = rw s.lines refl

  pub seen_highest : found.plan.highest + 1 < 18446744073709551616
  seen_highest = omega (arith, highest_bound t.highest found.plan.highest s.header)

  few : found.lines < 9223372036854775808
  few = omega (arith, s.few)

  pub other_count : ¬ (found.lines ≡ found.plan.highest + 1) → refusal92 t ≡ fault_if 92 0 (not false)
  unfolding fault_if
  other_count n = wrong_count t (λ f. n (same f))
    where
      same : length t.lines ≡ suc t.highest → found.lines ≡ found.plan.highest + 1
      same f =
          let h : saturated t.highest ≡ t.highest = exactly t.highest (omega (arith, few, s.many)) in
          omega (arith, s.many, s.header)

  module _ (long : found.lines ≡ found.plan.highest + 1) where
    header : found.plan.highest ≡ t.highest
    header = exact_bound t.highest found.plan.highest (omega (arith, few)) s.header

    pub other_top : found.plan.highest < found.top → refusal92 t ≡ fault_if 92 0 (not false)
    unfolding fault_if
    other_top h =
        too_high t
        (below_bound (tops_of t.lines) t.highest (omega (arith, few, header)) (omega (arith, header, s.tops)))

    module _ (inside : found.top ≤ found.plan.highest) where
      tops : tops_of t.lines ≤ found.plan.highest
      tops = within_bound (tops_of t.lines) found.plan.highest (omega (arith, few)) (omega (arith, s.tops))

      pub seen_low : tops_of (lines_from text found.plan.first) ≤ found.plan.highest
      seen_low = omega (arith, ap tops_of seen_lines, tops)

      pub seen_readable : Readable text found.plan.first
      seen_readable =
          record {
            within = s.within;
            lines = s.lines ∙ ap (λ (ls : List SolverLine). some ls) (sym seen_lines);
            exact = omega (arith, seen_low, few);
          }

      pub numbers : (b : Bool) → b ≡ different (numbers_of t.lines) → refusal92 t ≡ fault_if 92 0 (not b)
      unfolding fault_if
      numbers true f =
          passes92 t
          (record {
            long = omega (arith, s.many, header);
            inside = λ l i. (
              omega (arith, number_top t.lines l i, tops, header),
              λ u j. omega (arith, successor_top t.lines l i u j, tops, header),
            );
            apart = different_distinct (numbers_of t.lines) (sym f);
          })
      numbers false f = same_number t (sym f)

      pub first_apart : apart found.plan.numbering ≡ true → Apart 0 (numbers_of (lines_from text found.plan.first))
      first_apart f = subst (λ (ls : List SolverLine). Apart 0 (numbers_of ls)) (sym seen_lines) (s.new f)

      differ : different (numbers_of (lines_from text found.plan.first)) ≡ different (numbers_of t.lines)
      differ = ap (λ (ls : List SolverLine). different (numbers_of ls)) seen_lines

      pub none_same : (b : Bool) → b ≡ different (numbers_of (lines_from text found.plan.first)) → b ≡ different (numbers_of t.lines)
      none_same b e = e ∙ differ

      pub in_order_different : (n : Numbering) → found.plan.numbering ≡ n → n ≡ InOrder → true ≡ different (numbers_of t.lines)
      unfolding apart in_turn
      in_order_different n e f =
          let i = e ∙ f in
          sym (distinct_different (numbers_of t.lines)
          (subst Distinct (sym (order_numbers 0 t.lines (sym (s.order (ap apart i)) ∙ ap in_turn i)))
          (from_distinct 0 (length t.lines))))

      pub repeated_same : apart found.plan.numbering ≡ false → false ≡ different (numbers_of t.lines)
      repeated_same f = some_same_number (numbers_of t.lines) (s.again f)

  -- ---- 93

  module _ (passed : refusal92 t ≡ Ok tt) where
    abbrev given : Passes92 t
    given = passed92 t passed

    pub right_highest : found.plan.highest ≡ t.highest
    right_highest =
        let h : saturated t.highest ≡ t.highest = exactly t.highest (omega (arith, few, s.many, given.long)) in
        s.header ∙ h

    pub right_low : tops_of (lines_in text) ≤ found.plan.highest
    right_low = omega (arith, right_highest, tops_within t.lines t.highest given.inside)

    pub right_readable : Readable text found.plan.first
    right_readable =
        record {
          within = s.within;
          lines = s.lines ∙ ap (λ (ls : List SolverLine). some ls) (sym seen_lines);
          exact = omega (arith, ap tops_of seen_lines, right_low, few, s.many, given.long, right_highest);
        }

    module _ (room : Room) where
      abbrev v : ℕ
      v = room.vertices

      abbrev e : ℕ
      e = room.edges

      abbrev ranked : Bool
      ranked = all (λ l. ltb l.priority 4_294_967_296) t.lines

      abbrev beyond : Bool
      beyond = ltb e (edge_count (map vertex_of t.lines))

      pub beyond_vertices : v ≤ found.plan.highest → refusal93 room t ≡ fault_if 93 0 (not false)
      unfolding refusal93 fault_if
      beyond_vertices h = if-true 93 0
          (or_left (not ranked || beyond) (lt-ltb v (suc t.highest) (omega (arith, right_highest))))

      low_rank : ranked ≡ true → ranks_of t.lines ≤ 4294967295
      unfolding ranks_of
      low_rank p = largest_within (map (λ l. l.priority) t.lines) 4294967295 one_of
        where
          one_of : (n : ℕ) → In n (map (λ l. l.priority) t.lines) → n ≤ 4294967295
          one_of n i =
              let (x, m, q) = in_map (λ (l : SolverLine). l.priority) n t.lines i in
              omega (
                arith,
                q,
                ltb-true x.priority 4_294_967_296
                    (all_holds (λ l. ltb l.priority 4_294_967_296) t.lines p x m),
              )

      pub beyond_rank : 4294967295 < found.rank → refusal93 room t ≡ fault_if 93 0 (not false)
      unfolding refusal93 fault_if
      beyond_rank h = if-true 93 0 (or_right (ltb v (suc t.highest)) (or_left beyond (go ranked refl)))
        where
          high : 4294967295 < ranks_of t.lines
          high = below_bound (ranks_of t.lines) 4294967295 (omega arith) (omega (arith, s.ranks))

          go : (b : Bool) → ranked ≡ b → not b ≡ true
          go true p = absurd (omega (arith, high, low_rank p))
          go false p = refl

      module _ (fits : found.plan.highest < v) (small-rank : found.rank ≤ 4294967295) where
        ranks : ranks_of t.lines ≤ 4294967295
        ranks = within_bound (ranks_of t.lines) 4294967295 (omega arith) (omega (arith, s.ranks))

        modest : (l : SolverLine) → In l t.lines → ltb l.priority 4_294_967_296 ≡ true
        unfolding ranks_of
        modest l i =
            lt-ltb l.priority 4_294_967_296
            (omega (
              arith,
              ranks,
              in_largest (map (λ l. l.priority) t.lines) l.priority
                  (map_in (λ (l : SolverLine). l.priority) l t.lines i),
            ))

        edges : (b : Bool) → b ≡ not beyond → refusal93 room t ≡ fault_if 93 0 (not b)
        unfolding refusal93
        edges b f =
            rw (
              le-ltb v (suc t.highest) (omega (arith, right_highest)),
              all_made
                  (λ l. ltb l.priority 4_294_967_296) t.lines modest,
            )
            (ap (fault_if 93 0) (turn beyond ∙ sym (ap not f)))
          where
            turn : (c : Bool) → c ≡ not (not c)
            turn true = refl
            turn false = refl

        pub right_narrow : v ≤ 1048576 → Narrow text found.plan.first
        right_narrow a =
            record {
              readable = right_readable;
              low = omega (arith, ap tops_of seen_lines, right_low);
              ranks = omega (arith, ap ranks_of seen_lines, ranks);
            }

        pub edges_told : (b : Bool) → b ≡ not (ltb e (edge_count (map vertex_of (lines_from text found.plan.first))))
            → refusal93 room t ≡ fault_if 93 0 (not b)
        edges_told b f = edges b
            (f ∙ ap (λ (ls : List SolverLine). not (ltb e (edge_count (map vertex_of ls)))) seen_lines)

        pub listed_fits : found.listed ≤ e → refusal93 room t ≡ fault_if 93 0 (not true)
        listed_fits h =
            edges true
            (sym (ap not (le-ltb e (edge_count (map vertex_of t.lines))
            (omega (arith, h, s.enough right_low (omega (arith, few, s.many, given.long, right_highest)))))))

-- ---- the plan

found_or : Found → Result Found Fault → Found
found_or found (Ok x) = x
found_or found (Err f) = found

fault_or : Fault → Result Found Fault → Fault
fault_or f (Ok x) = f
fault_or f (Err g) = g

no-fault : {x : Found} {f : Fault} → Ok x ≡ Err f → ⊥
no-fault e =
    let z : ◌≡◌ {A = ℕ} 0 1 = cc in
    absurd (omega arith)

-- the survey found this, or the text is refused
pub surveyed_found : {text : List ℕ} (m : Answer Found) {r : Result Found Fault} {found : Found}
    → ToldSurvey m text → r ≡ ok_or m (record { number = 91; place = 0 }) → r ≡ Ok found → Seen text found
unfolding found_or
surveyed_found {text} (Some x) {found = found} s e g = subst (Seen text) (ap (found_or found) (sym e ∙ g)) s
surveyed_found None s e g = absurd (no-fault (sym g ∙ e))

pub refused91 : (text : List ℕ) (room : Room) (m : Answer Found) {r : Result Found Fault} {f : Fault} → ToldSurvey m text
    → r ≡ ok_or m (record { number = 91; place = 0 }) → r ≡ Err f → text_refusal room (parse text) ≡ Err f
unfolding text_refusal fault_or
refused91 text room (Some x) s e g = absurd (no-fault (sym e ∙ g))
refused91 text room None {f = f} s e g = rw s (ap Err (ap (fault_or f) (sym e ∙ g)))

module _ {text : List ℕ} (room : Room) where
  module _ {found : Found} (s : Seen text found) where
    pub refused92 : {f : Fault} → Err f ≡ refusal92 (solver_text text) → text_refusal room (parse text) ≡ Err f
    unfolding text_refusal and_then
    refused92 e = rw (s.says, sym e) refl

    module _ (passed : refusal92 (solver_text text) ≡ Ok tt) where
      pub refused93 : {f : Fault} → Err f ≡ refusal93 room (solver_text text) → text_refusal room (parse text) ≡ Err f
      unfolding text_refusal and_then
      refused93 e = rw (s.says, passed, sym e) refl

      pub planned : length text < 18446744073709551616 → refusal93 room (solver_text text) ≡ Ok tt
          → Planned text room found.plan
      planned small roomy =
          let (a, b, c) = parts roomy in
          record {
            says = s.says;
            numbered = passed;
            roomy = roomy;
            header = right_highest s small passed;
            fits = omega (arith, a, right_highest s small passed);
            lines = seen_lines s small;
            readable = right_readable s small passed;
            low = right_low s small passed;
            ranked = omega (arith, low_rank s small passed room b);
            held = c;
            order = s.order (distinct (apart found.plan.numbering) refl);
          }
        where
          distinct : (b : Bool) → apart found.plan.numbering ≡ b → apart found.plan.numbering ≡ true
          distinct true e = e
          distinct false e = absurd (s.again e (passed92 (solver_text text) passed).apart)

          parts : refusal93 room (solver_text text) ≡ Ok tt
              → (suc (solver_text text).highest ≤ room.vertices)
              × (all (λ l. ltb l.priority 4_294_967_296) (lines_in text) ≡ true)
              × (edge_count (map vertex_of (lines_in text)) ≤ room.edges)
          parts r =
              let q : (ltb room.vertices (suc (solver_text text).highest) ||
              (not (all (λ l. ltb l.priority 4_294_967_296) (lines_in text))
              || ltb room.edges (edge_count (map vertex_of (lines_in text))))) ≡ false
              = if_passed 93 0 _ (unfold refusal93 in r) in
              let (a, b) = or-false (ltb room.vertices (suc (solver_text text).highest)) _ q in
              let (c, d) = or-false (not (all (λ l. ltb l.priority 4_294_967_296) (lines_in text))) _ b in (
                ltb-false room.vertices (suc (solver_text text).highest) a,
                on (all (λ l. ltb l.priority 4_294_967_296) (lines_in text)) c,
                ltb-false room.edges (edge_count (map vertex_of (lines_in text))) d,
              )
            where
              on : (b : Bool) → not b ≡ false → b ≡ true
              on true e = refl
              on false e = absurd (true≢false e)
