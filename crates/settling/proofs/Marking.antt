-- The targets of a modality, met one for each transition: a mark tells whether a target has its edge from this step and
-- where, and the edge's count says how often it was met. Assumes nothing.
use mathlib.Core.Path.{◌≡◌, refl, sym, ◌∙◌, ap, ap₂, subst}
use mathlib.Core.Bool.{false≢true}
use mathlib.Core.List.{List, [], ◌∷◌, ◌++◌, map}
use mathlib.Core.Logic.{◌⊎◌, inl, inr, ⊎_elim}
use Prim.Native.Nat.{ℕ, suc, ◌+◌, ◌-◌, ◌*◌, ◌≤◌, ◌<◌}
use native.Mathlib.Decide.{dec_lt, ℕ_discrete}
use native.Mathlib.Omega.{arith}
use lib.Dec.{eqb, lit≤, lit<}
use lib.ListN.{length, set, drop, length-append}
use lib.Seq.{get_or-append-add, get_or-set_same, get_or-set_other}
use borrow.Author.Tests.{eq-eqb, ne_eqb}
use Rattle.std.proofs.lemmas.List.{set-append_right}
use Rattle.std.specs.Prelude.{Result}
use Rattle.std.specs.Result.{IsErr}
use Rattle.std.specs.declared.result.Result.TheVariants.{Ok, Err}
use Rattle.pairs.specs.declared.NoRoom.{NoRoom}
use Rattle.rules.specs.Lists.{word, In, Distinct, one, occurrences, position, insert, insert_all, once}
use Rattle.rules.specs.Walk.{push_new}
use Rattle.lists.specs.Shapes.{Begins, positions}
use Rattle.lists.proofs.Members.{in_left, in_last, in_either, map_at, map-append, distinct_positions}
use Rattle.lists.proofs.Members.{position_below, position_at, position_append, position_out}
use Rattle.lists.proofs.Shapes.{begins-at}
use Rattle.lists.proofs.Inserts.{inserts_begins, inserts_snoc, insert_old, insert_new, insert_holds, insert_begins}
use Rattle.lists.proofs.Inserts.{inserts_holds, once_in, once_distinct, once_append}
use Rattle.lists.proofs.Occurrences.{occurs_not, occurs_most, occurs_append}
use Rattle.lists.proofs.Equalities.{number_equality}
use Rattle.work_slice.specs.Regions.{region, put_word}
use Rattle.work_slice.proofs.Regions.{rest_region, length-put_word}
use Rattle.pairs.specs.Slot.{key_of}
use Rattle.pairs.specs.Table.{keys_of}
use Rattle.pairs.proofs.Uses.{keys_kept, table_kept, length-keys}
use Rattle.walks.proofs.Pushes.{push_none, push_on}
use Rattle.settling.specs.declared.Counters.{Counters}
use Rattle.settling.specs.declared.MarkedBy.{MarkedBy}
use Rattle.settling.specs.declared.MarkedBy.TheVariants.{State, Vertex}
use Rattle.settling.specs.declared.Operand.{Operand}
use Rattle.settling.specs.Stand.{waiting_in, waiting_of, edges_of, counts_of, marks_of, put_edge, put_count}
use Rattle.settling.specs.Made.{Ready, Meeting, Made, TooMany, MarkedIn, Marked, tallies, Gathering, Gathered}
use Rattle.settling.specs.Made.{Apart, Raisable, marker, with_edges, Appended}
use Rattle.settling.proofs.Buffer.{region_edge, region_count, length-put_count, length_counts}
use Rattle.settling.proofs.Buffer.{edges_rest, counts_rest, edges_raised, counts_raised, counts_word, ready_on}
use Rattle.settling.proofs.Buffer.{length_marks, mark_at, mark_put, first_marks, marks_rest}
use Rattle.settling.proofs.Buffer.{marks_count, marks_edge, region_mark, edges_mark, counts_mark}
use Rattle.settling.proofs.Make.{made_none, made_more, many_more, many_early, many_one, edge_made}

-- ---- how often each key was met

-- where g differs from f at t alone, the values of distinct numbers differ at the place of t alone
module _ (f g : ℕ → ℕ) (t : ℕ) (same : (x : ℕ) → (¬ (x ≡ t)) → g x ≡ f x) where
  map_same : (xs : List ℕ) → (¬ In t xs) → map g xs ≡ map f xs
  map_same [] n = refl
  map_same (x ∷ xs) n = ap₂ ◌∷◌ (same x (λ e. n (inl (sym e)))) (map_same xs (λ i. n (inr i)))

  map-one : (xs : List ℕ) → Distinct xs → In t xs → map g xs ≡ set (map f xs) (position eqb t xs) (g t)
  unfolding position
  map-one [] d m = absurd m
  map-one (x ∷ xs) d (inl e) =
      rw (eq-eqb t x e) (ap₂ ◌∷◌ (ap g (sym e)) (map_same xs (λ i. d.0 (subst (λ (z : ℕ). In z xs) e i))))
  map-one (x ∷ xs) d (inr i) =
      let apart : ¬ (t ≡ x) = λ e. d.0 (subst (λ (z : ℕ). In z xs) e i) in
      rw (ne_eqb t x apart) (ap₂ ◌∷◌ (same x (λ e. apart (sym e))) (map-one xs d.1 i))

-- t is met once more
module _ (ks : List ℕ) (t : ℕ) where
  occurs_last : occurrences eqb t (ks ++ (t ∷ [])) ≡ occurrences eqb t ks + 1
  unfolding occurrences
  occurs_last = omega (arith, occurs_append t ks (t ∷ []), ap one (eq-eqb t t refl))

  occurs_other : (x : ℕ) → (¬ (x ≡ t)) → occurrences eqb x (ks ++ (t ∷ [])) ≡ occurrences eqb x ks
  unfolding occurrences
  occurs_other x n = omega (arith, occurs_append x ks (t ∷ []), ap one (ne_eqb t x (λ e. n (sym e))))

  once_last : once eqb (ks ++ (t ∷ [])) ≡ insert eqb (once eqb ks) t
  unfolding once
  once_last = inserts_snoc eqb [] ks t

  once_same : In t (once eqb ks) → once eqb (ks ++ (t ∷ [])) ≡ once eqb ks
  once_same i = once_last ∙ insert_old number_equality (once eqb ks) t i

  once_longer : (¬ In t (once eqb ks)) → once eqb (ks ++ (t ∷ [])) ≡ once eqb ks ++ (t ∷ [])
  once_longer n = once_last ∙ insert_new number_equality (once eqb ks) t n

  tallies_old : In t (once eqb ks)
      → tallies (ks ++ (t ∷ [])) ≡ set (tallies ks) (position eqb t (once eqb ks)) (occurrences eqb t ks + 1)
  unfolding tallies
  tallies_old i =
      ap (map (λ (x : ℕ). occurrences eqb x (ks ++ (t ∷ [])))) (once_same i)
      ∙ map-one (λ x. occurrences eqb x ks) (λ x. occurrences eqb x (ks ++ (t ∷ []))) t occurs_other (once eqb ks)
      (once_distinct number_equality ks) i
      ∙ ap (set (tallies ks) (position eqb t (once eqb ks))) occurs_last

  tallies_new : (¬ In t (once eqb ks)) → tallies (ks ++ (t ∷ [])) ≡ tallies ks ++ (1 ∷ [])
  unfolding tallies
  tallies_new n =
      let first : occurrences eqb t (ks ++ (t ∷ [])) ≡ 1 =
      omega (arith, occurs_last, occurs_not t ks (λ i. n ((once_in number_equality ks t).1 i))) in
      ap (map (λ (x : ℕ). occurrences eqb x (ks ++ (t ∷ [])))) (once_longer n)
      ∙ map-append (λ x. occurrences eqb x (ks ++ (t ∷ []))) (once eqb ks) (t ∷ [])
      ∙ ap₂ (λ (l : List ℕ) (y : ℕ). l ++ (y ∷ []))
      (map_same (λ x. occurrences eqb x ks) (λ x. occurrences eqb x (ks ++ (t ∷ []))) t occurs_other (once eqb ks) n)
      first

tally-at : (ks : List ℕ) (j : ℕ) → j < length (once eqb ks)
    → word (tallies ks) j ≡ occurrences eqb (word (once eqb ks) j) ks
unfolding tallies
tally-at ks j h = map_at (λ t. occurrences eqb t ks) (once eqb ks) j 0 0 h

-- behind other counts, the word at the place of t rises
raise_at : (front ks : List ℕ) (t i : ℕ) → In t (once eqb ks) → i ≡ length front + position eqb t (once eqb ks)
    → set (front ++ tallies ks) i (word (front ++ tallies ks) i + 1) ≡ front ++ tallies (ks ++ (t ∷ []))
raise_at front ks t i m e =
    let j = position eqb t (once eqb ks) in
    let here : word (front ++ tallies ks) i ≡ occurrences eqb t ks =
    ap (word (front ++ tallies ks)) e
    ∙ get_or-append-add front (tallies ks) j 0
    ∙ tally-at ks j (position_below number_equality t (once eqb ks) m)
    ∙ ap (λ (q : ℕ). occurrences eqb q ks) (position_at number_equality t (once eqb ks) 0 m) in
    let place : i - length front ≡ j = omega (arith, e) in
    ap (λ (y : ℕ). set (front ++ tallies ks) i (y + 1)) here
    ∙ set-append_right front (tallies ks) (length front) i (occurrences eqb t ks + 1) refl (omega (arith, e))
    ∙ ap (λ (k : ℕ). front ++ set (tallies ks) k (occurrences eqb t ks + 1)) place
    ∙ ap (λ (l : List ℕ). front ++ l) (sym (tallies_old ks t m))

-- ---- the marks

-- mark u is the one of t, where it is one of a key
module _ (marks : List ℕ) (name : ℕ → ℕ) (many n s t u : ℕ) (ts : List ℕ) (at : u < n → name u ≡ t)
    (m : MarkedIn marks name many n s ts) where
  -- above s it tells that t is among ts, and where its edge is
  above : u < many → s < word marks u → In t ts × (word marks u ≡ suc (s + position eqb t ts))
  above l h =
      let o = m.only u l h in (
        subst (λ (q : ℕ). In q ts) (at o.0) o.1,
        m.every u o.0 o.1 ∙ ap (λ (q : ℕ). suc (s + position eqb q ts)) (at o.0),
      )

  not-above : word marks u ≤ s → (In t ts → u < n) → ¬ In t ts
  not-above h l i =
      let z = m.every u (l i) (subst (λ (q : ℕ). In q ts) (sym (at (l i))) i) in
      omega (arith, z)

-- Mark u is set for t, which is not among ts: its edge is the one behind those of ts. There may be more keys than
-- before, but none of ts is a new one
module _ (marks : List ℕ) (name name₁ : ℕ → ℕ) (many n n₁ s t u : ℕ) (ts : List ℕ) (more : n ≤ n₁)
    (stays : (i : ℕ) → i < n → name₁ i ≡ name i)
    (apart : (i j : ℕ) → i < n₁ → j < n₁ → name₁ i ≡ name₁ j → i ≡ j)
    (old : (i : ℕ) → i < n₁ → In (name₁ i) ts → i < n) (at : name₁ u ≡ t) (below : u < n₁) (wide : u < length marks)
    (new : ¬ In t ts) (m : MarkedIn marks name many n s ts) where
  either : (q : ℕ) → In q (ts ++ (t ∷ [])) → In q ts ⊎ (q ≡ t)
  either q i = ⊎_elim (λ a. inl a) (λ b. ⊎_elim (λ z. inr z) (λ z. absurd z) b) (in_either q ts (t ∷ []) i)

  mark_more : MarkedIn (set marks u (suc (s + length ts))) name₁ many n₁ s (ts ++ (t ∷ []))
  mark_more = record { only = only; every = every }
    where
      mark : ℕ
      mark = suc (s + length ts)

      only : (i : ℕ) → i < many → s < word (set marks u mark) i → (i < n₁) × In (name₁ i) (ts ++ (t ∷ []))
      only i h p = go (ℕ_discrete i u)
        where
          go : Dec (i ≡ u) → (i < n₁) × In (name₁ i) (ts ++ (t ∷ []))
          go (yes y) = (
            omega arith,
            subst (λ (q : ℕ). In q (ts ++ (t ∷ []))) (sym (ap name₁ y ∙ at)) (in_last t ts),
          )
          go (no d) =
              let o = m.only i h (subst (λ (k : ℕ). s < k) (get_or-set_other marks u i mark 0 d) p) in (
                omega (arith, more, o.0),
                in_left (name₁ i) ts (t ∷ []) (subst (λ (q : ℕ). In q ts) (sym (stays i o.0)) o.1),
              )

      every : (i : ℕ) → i < n₁ → In (name₁ i) (ts ++ (t ∷ []))
          → word (set marks u mark) i ≡ suc (s + position eqb (name₁ i) (ts ++ (t ∷ [])))
      every i h p = go (ℕ_discrete i u) (either (name₁ i) p)
        where
          go : Dec (i ≡ u) → In (name₁ i) ts ⊎ (name₁ i ≡ t)
              → word (set marks u mark) i ≡ suc (s + position eqb (name₁ i) (ts ++ (t ∷ [])))
          go (yes y) a =
              ap (word (set marks u mark)) y
              ∙ get_or-set_same marks u mark 0 wide
              ∙ ap (λ (k : ℕ). suc (s + k)) (sym (position_out number_equality t ts [] new))
              ∙ ap (λ (q : ℕ). suc (s + position eqb q (ts ++ (t ∷ [])))) (sym (ap name₁ y ∙ at))
          go (no d) (inr a) = absurd (d (apart i u h below (a ∙ sym at)))
          go (no d) (inl a) =
              let l = old i h a in
              get_or-set_other marks u i mark 0 d
              ∙ m.every i l (subst (λ (q : ℕ). In q ts) (stays i l) a)
              ∙ ap (λ (q : ℕ). suc (s + position eqb q ts)) (sym (stays i l))
              ∙ ap (λ (k : ℕ). suc (s + k)) (sym (position_append number_equality (name₁ i) ts (t ∷ []) a))

-- ---- what was gathered

-- where no mark is above the edges none tells of a target, of either kind
marked_none : (by : MarkedBy) (item : ℕ) (marks ks : List ℕ) (many n s : ℕ)
    → ((i : ℕ) → i < many → word marks i ≤ s) → Marked by item marks ks many n s []
marked_none State item marks ks many n s k =
    record { only = λ i l p. absurd (omega (arith, k i l)); every = λ i l p. absurd p }
marked_none Vertex item marks ks many n s k =
    record { only = λ i l p. absurd (omega (arith, k i l)); every = λ i l p. absurd p }

-- nothing was met
pub gathering_none : (w : List ℕ) (v e many : ℕ) (c : Counters) (o : Operand) → Ready w v e c
    → ((i : ℕ) → i < many → word (marks_of w v many) i ≤ c.edges) → Gathering w v e many c o [] w c
unfolding once insert_all tallies
gathering_none w v e many c o r k =
    record {
      made = made_none w v e c r;
      marked = marked_none o.marked_by o.item (marks_of w v many) (keys_of w v c.known) many c.known c.edges k;
    }

-- all targets are known
made_known : (w : List ℕ) (v e : ℕ) (c : Counters) (w' : List ℕ) (c' : Counters) (ts cs : List ℕ)
    → Made w v e c w' c' ts cs → (q : ℕ) → In q ts → In q (keys_of w' v c'.known)
made_known w v e c w' c' ts cs d q i =
    subst (In q) (sym d.keys) (inserts_holds number_equality (keys_of w v c.known) ts q i)

-- no count is more than the keys that were met
pub gathering_counts : (w : List ℕ) (v e : ℕ) (c : Counters) (ks w' : List ℕ) (c' : Counters)
    → length ks < 4_294_967_295 → Made w v e c w' c' (once eqb ks) (tallies ks)
    → (i : ℕ) → c.edges ≤ i → i < c'.edges → word (counts_of w' v e c'.edges) i < 4_294_967_295
gathering_counts w v e c ks w' c' few d i h l =
    let front = counts_of w v e c.edges in
    let j = i - c.edges in
    let at : i ≡ length front + j = omega (arith, length_counts w v e c.edges) in
    let z : word (counts_of w' v e c'.edges) i ≡ occurrences eqb (word (once eqb ks) j) ks =
    ap₂ word d.counts at
    ∙ get_or-append-add front (tallies ks) j 0
    ∙ tally-at ks j (omega (arith, d.row_length)) in
    omega (arith, z, occurs_most (word (once eqb ks) j) ks)

-- a mark is one past the place of an edge of ts, or not above the start: so none is past the edges
marked_most : (marks : List ℕ) (name : ℕ → ℕ) (many n s : ℕ) (ts : List ℕ) → MarkedIn marks name many n s ts
    → (i : ℕ) → i < many → word marks i ≤ s + length ts
marked_most marks name many n s ts m i h = go (dec_lt s (word marks i))
  where
    go : Dec (s < word marks i) → word marks i ≤ s + length ts
    go (yes l) =
        let o = m.only i h l in
        omega (arith, m.every i o.0 o.1, position_below number_equality (name i) ts o.1)
    go (no d) = omega arith

pub gathering_marks : (w : List ℕ) (v e many : ℕ) (c : Counters) (o : Operand) (ks w' : List ℕ) (c' : Counters)
    → Gathering w v e many c o ks w' c' → (i : ℕ) → i < many → word (marks_of w' v many) i ≤ c'.edges
gathering_marks w v e many c o ks w' c' g i h = omega (arith, g.made.row_length, go o.marked_by g.marked)
  where
    marks : List ℕ
    marks = marks_of w' v many

    known : List ℕ
    known = keys_of w' v c'.known

    go : (b : MarkedBy) → Marked b o.item marks known many c'.known c.edges (once eqb ks)
        → word marks i ≤ c.edges + length (once eqb ks)
    go State m = marked_most marks (λ s. key_of s o.item) many many c.edges (once eqb ks) m i h
    go Vertex m = marked_most marks (word known) many c'.known c.edges (once eqb ks) m i h

-- too many are too many at the end, whatever is met later
pub gathered_many : (w : List ℕ) (v e : ℕ) (c : Counters) (ks later : List ℕ) → TooMany w v e c (once eqb ks)
    → TooMany w v e c (once eqb (ks ++ later))
gathered_many w v e c ks later f =
    let b = inserts_begins number_equality (once eqb ks) later in
    subst (TooMany w v e c) (sym (once_append number_equality ks later ∙ b.1))
    (many_early w v e c (once eqb ks) b.0 f)

-- ---- one target

-- so many marks stand in the words
marks_within : (v e : ℕ) (w : List ℕ) (c : Counters) (many : ℕ) → Ready w v e c → Apart v e c.edges many
    → 7 * v + many ≤ length w
marks_within v e w c many r apart = go (dec_lt v many)
  where
    go : Dec (v < many) → 7 * v + many ≤ length w
    go (yes l) = omega (arith, r.whole, apart.1 l)
    go (no d) = omega (arith, r.whole)

-- where nothing from region 5 on has changed, a mark is a word of the slice
module _ (v e many : ℕ) (w w₁ : List ℕ) (c : Counters) (operand : Operand) (i : ℕ) (r : Ready w v e c)
    (a : Raisable w v e many operand c) (rest : drop (5 * v) w₁ ≡ drop (5 * v) w) (size : length w₁ ≡ length w)
    (below : i < many) where
  pub mark_inside : 7 * v + i < length w₁
  mark_inside = omega (arith, marks_within v e w c many r a.apart)

  -- above the start, the edge that it tells has a count, which can rise
  pub mark_raises : (mark : ℕ) → mark ≡ word w₁ (7 * v + i) → operand.start < mark
      → ((mark - 1 < e) × (8 * v + 2 * e ≤ length w₁))
      × (word (counts_of w₁ v e e) (mark - 1) < 4_294_967_295)
  mark_raises mark at h =
      let back : mark ≡ word (marks_of w v many) i =
      at
      ∙ sym (mark_at v many i w₁ below)
      ∙ ap (λ (l : List ℕ). word l i) (marks_rest v many w w₁ rest) in
      let top : mark ≤ c.edges = omega (arith, back, a.marks i below) in
      let z : word (counts_of w₁ v e e) (mark - 1) ≡ word (counts_of w v e c.edges) (mark - 1) =
      counts_word v e e c.edges (mark - 1) w₁ (omega (arith, r.buffer)) (omega arith)
      ∙ ap (λ (l : List ℕ). word l (mark - 1)) (counts_rest v e c.edges w w₁ r.buffer rest) in (
        (omega (arith, r.buffer), omega (arith, r.whole)),
        omega (arith, z, a.counts (mark - 1) (omega arith) (omega arith)),
      )

-- which of so many marks is the one of t, a pair of state s that is vertex u
pub record MarkOf (by : MarkedBy) (item many s t u i : ℕ) : Type 0 where
  pub key : t ≡ key_of s item
  pub told : i ≡ marker by s u
  pub inside : by ≡ State → s < many

pub mark_of : (by : MarkedBy) (item many s u i : ℕ) → i ≡ marker by s u → (by ≡ State → s < many)
    → MarkOf by item many s (key_of s item) u i
mark_of by item many s u i told inside = record { key = refl; told = told; inside = inside }

module _ (v e : ℕ) (w w₁ : List ℕ) (c : Counters) (t u : ℕ) (c₁ : Counters) (r : Ready w v e c)
    (p : Meeting w w₁ v c t u c₁) (size : length w₁ ≡ length w) where
  abbrev n : ℕ
  n = c₁.known

  abbrev m : ℕ
  m = c₁.waiting

  long : length (keys_of w v c.known) ≡ c.known
  long = length-keys w v c.known

  long₁ : length (keys_of w₁ v n) ≡ n
  long₁ = length-keys w₁ v n

  holds₁ : In t (keys_of w₁ v n)
  holds₁ = subst (In t) (sym p.keys) (insert_holds number_equality (keys_of w v c.known) t)

  begins₁ : Begins (keys_of w v c.known) (keys_of w₁ v n)
  begins₁ =
      subst (Begins (keys_of w v c.known)) (sym p.keys) (insert_begins number_equality (keys_of w v c.known) t)

  met_known : u < n
  met_known = omega (arith, position_below number_equality t (keys_of w₁ v n) holds₁, long₁, p.vertex)

  met_below : u < v
  met_below = omega (arith, met_known, p.table.slots.room)

  met_at : word (keys_of w₁ v n) u ≡ t
  met_at = ap (word (keys_of w₁ v n)) p.vertex ∙ position_at number_equality t (keys_of w₁ v n) 0 holds₁

  -- a vertex that was known before stands for the same key
  stays : (i : ℕ) → i < c.known → word (keys_of w₁ v n) i ≡ word (keys_of w v c.known) i
  stays i l = begins-at (keys_of w v c.known) (keys_of w₁ v n) 0 begins₁ i (omega (arith, long))

  met_stays : u < c.known → word (keys_of w v c.known) u ≡ t
  met_stays l = sym (stays u l) ∙ met_at

  same_place : (i j : ℕ) → i < n → j < n → word (keys_of w₁ v n) i ≡ word (keys_of w₁ v n) j → i ≡ j
  same_place i j h l =
      distinct_positions (keys_of w₁ v n) 0 p.table.slots.distinct i j (omega (arith, long₁))
      (omega (arith, long₁))

  -- a vertex whose key was known before was known before
  was_vertex : (i : ℕ) → i < n → In (word (keys_of w₁ v n) i) (keys_of w v c.known) → i < c.known
  was_vertex i h k =
      let j = position eqb (word (keys_of w₁ v n) i) (keys_of w v c.known) in
      let b : j < c.known =
      omega (arith, position_below number_equality (word (keys_of w₁ v n) i) (keys_of w v c.known) k, long) in
      let z : i ≡ j = same_place i j h (omega (arith, p.grows))
      (sym (stays j b ∙ position_at number_equality (word (keys_of w₁ v n) i) (keys_of w v c.known) 0 k)) in
      omega (arith, z)

  -- where t was known all stays
  was_known : In t (keys_of w v c.known) → (keys_of w₁ v n ≡ keys_of w v c.known) × (n ≡ c.known)
  was_known i =
      let z : keys_of w₁ v n ≡ keys_of w v c.known =
      p.keys ∙ insert_old number_equality (keys_of w v c.known) t i in
      (z, sym long₁ ∙ ap length z ∙ long)

  marks-kept : (many : ℕ) → marks_of w₁ v many ≡ marks_of w v many
  marks-kept many = marks_rest v many w w₁ p.rest

  -- the mark of t, of either kind: i, one of so many
  module _ (many : ℕ) (wide : v ≤ many) (item s i : ℕ) where
    pub met_below_mark : (by : MarkedBy) → MarkOf by item many s t u i → i < many
    met_below_mark State o = omega (arith, o.told, o.inside refl)
    met_below_mark Vertex o = omega (arith, o.told, met_below)

    module _ (start : ℕ) (ts : List ℕ) where
      met_above : (by : MarkedBy) → MarkOf by item many s t u i
          → Marked by item (marks_of w v many) (keys_of w v c.known) many c.known start ts
          → start < word (marks_of w v many) i
          → In t ts × (word (marks_of w v many) i ≡ suc (start + position eqb t ts))
      met_above State o k h =
          above (marks_of w v many) (λ x. key_of x item) many many start t i ts
          (λ l. ap (λ (x : ℕ). key_of x item) o.told ∙ sym o.key) k (met_below_mark State o) h
      met_above Vertex o k h =
          above (marks_of w v many) (word (keys_of w v c.known)) many c.known start t i ts
          (λ l. ap (word (keys_of w v c.known)) o.told ∙ met_stays (omega (arith, o.told))) k
          (met_below_mark Vertex o) h

      module _ (all : (q : ℕ) → In q ts → In q (keys_of w v c.known)) where
        met_not_above : (by : MarkedBy) → MarkOf by item many s t u i
            → Marked by item (marks_of w v many) (keys_of w v c.known) many c.known start ts
            → word (marks_of w v many) i ≤ start → ¬ In t ts
        met_not_above State o k h =
            not-above (marks_of w v many) (λ x. key_of x item) many many start t i ts
            (λ l. ap (λ (x : ℕ). key_of x item) o.told ∙ sym o.key) k h (λ a. met_below_mark State o)
        met_not_above Vertex o k h =
            not-above (marks_of w v many) (word (keys_of w v c.known)) many c.known start t i ts
            (λ l. ap (word (keys_of w v c.known)) o.told ∙ met_stays (omega (arith, o.told))) k h
            (λ a. omega (arith, o.told, met_known, (was_known (all t a)).1))

        met_marked : (by : MarkedBy) → 7 * v + many ≤ length w → MarkOf by item many s t u i → (¬ In t ts)
            → Marked by item (marks_of w v many) (keys_of w v c.known) many c.known start ts
            → Marked by item (set (marks_of w v many) i (suc (start + length ts))) (keys_of w₁ v n) many n start
            (ts ++ (t ∷ []))
        met_marked State within o d k =
            mark_more (marks_of w v many) (λ x. key_of x item) (λ x. key_of x item) many many many start t i ts
            (omega arith) (λ x l. refl) (λ x y a b z. omega (arith, z)) (λ x l a. l)
            (ap (λ (x : ℕ). key_of x item) o.told ∙ sym o.key) (met_below_mark State o)
            (omega (arith, length_marks v many w within, met_below_mark State o)) d k
        met_marked Vertex within o d k =
            mark_more (marks_of w v many) (word (keys_of w v c.known)) (word (keys_of w₁ v n)) many c.known n start t
            i ts p.grows stays same_place (λ x l a. was_vertex x l (all (word (keys_of w₁ v n) x) a))
            (ap (word (keys_of w₁ v n)) o.told ∙ met_at) (omega (arith, o.told, met_known))
            (omega (arith, length_marks v many w within, met_below_mark Vertex o)) d k

  -- t is met once more, after ks
  module _ (operand : Operand) (many : ℕ) (apart : Apart v e c.edges many) (s i : ℕ)
      (o : MarkOf operand.marked_by operand.item many s t u i) (w₀ : List ℕ) (c₀ : Counters)
      (ks : List ℕ) (g : Gathering w₀ v e many c₀ operand ks w c) where
    -- all that were met are known
    all : (q : ℕ) → In q (once eqb ks) → In q (keys_of w v c.known)
    all = made_known w₀ v e c₀ w c (once eqb ks) (tallies ks) g.made

    below : i < many
    below = met_below_mark many apart.0 operand.item s i operand.marked_by o

    -- its mark is as it was before t was met
    mark_kept : word w₁ (7 * v + i) ≡ word (marks_of w v many) i
    mark_kept =
        sym (mark_at v many i w₁ below) ∙ ap (λ (l : List ℕ). word l i) (marks-kept many)

    marked_edge : (mark : ℕ) → mark ≡ word w₁ (7 * v + i) → c₀.edges < mark
        → In t (once eqb ks) × (mark ≡ suc (c₀.edges + position eqb t (once eqb ks)))
    marked_edge mark at h =
        let back : mark ≡ word (marks_of w v many) i = at ∙ mark_kept in
        let a = met_above many apart.0 operand.item s i c₀.edges (once eqb ks)
        operand.marked_by o g.marked (subst (λ (k : ℕ). c₀.edges < k) back h) in
        (a.0, back ∙ a.1)

    same_keys : (w₂ : List ℕ) → In t (once eqb ks) → ((a : ℕ) → a < 8 → region a v w₂ ≡ region a v w₁)
        → keys_of w₂ v n ≡ keys_of w v c.known
    same_keys w₂ a kept = keys_kept w₁ w₂ v n (λ x b. kept x (omega arith)) ∙ (was_known (all t a)).0

    -- all but the counts is as it was
    again : (w₂ cs : List ℕ) → In t (once eqb ks) → length w₂ ≡ length w₁
        → ((a : ℕ) → a < 8 → region a v w₂ ≡ region a v w₁)
        → edges_of w₂ v e c.edges ≡ edges_of w₁ v e c.edges
        → counts_of w₂ v e c.edges ≡ counts_of w₀ v e c₀.edges ++ cs
        → Made w₀ v e c₀ w₂ (with_edges c₁ c.edges) (once eqb ks) cs
    again w₂ cs i long₂ kept same counts =
        let d = g.made in
        let known = same_keys w₂ i kept in
        let later : (a : ℕ) → 5 ≤ a → a < 8 → region a v w₂ ≡ region a v w =
        λ a b l. kept a l ∙ rest_region 5 a v w w₁ p.rest b in
        record {
          ready =
              ready_on v e w w₂ c (with_edges c₁ c.edges) r (long₂ ∙ size)
              (table_kept w₁ w₂ v n (λ a b. kept a (omega arith)) p.table) (omega (arith, r.stack, p.balance, p.same_settled))
              r.buffer;
          keys = known ∙ d.keys;
          waits =
              ap (λ (s : List ℕ). waiting_in s m) (kept 4 (lit< tt))
              ∙ p.waits
              ∙ ap (push_new c.known (n - c.known)) d.waits
              ∙ push_on c₀.known c.known n (waiting_of w₀ v c₀.waiting) d.grows p.grows;
          row =
              same
              ∙ edges_rest v e c.edges w w₁ r.buffer p.rest
              ∙ d.row
              ∙ ap (λ (l : List ℕ). edges_of w₀ v e c₀.edges ++ positions eqb l (once eqb ks)) (sym known);
          row_length = d.row_length;
          counts = counts;
          balance = omega (arith, d.balance, p.balance);
          grows = omega (arith, d.grows, p.grows);
          same_settled = p.same_settled ∙ d.same_settled;
          starts = later 5 (lit≤ tt) (lit< tt) ∙ d.starts;
          degrees = later 6 (lit≤ tt) (lit< tt) ∙ d.degrees;
          marks = λ a j h.
              subst (λ (l : List ℕ). word l j ≤ c.edges) (sym (later 7 (lit≤ tt) (lit< tt))) (d.marks a j h);
        }

    -- marked: it has its edge, whose count rises
    pub once_old : (w₂ : List ℕ) (mark : ℕ) → mark ≡ word w₁ (7 * v + i) → c₀.edges < mark
        → w₂ ≡ put_count v e (mark - 1) (word (counts_of w₁ v e e) (mark - 1) + 1) w₁
        → Gathering w₀ v e many c₀ operand (ks ++ (t ∷ [])) w₂ c₁
    once_old w₂ mark at h g₂ =
        let edge = marked_edge mark at h in
        let met = edge.0 in
        let count = word (counts_of w₁ v e e) (mark - 1) + 1 in
        let front = counts_of w₀ v e c₀.edges in
        let within : mark - 1 < c.edges =
        omega (arith, edge.1, position_below number_equality t (once eqb ks) met, g.made.row_length) in
        let room : mark - 1 < e = omega (arith, within, r.buffer) in
        let place : mark - 1 ≡ length front + position eqb t (once eqb ks) =
        omega (arith, edge.1, length_counts w₀ v e c₀.edges) in
        let before : counts_of w₁ v e c.edges ≡ front ++ tallies ks =
        counts_rest v e c.edges w w₁ r.buffer p.rest ∙ g.made.counts in
        let counted : word (counts_of w₁ v e e) (mark - 1) ≡ word (front ++ tallies ks) (mark - 1) =
        counts_word v e e c.edges (mark - 1) w₁ (omega (arith, r.buffer)) within
        ∙ ap (λ (l : List ℕ). word l (mark - 1)) before in
        let raised : counts_of w₂ v e c.edges ≡ front ++ tallies (ks ++ (t ∷ [])) =
        ap (λ (l : List ℕ). counts_of l v e c.edges) g₂
        ∙ counts_raised v e (mark - 1) count c.edges w₁ within r.buffer (omega (arith, r.whole, size))
        ∙ ap₂ (λ (l : List ℕ) (y : ℕ). set l (mark - 1) (y + 1)) before counted
        ∙ raise_at front ks t (mark - 1) met place in
        let kept : (a : ℕ) → a < 8 → region a v w₂ ≡ region a v w₁ =
        λ a b. ap (region a v) g₂ ∙ region_count a v e (mark - 1) count w₁ b room in
        let marks : marks_of w₂ v many ≡ marks_of w v many =
        ap (λ (l : List ℕ). marks_of l v many) g₂
        ∙ marks_count v e (mark - 1) count many w₁ (λ l. omega (arith, within, apart.1 l)) room
        ∙ marks-kept many in
        record {
          made =
              rw (once_same ks t met)
              (subst (λ (b : ℕ). Made w₀ v e c₀ w₂ (with_edges c₁ b) (once eqb ks) (tallies (ks ++ (t ∷ []))))
              (sym p.same_edges)
              (again w₂ (tallies (ks ++ (t ∷ []))) met (ap length g₂ ∙ length-put_count v e (mark - 1) count w₁) kept
              (ap (λ (l : List ℕ). edges_of l v e c.edges) g₂
              ∙ edges_raised v e (mark - 1) count c.edges w₁ room r.buffer) raised));
          marked =
              rw (once_same ks t met, marks, same_keys w₂ met kept, (was_known (all t met)).1) g.marked;
        }

    -- not marked: it was not met
    fresh : word w₁ (7 * v + i) ≤ c₀.edges → ¬ In t (once eqb ks)
    fresh h =
        met_not_above many apart.0 operand.item s i c₀.edges (once eqb ks) all
        operand.marked_by o g.marked (subst (λ (k : ℕ). k ≤ c₀.edges) mark_kept h)

    once_new : (w₂ w₃ : List ℕ) → word w₁ (7 * v + i) ≤ c₀.edges → c.edges < e
        → w₂ ≡ put_word 7 v i (c.edges + 1) w₁ → w₃ ≡ put_edge v e c.edges u 1 w₂
        → Gathering w₀ v e many c₀ operand (ks ++ (t ∷ [])) w₃ (with_edges c₁ (c.edges + 1))
    once_new w₂ w₃ h room g₂ g₃ =
        let ts = once eqb ks in
        let d = fresh h in
        let mark = c.edges + 1 in
        let place : mark ≡ suc (c₀.edges + length ts) = omega (arith, g.made.row_length) in
        let kept : (a : ℕ) → a < 7 → region a v w₂ ≡ region a v w₁ =
        λ a b. ap (region a v) g₂ ∙ region_mark a v i mark w₁ b in
        let marks : marks_of w₂ v many ≡ set (marks_of w v many) i mark =
        ap (λ (l : List ℕ). marks_of l v many) g₂
        ∙ mark_put v i mark many w₁ below
        ∙ ap (λ (l : List ℕ). set l i mark) (marks-kept many) in
        let marks₃ : marks_of w₃ v many ≡ set (marks_of w v many) i (suc (c₀.edges + length ts)) =
        ap (λ (l : List ℕ). marks_of l v many) g₃
        ∙ marks_edge v e c.edges u 1 many w₂ apart.1 room
        ∙ marks
        ∙ ap (set (marks_of w v many) i) place in
        let within : 7 * v + many ≤ length w = marks_within v e w c many r apart in
        let wide : length (marks_of w v many) ≡ many = length_marks v many w within in
        let free : v < many → many + c.edges ≤ v + e = λ l. omega (arith, apart.1 l) in
        let keys : keys_of w₃ v n ≡ keys_of w₁ v n =
        keys_kept w₁ w₃ v n
        (λ a b. ap (region a v) g₃ ∙ region_edge a v e c.edges u 1 w₂ (omega arith) room ∙ kept a (omega arith)) in
        let edge : Made w v e c w₃ (with_edges c₁ (c.edges + 1)) (t ∷ []) (1 ∷ []) =
        edge_made v e w w₁ w₂ w₃ c t u 1 c₁ r p room (ap length g₂ ∙ length-put_word 7 v i mark w₁ ∙ size) kept
        (ap (λ (l : List ℕ). edges_of l v e c.edges) g₂
        ∙ edges_mark v e c.edges i mark many w₁ free below r.buffer)
        (ap (λ (l : List ℕ). counts_of l v e c.edges) g₂
        ∙ counts_mark v e c.edges i mark many w₁ free below r.buffer)
        (λ a x l.
        subst (λ (b : ℕ). b ≤ mark) (sym (first_marks v many x w₂ l apart.0 ∙ ap (λ (b : List ℕ). word b x) marks))
        (mark_bound (marks_of w v many) i mark x (omega (arith, a x l, first_marks v many x w l apart.0))
        (ℕ_discrete x i) (omega (arith, wide, below))))
        g₃ in
        record {
          made =
              rw (once_longer ks t d, tallies_new ks t d)
              (made_more v e w₀ w w₃ c₀ c (with_edges c₁ (c.edges + 1)) ts (t ∷ []) (tallies ks) (1 ∷ []) g.made edge);
          marked =
              rw (once_longer ks t d, marks₃, keys)
              (met_marked many apart.0 operand.item s i c₀.edges ts all operand.marked_by within o d
              g.marked);
        }
      where
        mark_bound : (l : List ℕ) (y s i : ℕ) → word l i ≤ s → Dec (i ≡ y) → y < length l → word (set l y s) i ≤ s
        mark_bound l y s i b (yes q) h = rw q (rw (get_or-set_same l y s 0 h) (omega arith))
        mark_bound l y s i b (no q) h = rw (get_or-set_other l y i s 0 q) b

    once_many : word w₁ (7 * v + i) ≤ c₀.edges → e ≤ c.edges
        → TooMany w₀ v e c₀ (once eqb (ks ++ (t ∷ [])))
    once_many h l =
        inr (omega (
          arith,
          ap length (once_longer ks t (fresh h)),
          length-append (once eqb ks) (t ∷ []),
          g.made.row_length,
        ))

    pub once_appended : (w₂ w₃ : List ℕ) (r : Result Counters NoRoom) → word w₁ (7 * v + i) ≤ c₀.edges
        → w₂ ≡ put_word 7 v i (c₁.edges + 1) w₁ → Appended v e c₁ u 1 w₂ w₃ r
        → Gathered w₀ v e many c₀ operand (ks ++ (t ∷ [])) w₃ r
    once_appended w₂ w₃ (Ok c₂) h g₂ a =
        subst (λ (d : Counters). Gathering w₀ v e many c₀ operand (ks ++ (t ∷ [])) w₃ d)
        (sym (a.2 ∙ ap (λ (k : ℕ). with_edges c₁ (k + 1)) p.same_edges))
        (once_new w₂ w₃ h (omega (arith, a.0, p.same_edges))
        (g₂ ∙ ap (λ (k : ℕ). put_word 7 v i (k + 1) w₁) p.same_edges)
        (a.1 ∙ ap (λ (k : ℕ). put_edge v e k u 1 w₂) p.same_edges))
    once_appended w₂ w₃ (Err x) h g₂ a = once_many h (omega (arith, a.0, p.same_edges))

-- marked by its state: that the pair is known need not be looked up, since to meet it again would change nothing
pub once_early : (v e : ℕ) (w : List ℕ) (c : Counters) (t : ℕ) → Ready w v e c → (operand : Operand) (many : ℕ)
    → Apart v e c.edges many → (s : ℕ) → t ≡ key_of s operand.item → operand.marked_by ≡ State
    → s < many → (w₀ : List ℕ) (c₀ : Counters) (ks : List ℕ) → Gathering w₀ v e many c₀ operand ks w c
    → (w₂ : List ℕ) (mark : ℕ) → mark ≡ word w (7 * v + s) → c₀.edges < mark
    → w₂ ≡ put_count v e (mark - 1) (word (counts_of w v e e) (mark - 1) + 1) w
    → Gathering w₀ v e many c₀ operand (ks ++ (t ∷ [])) w₂ c
once_early v e w c t r operand many apart s key chosen inside w₀ c₀ ks g w₂ mark at h g₂ =
    let u = position eqb t (keys_of w v c.known) in
    once_old v e w w c t u c r again refl operand many apart s s
    (record { key = key; told = ap (λ (b : MarkedBy). marker b s u) (sym chosen); inside = λ z. inside })
    w₀ c₀ ks g w₂ mark at h g₂
  where
    known : In t (keys_of w v c.known)
    known =
        made_known w₀ v e c₀ w c (once eqb ks) (tallies ks) g.made t
        (above (marks_of w v many) (λ x. key_of x operand.item) many many c₀.edges t s (once eqb ks) (λ l. sym key)
        (subst (λ (b : MarkedBy).
        Marked b operand.item (marks_of w v many) (keys_of w v c.known) many c.known c₀.edges (once eqb ks))
        chosen g.marked) inside (omega (arith, at, mark_at v many s w inside))).0

    again : Meeting w w v c t (position eqb t (keys_of w v c.known)) c
    again =
        record {
          table = r.table;
          keys = sym (insert_old number_equality (keys_of w v c.known) t known);
          vertex = refl;
          waits = sym (push_none c.known (waiting_of w v c.waiting));
          balance = refl;
          grows = omega arith;
          same_settled = refl;
          same_edges = refl;
          rest = refl;
        }

-- too many vertices: the pair was new, so it was not met
pub once_crowded : (v e : ℕ) (w : List ℕ) (c : Counters) (t : ℕ) (w₀ : List ℕ) (c₀ : Counters) (ks : List ℕ)
    → c.known ≤ v → v < length (insert eqb (keys_of w v c.known) t)
    → Made w₀ v e c₀ w c (once eqb ks) (tallies ks) → TooMany w₀ v e c₀ (once eqb (ks ++ (t ∷ [])))
once_crowded v e w c t w₀ c₀ ks room l made =
    let d : ¬ In t (once eqb ks) = λ i.
    let z =
    ap length (insert_old number_equality (keys_of w v c.known) t
    (made_known w₀ v e c₀ w c (once eqb ks) (tallies ks) made t i)) in
    omega (arith, z, length-keys w v c.known) in
    subst (TooMany w₀ v e c₀) (sym (once_longer ks t d))
    (many_more v e w₀ w w c₀ c c (once eqb ks) (t ∷ []) (tallies ks) [] made (many_one w v e c t l))

-- where meeting it answers that there is no room
pub gathered_failed : (w : List ℕ) (v e many : ℕ) (c : Counters) (o : Operand) (ks w' : List ℕ) (r : Result Counters NoRoom)
    → IsErr r → TooMany w v e c (once eqb ks) → Gathered w v e many c o ks w' r
gathered_failed w v e many c o ks w' (Ok c') h f = absurd (false≢true h)
gathered_failed w v e many c o ks w' (Err x) h f = f
