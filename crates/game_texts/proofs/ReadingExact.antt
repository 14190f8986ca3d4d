-- Refusals of reading are exact: it is refused with fault n at place p exactly if that is the first fault of the room,
-- the lent slice and the text, in the order of numbers; it is not refused exactly if there is no fault. Assumes
-- nothing.
use Prim.Native.Nat.{ℕ, suc}
use native.Mathlib.Omega.{arith}
use mathlib.Core.Path.{◌≡◌, refl, sym, ap, ◌∙◌, subst}
use mathlib.Core.Bool.{Bool, true, false, not, ◌||◌, true≢false}
use mathlib.Core.List.{List, [], ◌∷◌, ◌++◌, map}
use mathlib.Core.Logic.{◌⊎◌, inl, inr, ⊎_elim, ◌↔◌}
use mathlib.Core.Option.{Option, none, some}
use lib.Dec.{ltb, leb}
use borrow.Author.Tests.{ltb-true, ltb-false, lt-ltb, le-ltb, leb-true, leb-false, not-true}
use Rattle.rules.specs.Answers.{Check}
use Rattle.std.specs.declared.result.Result.TheVariants.{Ok}
use Rattle.rules.specs.Answers.{fault}
use Rattle.rules.specs.declared.Room.{Room}
use Rattle.rules.specs.Lists.{In, from}
use Rattle.rules.specs.Words.{game_length, work_length}
use Rattle.rules.specs.Answers.{fault_if, and_then, first_fault}
use Rattle.rules.specs.Game.{edge_count}
use Rattle.rules.specs.Refusal.{differ, refusal1, refusal2}
use Rattle.rules.specs.Faulty.{FaultyRoom}
use Rattle.rules.specs.FaultyText.{FaultyReading, no_room, formless, missing, given_twice, vertex_above, successor_above}
use Rattle.rules.specs.FaultyText.{vertices_beyond, edges_beyond, priority_beyond, FirstFaultyReading}
use Rattle.rules.specs.Pgsolver.{SolverLine, SolverText, HasForm}
use Rattle.rules.specs.PgsolverParse.{parse}
use Rattle.rules.specs.PgsolverReading.{vertex_of, all, different, numbers_of}
use Rattle.rules.specs.PgsolverReading.{refusal92, refusal93, text_refusal, reading_refusal}
use Rattle.lists.proofs.Tests.{or_left, or_right, or-true}
use Rattle.lists.proofs.Members.{in_or}
use Rattle.lists.proofs.Equalities.{number_equality}
use Rattle.lists.proofs.Ranges.{from_in, in_from}
use Rattle.tables.proofs.Choices.{differ_no}
use Rattle.tables.proofs.Faults.{passed_not_fault, if-false, then_assoc}
use Rattle.tables.proofs.Order.{Numbered, Finds, Sound, Each, Some, Rising, if_numbered, if_sound, if_finds}
use Rattle.tables.proofs.Order.{each_map, each_append, some_left, some_right, first_exact, passed_exact, none_or_first}
use Rattle.tables.proofs.FaultyWords.{room_checks, room_sound, room_finds}
use Rattle.game_texts.specs.GivenOnce.{GivenOnce}
use Rattle.game_texts.proofs.Parsing.{parse_says, says_parse}
use Rattle.game_texts.proofs.Exact.{formless_none, all_holds, all_not, different_distinct}
use Rattle.game_texts.proofs.Exact.{distinct_different, numbered, in_word, refusal92_exact}

-- ---- 91, 92 and 93 one after another

no_form : Option SolverText → Bool
no_form none = true
no_form (some t) = false

numbers : Option SolverText → Check
numbers none = Ok tt
numbers (some t) = refusal92 t

sizes : Room → Option SolverText → Check
sizes r none = Ok tt
sizes r (some t) = refusal93 r t

text_checks : (r : Room) (m : Option SolverText)
    → and_then (text_refusal r m) (Ok tt) ≡ first_fault (fault_if 91 0 (no_form m) ∷ numbers m ∷ sizes r m ∷ [])
unfolding text_refusal first_fault and_then fault_if no_form numbers sizes
text_checks r none = refl
text_checks r (some t) = then_assoc (refusal92 t) (refusal93 r t) (Ok tt)

-- ---- 92

-- one list has a number that another has not, or all its numbers stand in the other
one-missing : (vs ns : List ℕ) → ((v : ℕ) × In v vs × (¬ In v ns)) ⊎ ((v : ℕ) → In v vs → In v ns)
one-missing [] ns = inr (λ v i. absurd i)
one-missing (u ∷ vs) ns = go (in_or number_equality u ns) (one-missing vs ns)
  where
    go : In u ns ⊎ (¬ In u ns) → ((v : ℕ) × In v vs × (¬ In v ns)) ⊎ ((v : ℕ) → In v vs → In v ns)
        → ((v : ℕ) × In v (u ∷ vs) × (¬ In v ns)) ⊎ ((v : ℕ) → In v (u ∷ vs) → In v ns)
    go (inr n) r = inl (u, inl refl, n)
    go (inl i) (inl (v, j, n)) = inl (v, inr j, n)
    go (inl i) (inr all) = inr both
      where
        both : (v : ℕ) → In v (u ∷ vs) → In v ns
        both v (inl e) = subst (λ (w : ℕ). In w ns) (sym e) i
        both v (inr j) = all v j

not_given : (t : SolverText) → (¬ GivenOnce t) → Finds 92 0 (refusal92 t)
unfolding refusal92
not_given t n = go (not (numbered t)) refl
  where
    go : (b : Bool) → not (numbered t) ≡ b → Finds 92 0 (fault_if 92 0 (not (numbered t)))
    go true e = if_finds 92 0 _ e
    go false e = absurd (n ((refusal92_exact t).0 (if-false 92 0 e)))

-- ---- the tests of 93

abbrev many_vertices : Room → SolverText → Bool
many_vertices r t = ltb r.vertices (suc t.highest)

abbrev many_edges : Room → SolverText → Bool
many_edges r t = ltb r.edges (edge_count (map vertex_of t.lines))

module _ (r : Room) (bytes : List ℕ) (game : ℕ) where
  abbrev F : ℕ → ℕ → Type 0
  F = FaultyReading r bytes game

  module _ (t : SolverText) (s : HasForm bytes t) where
    abbrev ns : List ℕ
    ns = numbers_of t.lines

    abbrev below : SolverLine → Bool
    below l = leb l.number t.highest

    abbrev leads : SolverLine → Bool
    leads l = all (λ u. leb u t.highest) l.successors

    abbrev range : List ℕ
    range = from 0 (suc t.highest)

    -- a clause of 92 holds, or each number is given once
    given-or : F 92 0 ⊎ GivenOnce t
    given-or = go (one-missing range ns) (different ns) refl (all below t.lines) refl (all leads t.lines) refl
      where
        go : ((v : ℕ) × In v range × (¬ In v ns)) ⊎ ((v : ℕ) → In v range → In v ns) → (b : Bool) → different ns ≡ b
            → (c : Bool) → all below t.lines ≡ c → (d : Bool) → all leads t.lines ≡ d → F 92 0 ⊎ GivenOnce t
        go (inl (v, i, n)) b e c f d g = inl (missing t s v (omega (arith, (in_from v 0 (suc t.highest) i).1)) n)
        go (inr every) false e c f d g = inl (given_twice t s (λ k. true≢false (sym (distinct_different ns k) ∙ e)))
        go (inr every) true e false f d g =
            let (l, i, k) = all_not below t.lines f in
            inl (vertex_above t s l i (leb-false l.number t.highest k))
        go (inr every) true e true f false g =
            let (l, i, k) = all_not leads t.lines g in
            let (u, j, m) = all_not (λ u. leb u t.highest) l.successors k in
            inl (successor_above t s l i u j (leb-false u t.highest m))
        go (inr every) true e true f true g =
            inr (record {
              given = λ v h. every v (from_in v 0 (suc t.highest) (omega arith) (omega arith));
              once = different_distinct ns e;
              below = λ l i. leb-true l.number t.highest (all_holds below t.lines f l i);
              leads = λ l i u j. leb-true u t.highest
                  (all_holds (λ u. leb u t.highest) l.successors (all_holds leads t.lines g l i) u j);
            })

    numbers_sound : Sound F (refusal92 t)
    numbers_sound n p e =
        ⊎_elim (λ f. at f) (λ g. absurd (passed_not_fault (sym ((refusal92_exact t).1 g) ∙ e))) given-or
      where
        at : F 92 0 → F n p
        at f = unfold refusal92 in if_sound F 92 0 _ (λ z. f) n p e

    sizes_sound : Sound F (refusal93 r t)
    unfolding refusal93
    sizes_sound =
        if_sound F 93 0 _
        (λ e. ⊎_elim (λ i. vertices_beyond t s (omega (arith, ltb-true r.vertices (suc t.highest) i)))
        (λ e. ⊎_elim (λ i. beyond (not-true (all in_word t.lines) i))
        (λ i. edges_beyond t s (ltb-true r.edges (edge_count (map vertex_of t.lines)) i))
        (or-true (not (all in_word t.lines)) (many_edges r t) e))
        (or-true (many_vertices r t) (not (all in_word t.lines) || many_edges r t) e))
      where
        beyond : all in_word t.lines ≡ false → F 93 0
        beyond e =
            let (l, i, k) = all_not in_word t.lines e in
            priority_beyond t s l i (omega (arith, ltb-false l.priority 4_294_967_296 k))

  -- ---- the checks

  abbrev text : List Check
  text = fault_if 91 0 (no_form (parse bytes)) ∷ numbers (parse bytes) ∷ sizes r (parse bytes) ∷ []

  abbrev checks : List Check
  checks = room_checks r game (work_length r) ++ text

  whole : reading_refusal r bytes game ≡ first_fault checks
  unfolding reading_refusal first_fault refusal2
  whole =
      ap (λ (b : Bool). and_then (refusal1 r)
      (and_then (fault_if 2 0 b) (and_then (text_refusal r (parse bytes)) (Ok tt)))) slices
      ∙ ap (λ c. and_then (refusal1 r) (and_then (refusal2 r game (work_length r)) c)) (text_checks r (parse bytes))
    where
      slices : differ game (game_length r) ≡ (differ game (game_length r) || differ (work_length r) (work_length r))
      slices = rw (differ_no {a = work_length r} refl) (last (differ game (game_length r)))
        where
          last : (b : Bool) → b ≡ (b || false)
          last true = refl
          last false = refl

  form_sound : Sound F (fault_if 91 0 (no_form (parse bytes)))
  form_sound = if_sound F 91 0 _ (λ e. formless ((formless_none bytes).0 (is_none (parse bytes) e)))
    where
      is_none : (m : Option SolverText) → no_form m ≡ true → m ≡ none
      is_none none e = refl
      is_none (some t) e = unfold no_form in absurd (true≢false (sym e))

  -- a check is sound if it is so for the text that the bytes say
  of_text : (c : Option SolverText → Check) → c none ≡ Ok tt
      → ((t : SolverText) → HasForm bytes t → Sound F (c (some t)))
      → Sound F (c (parse bytes))
  of_text c e f = go (parse bytes) refl
    where
      go : (m : Option SolverText) → parse bytes ≡ m → Sound F (c m)
      go none q = λ n p d. absurd (passed_not_fault (sym e ∙ d))
      go (some t) q = f t (parse_says bytes t q)

  text_sound : Each (Sound F) text
  unfolding numbers sizes
  text_sound = (form_sound, (of_text numbers refl numbers_sound, (of_text (sizes r) refl sizes_sound, tt)))

  sound : Each (Sound F) checks
  sound =
      each_append (Sound F) (room_checks r game (work_length r)) text
      (each_map (Sound (FaultyRoom r game (work_length r))) (Sound F) (λ c h n p e. no_room (h n p e))
      (room_checks r game (work_length r)) (room_sound r game (work_length r)))
      text_sound

  -- ---- what they find

  text_found : (n q : ℕ) → Some (Finds n q) text → Some (Finds n q) checks
  text_found n q h = some_right (Finds n q) (room_checks r game (work_length r)) text h

  form_found : ((t : SolverText) → ¬ HasForm bytes t) → Some (Finds 91 0) text
  unfolding no_form
  form_found f = inl (if_finds 91 0 _ (ap no_form ((formless_none bytes).1 f)))

  numbers_found : (t : SolverText) → HasForm bytes t → (¬ GivenOnce t) → Some (Finds 92 0) text
  unfolding numbers
  numbers_found t s n =
      inr (inl (subst (λ (m : Option SolverText). Finds 92 0 (numbers m)) (sym (says_parse bytes t s)) (not_given t n)))

  sizes_found : (t : SolverText) → HasForm bytes t
      → (many_vertices r t || (not (all in_word t.lines) || many_edges r t)) ≡ true → Some (Finds 93 0) text
  unfolding sizes refusal93
  sizes_found t s e =
      inr (inr (inl (subst (λ (m : Option SolverText). Finds 93 0 (sizes r m)) (sym (says_parse bytes t s))
      (if_finds 93 0 _ e))))

  finds : (n q : ℕ) → FaultyReading r bytes game n q → Some (Finds n q) checks
  finds n q (no_room f) =
      some_left (Finds n q) (room_checks r game (work_length r)) text (room_finds r game (work_length r) f)
  finds n q (formless f) = text_found 91 0 (form_found f)
  finds n q (missing t s v h m) = text_found 92 0 (numbers_found t s (λ g. m (g.given v h)))
  finds n q (given_twice t s d) = text_found 92 0 (numbers_found t s (λ g. d g.once))
  finds n q (vertex_above t s l i a) =
      text_found 92 0 (numbers_found t s (λ g. let b = g.below l i in omega arith))
  finds n q (successor_above t s l i u j a) =
      text_found 92 0 (numbers_found t s (λ g. let b = g.leads l i u j in omega arith))
  finds n q (vertices_beyond t s h) =
      text_found 93 0 (sizes_found t s (or_left _ (lt-ltb r.vertices (suc t.highest) (omega arith))))
  finds n q (edges_beyond t s h) =
      text_found 93 0
      (sizes_found t s (or_right (many_vertices r t) (or_right (not (all in_word t.lines))
      (lt-ltb r.edges (edge_count (map vertex_of t.lines)) h))))
  finds n q (priority_beyond t s l i h) =
      text_found 93 0
      (sizes_found t s (or_right (many_vertices r t) (or_left (many_edges r t) (large (all in_word t.lines) refl))))
    where
      large : (b : Bool) → all in_word t.lines ≡ b → not (all in_word t.lines) ≡ true
      large true e =
          absurd (true≢false (sym (all_holds in_word t.lines e l i)
          ∙ le-ltb l.priority 4_294_967_296 (omega arith)))
      large false e = ap not e

  -- ---- their numbers

  of_numbered : (k : ℕ) (c : Option SolverText → Check) → c none ≡ Ok tt → ((t : SolverText) → Numbered k (c (some t)))
      → (m : Option SolverText) → Numbered k (c m)
  of_numbered k c e f none = λ n p d. absurd (passed_not_fault (sym e ∙ d))
  of_numbered k c e f (some t) = f t

  rising : Rising (λ n. n) 0 checks
  unfolding refusal1 refusal2 numbers sizes refusal92 refusal93
  rising = (
    1,
    omega arith,
    if_numbered 1 0 _,
    (
      2,
      omega arith,
      if_numbered 2 0 _,
      (
        91,
        omega arith,
        if_numbered 91 0 _,
        (
          92,
          omega arith,
          of_numbered 92 numbers refl (λ t. if_numbered 92 0 _) (parse bytes),
          (93, omega arith, of_numbered 93 (sizes r) refl (λ t. if_numbered 93 0 _) (parse bytes), tt),
        ),
      ),
    ),
  )

  -- ---- the theorems

  pub reading_exact : (n p : ℕ) → reading_refusal r bytes game ≡ fault n p ↔ FirstFaultyReading r bytes game n p
  reading_exact n p = rw whole (first_exact (λ k. k) F checks sound finds rising n p)

  pub reading_passed : reading_refusal r bytes game ≡ Ok tt ↔ ((n p : ℕ) → ¬ FaultyReading r bytes game n p)
  reading_passed = rw whole (passed_exact (λ k. k) F checks sound finds rising)

  -- there is no fault or a first one
  pub reading_none_or_first : ((n p : ℕ) → ¬ FaultyReading r bytes game n p)
      ⊎ ((n : ℕ) × (p : ℕ) × FirstFaultyReading r bytes game n p)
  reading_none_or_first = none_or_first (λ k. k) F checks sound finds rising
