-- The laws of the stack, of the edge buffer, of the marks, of what the parts of a step ask and of what is read off for
-- one vertex. Assumes nothing.
use mathlib.Core.Path.{◌≡◌, refl, sym, ◌∙◌, ap, ap₂}
use mathlib.Core.Bool.{true, false}
use mathlib.Core.List.{List, [], ◌∷◌, ◌++◌, map}
use Prim.Native.Nat.{ℕ, zero, suc, ◌+◌, ◌-◌, ◌*◌, ◌≤◌, ◌<◌}
use native.Mathlib.Decide.{dec_lt, ℕ_discrete}
use native.Mathlib.Numerals.{add-one}
use native.Mathlib.Omega.{arith}
use lib.Dec.{ltb, lit≤}
use lib.ListN.{length, set, take, drop, length-take, length-drop, length-set, length-map}
use borrow.Author.Tests.{ltb-false, lt-ltb, le-ltb}
use lib.Seq.{drop-set-add, take-set-le, take-set-lt, ext_get_or}
use lib.Seq.{get_or-set_same, get_or-set_other, get_or-take, get_or-drop}
use Rattle.rules.specs.Lists.{word, from}
use Rattle.lists.proofs.Members.{map_at, map-append}
use Rattle.lists.proofs.Ranges.{from-length, from_at, from_snoc}
use Rattle.work_slice.specs.Regions.{region, put_word, edges_end, edge_word}
use Rattle.words.proofs.Regions.{rise}
use Rattle.work_slice.proofs.Regions.{word_at, region_past, rest_put, rest_later}
use Rattle.pairs.specs.Table.{Table}
use Rattle.settling.specs.declared.Counters.{Counters}
use Rattle.settling.specs.Stand.{waiting_in, edges_of, counts_of, marks_of, put_edge, put_count}
use Rattle.settling.specs.Stand.{settled_in, degree_in}
use Rattle.settling.specs.Made.{Ready}

-- ---- the stack

waiting_kept : (stack : List ℕ) (n x m : ℕ) → m ≤ n → waiting_in (set stack n x) m ≡ waiting_in stack m
unfolding waiting_in
waiting_kept stack n x zero h = refl
waiting_kept stack n x (suc m) h = rw (get_or-set_other stack n m x 0 (omega arith), waiting_kept stack n x m (omega arith))

pub waiting_more : (stack : List ℕ) (n x : ℕ) → n < length stack → waiting_in (set stack n x) (n + 1) ≡ x ∷ waiting_in stack n
unfolding waiting_in
waiting_more stack n x h = rw add-one (rw (get_or-set_same stack n x 0 h, waiting_kept stack n x n (omega arith)))

pub length-waiting_in : (stack : List ℕ) (n : ℕ) → length (waiting_in stack n) ≡ n
unfolding waiting_in
length-waiting_in stack zero = refl
length-waiting_in stack (suc n) = ap suc (length-waiting_in stack n)

pub waiting_top : (stack : List ℕ) (n : ℕ) → waiting_in stack (suc n) ≡ word stack n ∷ waiting_in stack n
unfolding waiting_in
waiting_top stack n = refl

pub none_waits : (stack : List ℕ) (n : ℕ) → n ≡ 0 → waiting_in stack n ≡ []
unfolding waiting_in
none_waits stack n e = ap (waiting_in stack) e

-- ---- words that stay

-- a word behind a stretch does not change it
stretch_past : (p n j x : ℕ) (w : List ℕ) → p + n ≤ j → take n (drop p (set w j x)) ≡ take n (drop p w)
stretch_past p n j x w h =
    let e : j ≡ p + (j - p) = omega arith in
    ap (λ (k : ℕ). take n (drop p (set w k x))) e
    ∙ ap (take n) (drop-set-add p w (j - p) x)
    ∙ take-set-le n (drop p w) (j - p) x (omega arith)

-- where all from k on is as it was, each word from there on is
pub word_rest : (k q : ℕ) (w w' : List ℕ) → drop k w' ≡ drop k w → k ≤ q → word w' q ≡ word w q
word_rest k q w w' same h =
    let z : q ≡ k + (q - k) = omega arith in
    ap (word w') z
    ∙ sym (get_or-drop k w' (q - k) 0)
    ∙ ap (λ (l : List ℕ). word l (q - k)) same
    ∙ get_or-drop k w (q - k) 0
    ∙ ap (word w) (sym z)

-- ---- the edge buffer

-- what is read at the first n places
read_length : (f : ℕ → ℕ) (n : ℕ) → length (map f (from 0 n)) ≡ n
read_length f n = length-map (from 0 n) f ∙ from-length 0 n

read_at_lem : (f : ℕ → ℕ) (n i : ℕ) → i < n → word (map f (from 0 n)) i ≡ f i
read_at_lem f n i h =
    let z : 0 + i ≡ i = omega arith in
    map_at f (from 0 n) i 0 0 (omega (arith, from-length 0 n)) ∙ ap f (from_at 0 n i 0 h ∙ z)

read_same : (f g : ℕ → ℕ) (n : ℕ) → ((i : ℕ) → i < n → g i ≡ f i) → map g (from 0 n) ≡ map f (from 0 n)
read_same f g n same =
    ext_get_or 0 (map g (from 0 n)) (map f (from 0 n)) (read_length g n ∙ sym (read_length f n))
    (λ i h. let l : i < n = omega (arith, read_length g n) in read_at_lem g n i l ∙ same i l ∙ sym (read_at_lem f n i l))

-- one more
read_more : (f g : ℕ → ℕ) (n x : ℕ) → ((i : ℕ) → i < n → g i ≡ f i) → g n ≡ x
    → map g (from 0 (n + 1)) ≡ map f (from 0 n) ++ (x ∷ [])
read_more f g n x same last =
    let z : 0 + n ≡ n = omega arith in
    ap (λ (k : ℕ). map g (from 0 k)) (add-one n)
    ∙ ap (map g) (from_snoc 0 n)
    ∙ map-append g (from 0 n) ((0 + n) ∷ [])
    ∙ ap₂ (λ (l : List ℕ) (y : ℕ). l ++ (y ∷ [])) (read_same f g n same) (ap g z ∙ last)

-- another at place i
read_set : (f g : ℕ → ℕ) (n i x : ℕ) → i < n → ((j : ℕ) → (j ≡ i → ⊥) → j < n → g j ≡ f j) → g i ≡ x
    → map g (from 0 n) ≡ set (map f (from 0 n)) i x
read_set f g n i x h same here =
    ext_get_or 0 (map g (from 0 n)) (set (map f (from 0 n)) i x)
    (read_length g n ∙ sym (length-set (map f (from 0 n)) i x ∙ read_length f n))
    (λ j k. at j (omega (arith, read_length g n)) (ℕ_discrete j i))
  where
    at : (j : ℕ) → j < n → Dec (j ≡ i) → word (map g (from 0 n)) j ≡ word (set (map f (from 0 n)) i x) j
    at j l (yes z) =
        ap (word (map g (from 0 n))) z
        ∙ read_at_lem g n i h
        ∙ here
        ∙ sym (get_or-set_same (map f (from 0 n)) i x 0 (omega (arith, read_length f n)))
        ∙ ap (word (set (map f (from 0 n)) i x)) (sym z)
    at j l (no d) =
        read_at_lem g n j l ∙ same j d l ∙ sym (get_or-set_other (map f (from 0 n)) i j x 0 d ∙ read_at_lem f n j l)

-- edges and counts are as many as are read, whatever the words are
pub length_edges : (w : List ℕ) (v e n : ℕ) → length (edges_of w v e n) ≡ n
unfolding edges_of
length_edges w v e n = read_length (λ i. word w (edge_word v e 0 i)) n

pub length_counts : (w : List ℕ) (v e n : ℕ) → length (counts_of w v e n) ≡ n
unfolding counts_of
length_counts w v e n = read_length (λ i. word w (edge_word v e 1 i)) n

pub count_at : (v e n i : ℕ) (w : List ℕ) → i < n → word w (edge_word v e 1 i) ≡ word (counts_of w v e n) i
unfolding counts_of
count_at v e n i w h = sym (read_at_lem (λ j. word w (edge_word v e 1 j)) n i h)

-- a count is the same word, however many are read
pub counts_word : (v e n m i : ℕ) (w : List ℕ) → i < n → i < m
    → word (counts_of w v e n) i ≡ word (counts_of w v e m) i
counts_word v e n m i w h k = sym (count_at v e n i w h) ∙ count_at v e m i w k

-- they go by their words alone: the last n before word 8v + e, and before word 8v + 2e
pub edges_same : (v e n : ℕ) (w w' : List ℕ)
    → ((p : ℕ) → edges_end v e 0 ≤ p + n → p < edges_end v e 0 → word w' p ≡ word w p) → n ≤ e
    → edges_of w' v e n ≡ edges_of w v e n
unfolding edges_of
edges_same v e n w w' same room =
    read_same (λ i. word w (edge_word v e 0 i)) (λ i. word w' (edge_word v e 0 i)) n
    (λ i h. same (edge_word v e 0 i) (omega arith) (omega arith))

pub counts_same : (v e n : ℕ) (w w' : List ℕ)
    → ((p : ℕ) → edges_end v e 1 ≤ p + n → p < edges_end v e 1 → word w' p ≡ word w p) → n ≤ e
    → counts_of w' v e n ≡ counts_of w v e n
unfolding counts_of
counts_same v e n w w' same room =
    read_same (λ i. word w (edge_word v e 1 i)) (λ i. word w' (edge_word v e 1 i)) n
    (λ i h. same (edge_word v e 1 i) (omega arith) (omega arith))

-- an edge changes no region
pub region_edge : (r v e i x count : ℕ) (w : List ℕ) → r < 8 → i < e
    → region r v (put_edge v e i x count w) ≡ region r v w
unfolding put_edge
region_edge r v e i x count w h room =
    region_past r v (edge_word v e 1 i) count (set w (edge_word v e 0 i) x) (omega (arith, rise r 8 v h))
    ∙ region_past r v (edge_word v e 0 i) x w (omega (arith, rise r 8 v h))

-- nor does a count
pub region_count : (r v e i count : ℕ) (w : List ℕ) → r < 8 → i < e
    → region r v (put_count v e i count w) ≡ region r v w
unfolding put_count
region_count r v e i count w h room =
    region_past r v (edge_word v e 1 i) count w (omega (arith, rise r 8 v h))

pub length-put_edge : (v e i x count : ℕ) (w : List ℕ) → length (put_edge v e i x count w) ≡ length w
unfolding put_edge
length-put_edge v e i x count w =
    length-set (set w (edge_word v e 0 i) x) (edge_word v e 1 i) count ∙ length-set w (edge_word v e 0 i) x

pub length-put_count : (v e i count : ℕ) (w : List ℕ) → length (put_count v e i count w) ≡ length w
unfolding put_count
length-put_count v e i count w = length-set w (edge_word v e 1 i) count

-- the count stands past the targets
pub edges_more : (v e i x count : ℕ) (w : List ℕ) → i < e → 8 * v + 2 * e ≤ length w
    → edges_of (put_edge v e i x count w) v e (i + 1) ≡ edges_of w v e i ++ (x ∷ [])
unfolding edges_of put_edge
edges_more v e i x count w room h =
    read_more (λ j. word w (edge_word v e 0 j)) (λ j. word w'' (edge_word v e 0 j)) i x
    (λ j l.
    get_or-set_other w' (edge_word v e 1 i) (edge_word v e 0 j) count 0 (omega arith)
    ∙ get_or-set_other w (edge_word v e 0 i) (edge_word v e 0 j) x 0 (omega arith))
    (get_or-set_other w' (edge_word v e 1 i) (edge_word v e 0 i) count 0 (omega arith)
    ∙ get_or-set_same w (edge_word v e 0 i) x 0 (omega arith))
  where
    w' : List ℕ
    w' = set w (edge_word v e 0 i) x

    w'' : List ℕ
    w'' = set w' (edge_word v e 1 i) count

-- and the target before the counts
pub counts_more : (v e i x count : ℕ) (w : List ℕ) → i < e → 8 * v + 2 * e ≤ length w
    → counts_of (put_edge v e i x count w) v e (i + 1) ≡ counts_of w v e i ++ (count ∷ [])
unfolding counts_of put_edge
counts_more v e i x count w room h =
    read_more (λ j. word w (edge_word v e 1 j)) (λ j. word w'' (edge_word v e 1 j)) i count
    (λ j l.
    get_or-set_other w' (edge_word v e 1 i) (edge_word v e 1 j) count 0 (omega arith)
    ∙ get_or-set_other w (edge_word v e 0 i) (edge_word v e 1 j) x 0 (omega arith))
    (get_or-set_same w' (edge_word v e 1 i) count 0 (omega (arith, length-set w (edge_word v e 0 i) x)))
  where
    w' : List ℕ
    w' = set w (edge_word v e 0 i) x

    w'' : List ℕ
    w'' = set w' (edge_word v e 1 i) count

-- a word of a region changes no edge
pub edges_put : (s v e i x n : ℕ) (w : List ℕ) → s < 8 → i < v → n ≤ e
    → edges_of (put_word s v i x w) v e n ≡ edges_of w v e n
edges_put s v e i x n w l h room =
    edges_same v e n w (put_word s v i x w)
    (λ p a b. word_rest (8 * v) p w (put_word s v i x w) (rest_put 8 s v i x w h l) (omega arith)) room

pub counts_put : (s v e i x n : ℕ) (w : List ℕ) → s < 8 → i < v → n ≤ e
    → counts_of (put_word s v i x w) v e n ≡ counts_of w v e n
counts_put s v e i x n w l h room =
    counts_same v e n w (put_word s v i x w)
    (λ p a b. word_rest (8 * v) p w (put_word s v i x w) (rest_put 8 s v i x w h l) (omega arith)) room

-- nor does what changes nothing from region 5 on
pub edges_rest : (v e n : ℕ) (w w' : List ℕ) → n ≤ e → drop (5 * v) w' ≡ drop (5 * v) w
    → edges_of w' v e n ≡ edges_of w v e n
edges_rest v e n w w' room same =
    edges_same v e n w w' (λ p a b. word_rest (5 * v) p w w' same (omega arith)) room

pub counts_rest : (v e n : ℕ) (w w' : List ℕ) → n ≤ e → drop (5 * v) w' ≡ drop (5 * v) w
    → counts_of w' v e n ≡ counts_of w v e n
counts_rest v e n w w' room same =
    counts_same v e n w w' (λ p a b. word_rest (5 * v) p w w' same (omega arith)) room

-- another count changes no target
pub edges_raised : (v e i count n : ℕ) (w : List ℕ) → i < e → n ≤ e
    → edges_of (put_count v e i count w) v e n ≡ edges_of w v e n
unfolding put_count
edges_raised v e i count n w h room =
    edges_same v e n w (set w (edge_word v e 1 i) count)
    (λ p a b. get_or-set_other w (edge_word v e 1 i) p count 0 (omega arith)) room

pub counts_raised : (v e i count n : ℕ) (w : List ℕ) → i < n → n ≤ e → 8 * v + 2 * e ≤ length w
    → counts_of (put_count v e i count w) v e n ≡ set (counts_of w v e n) i count
unfolding counts_of put_count
counts_raised v e i count n w h room whole =
    read_set (λ j. word w (edge_word v e 1 j)) (λ j. word w' (edge_word v e 1 j)) n i count h
    (λ j d l. get_or-set_other w (edge_word v e 1 i) (edge_word v e 1 j) count 0 (omega arith))
    (get_or-set_same w (edge_word v e 1 i) count 0 (omega arith))
  where
    w' : List ℕ
    w' = set w (edge_word v e 1 i) count

-- ---- as the code puts them: a count e words behind its target, and a count that rises by one

pub edge_stored : (v e i x count j : ℕ) (w : List ℕ) → i < e → j ≡ edge_word v e 0 i
    → set (set w j x) (j + e) count ≡ put_edge v e i x count w
unfolding put_edge
edge_stored v e i x count j w h g =
    let z : j + e ≡ edge_word v e 1 i = omega (arith, g) in
    ap₂ (λ (k m : ℕ). set (set w k x) m count) g z

-- the word of a count, as the code says it
pub count_word : (v e i j : ℕ) (w : List ℕ) → i < e → j ≡ edge_word v e 0 i
    → word w (j + e) ≡ word (counts_of w v e e) i
count_word v e i j w h g =
    let z : j + e ≡ edge_word v e 1 i = omega (arith, g) in
    ap (word w) z ∙ count_at v e e i w h

pub count_stored : (v e i j : ℕ) (w : List ℕ) → i < e → j ≡ edge_word v e 0 i
    → set w (j + e) (word w (j + e) + 1) ≡ put_count v e i (word (counts_of w v e e) i + 1) w
unfolding put_count
count_stored v e i j w h g =
    let z : j + e ≡ edge_word v e 1 i = omega (arith, g) in
    ap₂ (λ (k n : ℕ). set w k (n + 1)) z (count_word v e i j w h g)

-- ---- the marks

pub length_marks : (v n : ℕ) (w : List ℕ) → 7 * v + n ≤ length w → length (marks_of w v n) ≡ n
unfolding marks_of
length_marks v n w h = simp (length-take, length-drop) (omega arith)

pub mark_at : (v n i : ℕ) (w : List ℕ) → i < n → word (marks_of w v n) i ≡ word w (7 * v + i)
unfolding marks_of
mark_at v n i w h = get_or-take n (drop (7 * v) w) i 0 h ∙ get_or-drop (7 * v) w i 0

pub mark_put : (v i x n : ℕ) (w : List ℕ) → i < n → marks_of (put_word 7 v i x w) v n ≡ set (marks_of w v n) i x
unfolding marks_of put_word
mark_put v i x n w h = ap (take n) (drop-set-add (7 * v) w i x) ∙ take-set-lt n (drop (7 * v) w) i x h

-- the first v of them are their region
pub first_marks : (v n i : ℕ) (w : List ℕ) → i < v → v ≤ n → word (region 7 v w) i ≡ word (marks_of w v n) i
first_marks v n i w h l = sym (word_at 7 v i w h) ∙ sym (mark_at v n i w (omega arith))

-- a mark changes no other region
pub region_mark : (r v i x : ℕ) (w : List ℕ) → r < 7 → region r v (put_word 7 v i x w) ≡ region r v w
unfolding put_word
region_mark r v i x w h = region_past r v (7 * v + i) x w (omega (arith, rise r 7 v h))

-- marks that do not reach the word of the target at place p end before it
before_edge : (v e p many : ℕ) → (v < many → many + p < v + e) → p < e → 7 * v + many ≤ edge_word v e 0 p
before_edge v e p many free h = go (dec_lt v many)
  where
    go : Dec (v < many) → 7 * v + many ≤ edge_word v e 0 p
    go (yes l) = omega (arith, free l)
    go (no d) = omega arith

-- then neither that edge nor that count changes them
pub marks_edge : (v e p x count many : ℕ) (w : List ℕ) → (v < many → many + p < v + e) → p < e
    → marks_of (put_edge v e p x count w) v many ≡ marks_of w v many
unfolding marks_of put_edge
marks_edge v e p x count many w free h =
    let k = before_edge v e p many free h in
    stretch_past (7 * v) many (edge_word v e 1 p) count (set w (edge_word v e 0 p) x) (omega (arith, k))
    ∙ stretch_past (7 * v) many (edge_word v e 0 p) x w k

pub marks_count : (v e p count many : ℕ) (w : List ℕ) → (v < many → many + p < v + e) → p < e
    → marks_of (put_count v e p count w) v many ≡ marks_of w v many
unfolding marks_of put_count
marks_count v e p count many w free h =
    let k = before_edge v e p many free h in
    stretch_past (7 * v) many (edge_word v e 1 p) count w (omega (arith, k))

-- nor does what changes nothing from region 5 on
pub marks_rest : (v many : ℕ) (w w' : List ℕ) → drop (5 * v) w' ≡ drop (5 * v) w
    → marks_of w' v many ≡ marks_of w v many
unfolding marks_of
marks_rest v many w w' same = ap (take many) (rest_later 5 7 v w w' same (lit≤ tt))

-- n edges that leave so many marks free stand past them
pub past_marks : (v e n many p : ℕ) → (v < many → many + n ≤ v + e) → n ≤ e → edges_end v e 0 ≤ p + n
    → 7 * v + many ≤ p
past_marks v e n many p free room l = go (dec_lt v many)
  where
    go : Dec (v < many) → 7 * v + many ≤ p
    go (yes k) = omega (arith, free k)
    go (no d) = omega arith

-- then a mark changes neither them nor their counts
pub edges_mark : (v e n i x many : ℕ) (w : List ℕ) → (v < many → many + n ≤ v + e) → i < many → n ≤ e
    → edges_of (put_word 7 v i x w) v e n ≡ edges_of w v e n
unfolding put_word
edges_mark v e n i x many w free h room =
    edges_same v e n w (set w (7 * v + i) x)
    (λ p a b.
    let k = past_marks v e n many p free room a in
    get_or-set_other w (7 * v + i) p x 0 (omega (arith, k)))
    room

pub counts_mark : (v e n i x many : ℕ) (w : List ℕ) → (v < many → many + n ≤ v + e) → i < many → n ≤ e
    → counts_of (put_word 7 v i x w) v e n ≡ counts_of w v e n
unfolding put_word
counts_mark v e n i x many w free h room =
    counts_same v e n w (set w (7 * v + i) x)
    (λ p a b.
    let k = past_marks v e n many p free room (omega arith) in
    get_or-set_other w (7 * v + i) p x 0 (omega (arith, k)))
    room

-- ---- what every part of a step asks holds after it

pub ready_on : (v e : ℕ) (w w' : List ℕ) (c c' : Counters) → Ready w v e c → length w' ≡ length w → Table w' v c'.known
    → c'.settled + c'.waiting ≤ c'.known → c'.edges ≤ e → Ready w' v e c'
ready_on v e w w' c c' r size table stack buffer =
    record {
      some = r.some;
      most = r.most;
      most-edges = r.most-edges;
      whole = omega (arith, r.whole);
      table = table;
      stack = stack;
      buffer = buffer;
    }

-- ---- one vertex

module _ (w : List ℕ) (v u : ℕ) where
  pub settled-in : 0 < word (region 6 v w) u → settled_in w v u ≡ true
  unfolding settled_in
  settled-in h = lt-ltb 0 (word (region 6 v w) u) h

  pub unsettled_in : word (region 6 v w) u ≤ 0 → settled_in w v u ≡ false
  unfolding settled_in
  unsettled_in h = le-ltb 0 (word (region 6 v w) u) h

  pub degree_unsettled : settled_in w v u ≡ false → degree_in w v u ≡ 0
  unfolding settled_in
  degree_unsettled e = omega (arith, ltb-false 0 (word (region 6 v w) u) e)

-- whether a vertex is settled goes by the degrees alone
pub settled_same : (w w' : List ℕ) (v u : ℕ) → word (region 6 v w') u ≡ word (region 6 v w) u
    → settled_in w' v u ≡ settled_in w v u
unfolding settled_in
settled_same w w' v u e = ap (ltb 0) e
