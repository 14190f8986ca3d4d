-- The vertices are written in order: one more. Assumes nothing.
use Prim.Native.Nat.{ℕ, zero, suc, ◌+◌, ◌-◌, ◌≤◌, ◌<◌}
use native.Mathlib.Omega.{arith}
use native.Mathlib.Decide.{dec_lt}
use native.Mathlib.Numerals.{add-one}
use mathlib.Core.Path.{◌≡◌, sym, ap, ◌∙◌, subst}
use mathlib.Core.List.{List, [], ◌∷◌, ◌++◌, map, append-nil, append_assoc}
use Rattle.std.proofs.lemmas.List.{drop-take}
use lib.ListN.{length, take, drop, set, drop_of_length-le, length-set, length-map, get_or-append}
use lib.Seq.{slice, take-set-le, take-set-lt, drop-set-lt, take-suc-set, drop-append-le, take-append-le, take-take}
use lib.Seq.{length-take-le, get_or-set_other, get_or-take}
use lib.Dec.{eqb}
use Rattle.rules.specs.Lists.{word, In, from, sum, once}
use Rattle.rules.specs.Game.{Vertex, Edge, edge_count, all_edges}
use Rattle.rules.specs.Pgsolver.{SolverLine}
use Rattle.rules.specs.TextReading.{read_field}
use Rattle.rules.specs.PgsolverReading.{text_vertex, vertex_of, vertex_named}
use Rattle.lists.proofs.Members.{map-append}
use Rattle.lists.proofs.Ranges.{from_snoc}
use Rattle.lists.proofs.Inserts.{inserts_new, once_in, once_distinct}
use Rattle.lists.proofs.Equalities.{number_equality}
use Rattle.games.specs.Columns.{edge_column, edge_column_of}
use Rattle.games.proofs.Columns.{targets_plain}
use Rattle.words.specs.Stretches.{Wrote}
use Rattle.words.proofs.Regions.{same_later}
use Rattle.bitmap.specs.Marks.{Holds}
use Rattle.bitmap.proofs.Sets.{only_holds}
use Rattle.game_texts.proofs.Numbered.{named}
use Rattle.std.specs.Prelude.{Some}
use Rattle.pgsolver_scan.specs.Told.{saturated, since, past_line, Told}
use Rattle.pgsolver_check.specs.Lines.{lines_in}
use Rattle.pgsolver_scan.specs.Successors.{list_at, Listed}
use Rattle.pgsolver_check.proofs.Walking.{successor_top, exactly}
use Rattle.pgsolver_check.proofs.Bounding.{edges_append, edges_cons, no_edges}
use Rattle.pgsolver_reader.specs.Parts.{verts_to, starts, Whole, Turn, Part, column_at, offsets_from, edges_begin}
use Rattle.pgsolver_reader.specs.Parts.{post_at, PostsKept}
use Rattle.pgsolver_check.proofs.Fields.{listed_at, field_is, owner-known}
use Rattle.pgsolver_reader.proofs.Standing.{low_rank}
use Rattle.pgsolver_reader.proofs.Putting.{Wiping, word_in}

-- ---- slices after a store and after an append

pub slice_below : (g : List ℕ) (a b i x : ℕ) → i < a → slice a b (set g i x) ≡ slice a b g
slice_below g a b i x h = go (dec_lt i b)
  where
    go : Dec (i < b) → slice a b (set g i x) ≡ slice a b g
    go (yes k) = ap (drop a) (take-set-lt b g i x k) ∙ drop-set-lt a (take b g) i x h
    go (no k) = ap (drop a) (take-set-le b g i x (omega arith))

pub slice_above : (g : List ℕ) (a b i x : ℕ) → b ≤ i → slice a b (set g i x) ≡ slice a b g
slice_above g a b i x h = ap (drop a) (take-set-le b g i x h)

pub slice-last : (g : List ℕ) (a i x : ℕ) → a ≤ i → i < length g → slice a (i + 1) (set g i x) ≡ slice a i g ++ (x ∷ [])
slice-last g a i x h k =
    ap (λ (n : ℕ). slice a n (set g i x)) (add-one i) ∙ ap (drop a) (take-suc-set g i x k)
    ∙ drop-append-le a (take i g) (x ∷ []) (omega (arith, length-take-le i g (omega arith)))

module _ {q r : ℕ} {s g g' : List ℕ} (w : Wrote q s g g' r) (h : q ≤ length g) where
  pub slice_wrote : (a b : ℕ) → b ≤ q → slice a b g' ≡ slice a b g
  slice_wrote a b k =
      ap (drop a)
      (sym (take-take b r g' (omega (arith, w.past))) ∙ ap (take b) w.words
      ∙ take-append-le b (take q g) s (omega (arith, length-take-le q g h)) ∙ take-take b q g k)

  pub slice_wrote_last : (a : ℕ) → a ≤ q → slice a r g' ≡ slice a q g ++ s
  slice_wrote_last a k = ap (drop a) w.words ∙ drop-append-le a (take q g) s (omega (arith, length-take-le q g h))

  -- what stands behind it
  pub slice_behind : (a b : ℕ) → r ≤ a → a ≤ b → slice a b g' ≡ slice a b g
  slice_behind a b k l =
      let e : a + (b - a) ≡ b = omega arith in
      ap (λ (x : ℕ). slice a x g') (sym e) ∙ drop-take a (b - a) g'
      ∙ ap (take (b - a)) (same_later r a g g' w.rest k)
      ∙ sym (drop-take a (b - a) g) ∙ ap (λ (x : ℕ). slice a x g) e

  -- what was written
  pub slice_wrote_new : slice q r g' ≡ s
  slice_wrote_new =
      let l : length (take q g) ≤ q = omega (arith, length-take-le q g h) in
      slice_wrote_last q (omega arith) ∙ ap (λ (k : List ℕ). k ++ s) (drop_of_length-le (take q g) l)

  pub word_wrote : (i : ℕ) → i < q → word g' i ≡ word g i
  word_wrote i k =
      sym (get_or-take r g' i 0 (omega (arith, w.past))) ∙ ap (λ (l : List ℕ). word l i) w.words
      ∙ get_or-append (take q g) s 0 i (omega (arith, length-take-le q g h)) ∙ get_or-take q g i 0 k

-- ---- one vertex more

verts_more : (ls : List SolverLine) (v : ℕ) → verts_to ls (v + 1) ≡ verts_to ls v ++ (vertex_named ls v ∷ [])
unfolding verts_to
verts_more ls v =
    let z : 0 + v ≡ v = omega arith in
    ap (λ (k : ℕ). map (vertex_named ls) (from 0 k)) (add-one v) ∙ ap (map (vertex_named ls)) (from_snoc 0 v)
    ∙ map-append (vertex_named ls) (from 0 v) ((0 + v) ∷ [])
    ∙ ap (λ (k : ℕ). map (vertex_named ls) (from 0 v) ++ (vertex_named ls k ∷ [])) z

starts_snoc : (e : ℕ) (vs : List Vertex) (x : Vertex) → starts e (vs ++ (x ∷ []))
    ≡ starts e vs ++ ((e + edge_count vs) ∷ [])
unfolding starts edge_count sum
starts_snoc e [] x = ap (λ (k : ℕ). k ∷ []) (let z : e ≡ e + 0 = omega arith in z)
starts_snoc e (v ∷ vs) x =
    ap (λ (l : List ℕ). e ∷ l) (starts_snoc (e + length v.edges) vs x
    ∙ ap (λ (k : ℕ). starts (e + length v.edges) vs ++ (k ∷ []))
    (let z : e + length v.edges + edge_count vs ≡ e + (length v.edges + edge_count vs) = omega arith in z))

edges_last : (vs : List Vertex) (x : Vertex) → all_edges (vs ++ (x ∷ [])) ≡ all_edges vs ++ x.edges
unfolding all_edges
edges_last [] x = append-nil x.edges
edges_last (v ∷ vs) x = ap (λ (l : List Edge). v.edges ++ l) (edges_last vs x)
    ∙ sym (append_assoc v.edges (all_edges vs) x.edges)

targets_snoc : (vs : List Vertex) (x : Vertex) → edge_column_of 0 (vs ++ (x ∷ []))
    ≡ edge_column_of 0 vs ++ map (edge_column 0) x.edges
targets_snoc vs x = ap (map (edge_column 0)) (edges_last vs x) ∙ map-append (edge_column 0) (all_edges vs) x.edges

edges_snoc : (vs : List Vertex) (x : Vertex) → edge_count (vs ++ (x ∷ [])) ≡ edge_count vs + length x.edges
edges_snoc vs x = edges_append vs (x ∷ []) ∙ omega (arith, edges_cons x [], no_edges)

-- the edges of the first vertices are no more than those of all
edges_grow : (ls : List SolverLine) (v k : ℕ) → edge_count (verts_to ls v) ≤ edge_count (verts_to ls (v + k))
edges_grow ls v zero =
    let z : v ≡ v + 0 = omega arith in
    subst (λ (u : ℕ). edge_count (verts_to ls v) ≤ edge_count (verts_to ls u)) z (omega arith)
edges_grow ls v (suc k) =
    let z : v + k + 1 ≡ v + suc k = omega arith in
    subst (λ (u : ℕ). edge_count (verts_to ls v) ≤ edge_count (verts_to ls u)) z
    (omega (
      arith,
      edges_grow ls v k,
      ap edge_count (verts_more ls (v + k)),
      edges_snoc (verts_to ls (v + k)) (vertex_named ls (v + k)),
    ))

edges_within : (ls : List SolverLine) (v n : ℕ) → v ≤ n → edge_count (verts_to ls v) ≤ edge_count (verts_to ls n)
edges_within ls v n h =
    let z : v + (n - v) ≡ n = omega arith in
    subst (λ (u : ℕ). edge_count (verts_to ls v) ≤ edge_count (verts_to ls u)) z (edges_grow ls v (n - v))

-- once is once
once_once : (ns : List ℕ) → once eqb (once eqb ns) ≡ once eqb ns
unfolding once
once_once ns = inserts_new number_equality [] (once eqb ns) (once_distinct number_equality ns) (λ y i z. z)

-- the targets end no further than those of all vertices
pub part_few : {text : List ℕ} {n v q : ℕ} {game : List ℕ} → Part text n v q game
    → q ≤ edges_begin n + edge_count (verts_to (lines_in text) n)
part_few {text} {n} {v} p = omega (arith, p.place, edges_within (lines_in text) v n p.within)

-- ---- from its line

module _ {text : List ℕ} {n v q place : ℕ} {game : List ℕ} (w : Whole text n) (t : Turn text v place) (below : v < n)
    (p : Part text n v q game) where
  abbrev lines : List SolverLine
  lines = lines_in text

  -- the vertex's edges have room
  part_place : q ≤ length game
  part_place = omega (arith, p.room, part_few p)

  vertex : vertex_named lines v ≡ vertex_of t.line
  vertex = ap (vertex_named lines) (sym t.number) ∙ named lines t.line w.apart t.among

  module _ (pr next : ℕ) (a : Told (Some (record { value = pr; next = next })) (read_field 32 (since text place)) text)
      (o list : ℕ) (b : Told (Some (record { value = o; next = list })) (read_field 32 (since text next)) text) where
    abbrev first : (pr ≡ saturated t.line.priority) × (t.body.ranked ≡ since text next) × (next ≤ length text)
        × (past_line text place ≡ past_line text next)
    first = field_is text place t.body.priority t.within (record { value = pr; next = next }) a

    abbrev second : (o ≡ saturated t.line.owner) × (t.body.owned ≡ since text list) × (list ≤ length text)
        × (past_line text next ≡ past_line text list)
    second = field_is text next (owner-known text place t.within t.body (record { value = pr; next = next }) a) first.2
        (record { value = o; next = list }) b

    pub turn_line : past_line text place ≡ past_line text list
    turn_line = first.3 ∙ second.3

    pub turn_priority : (pr ≡ (vertex_named lines v).priority) × (pr < 4294967296)
    unfolding vertex_of text_vertex
    turn_priority =
        let z : pr ≡ t.line.priority = first.0 ∙ exactly t.line.priority (omega (arith, low_rank t w)) in
        (z ∙ ap (λ (x : Vertex). x.priority) (sym vertex), omega (arith, low_rank t w))

    -- an owner is 0 or 1
    pub turn_owner : (o ≡ (vertex_named lines v).owner) × (o < 4294967296)
    unfolding vertex_of text_vertex
    turn_owner =
        let z : o ≡ t.line.owner = second.0 ∙ exactly t.line.owner (omega (arith, t.body.small)) in
        (z ∙ ap (λ (x : Vertex). x.owner) (sym vertex), omega (arith, t.body.small))

    abbrev listed : (list_at text list ≡ t.line.successors) × Listed text list
    listed =
        listed_at second.2
        (ap Rattle.rules.specs.PgsolverParse.read_list (sym second.1) ∙ t.body.successors) t.body.ended
        (λ s i. omega (arith, w.low, w.few, successor_top lines t.line t.among s i))

    pub turn_listed : Listed text list
    turn_listed = listed.1

    targets : once eqb (list_at text list) ≡ map (edge_column 0) (vertex_named lines v).edges
    unfolding vertex_of text_vertex
    targets =
        ap (once eqb) listed.0
        ∙ sym (ap (λ (x : Vertex). map (edge_column 0) x.edges) vertex
        ∙ targets_plain (once eqb t.line.successors))

    many : length (once eqb (list_at text list)) ≡ length (vertex_named lines v).edges
    many = ap length targets ∙ length-map (vertex_named lines v).edges (edge_column 0)

    -- there is room for them
    pub turn_room : q + length (once eqb (list_at text list)) ≤ length game
    turn_room =
        omega (
          arith,
          p.room,
          p.place,
          many,
          edges_within lines (v + 1) n (omega arith),
          ap edge_count (verts_more lines v),
          edges_snoc (verts_to lines v) (vertex_named lines v),
        )

    module _ {g₁ g₂ : List ℕ} {end begin : ℕ} (begins : begin ≡ edges_begin n)
        (stored : g₁ ≡ set (set (set game (column_at n 0 + v) o) (column_at n 1 + v) pr) (offsets_from n + v)
        (q - begin))
        (c : Wrote q (once eqb (list_at text list)) g₁ g₂ end) (same : length g₂ ≡ length g₁) where
      abbrev s1 : List ℕ
      s1 = set game (column_at n 0 + v) o

      abbrev s2 : List ℕ
      s2 = set s1 (column_at n 1 + v) pr

      stores : g₁ ≡ set s2 (offsets_from n + v) (q - edges_begin n)
      stores = stored ∙ ap (λ (k : ℕ). set s2 (offsets_from n + v) (q - k)) begins

      long₁ : length g₁ ≡ length game
      long₁ =
          ap length stores ∙ length-set s2 (offsets_from n + v) (q - edges_begin n)
          ∙ length-set s1 (column_at n 1 + v) pr
          ∙ length-set game (column_at n 0 + v) o

      place₁ : q ≤ length g₁
      place₁ = omega (arith, long₁, part_place)

      far : edges_begin n ≤ q
      far = omega (arith, p.place)

      in_room : edges_begin n ≤ length game
      in_room = omega (arith, p.room)

      -- the bitmap is emptied by the words just written
      pub turn_wiping : {bits : List ℕ} → Holds bits (once eqb (list_at text list)) → Wiping (take (end - q) (drop q g₂)) bits
      turn_wiping {bits} h =
          let past : q + (end - q) ≡ end = omega (arith, c.past) in
          let new : take (end - q) (drop q g₂) ≡ once eqb (list_at text list)
          = sym (drop-take q (end - q) g₂) ∙ ap (λ (k : ℕ). drop q (take k g₂)) past ∙ slice_wrote_new c place₁ in
          record {
            only = only_holds (subst (λ (ns : List ℕ). Holds bits (once eqb ns)) (sym new) (again h));
            small = λ i k. small (word (take (end - q) (drop q g₂)) i)
                (subst (λ (ns : List ℕ). In (word (take (end - q) (drop q g₂)) i) ns) new
                (word_in (take (end - q) (drop q g₂)) i k));
          }
        where
          small : (s : ℕ) → In s (once eqb (list_at text list)) → s < 1048576
          small s i = turn_listed.small s ((once_in number_equality (list_at text list) s).0 i)

          again : {bits : List ℕ} → Holds bits (once eqb (list_at text list))
              → Holds bits (once eqb (once eqb (list_at text list)))
          again {bits} h = subst (Holds bits) (sym (once_once (list_at text list))) h

      pub turn_ends : (q ≤ end) × (end ≤ length g₂)
      turn_ends = (omega (arith, c.past), omega (arith, c.past, same, long₁, turn_room))

      owners₂ : slice (column_at n 0) (column_at n 0 + (v + 1)) g₂ ≡ map (λ x. x.owner) (verts_to lines (v + 1))
      owners₂ =
          let z : column_at n 0 + (v + 1) ≡ column_at n 0 + v + 1 = omega arith in
          ap (λ (b : ℕ). slice (column_at n 0) b g₂) z
          ∙ slice_wrote c place₁ (column_at n 0) (column_at n 0 + v + 1) (omega (arith, far))
          ∙ ap (slice (column_at n 0) (column_at n 0 + v + 1)) stores
          ∙ slice_above s2 (column_at n 0) (column_at n 0 + v + 1) (offsets_from n + v) (q - edges_begin n)
          (omega arith)
          ∙ slice_above s1 (column_at n 0) (column_at n 0 + v + 1) (column_at n 1 + v) pr (omega arith)
          ∙ slice-last game (column_at n 0) (column_at n 0 + v) o (omega arith) (omega (arith, in_room))
          ∙ ap (λ (l : List ℕ). l ++ (o ∷ [])) p.owners
          ∙ ap (λ (k : ℕ). map (λ x. x.owner) (verts_to lines v) ++ (k ∷ [])) turn_owner.0
          ∙ sym (ap (map (λ x. x.owner)) (verts_more lines v)
          ∙ map-append (λ (x : Vertex). x.owner) (verts_to lines v) (vertex_named lines v ∷ []))

      priorities₂ : slice (column_at n 1) (column_at n 1 + (v + 1)) g₂
          ≡ map (λ x. x.priority) (verts_to lines (v + 1))
      priorities₂ =
          let z : column_at n 1 + (v + 1) ≡ column_at n 1 + v + 1 = omega arith in
          ap (λ (b : ℕ). slice (column_at n 1) b g₂) z
          ∙ slice_wrote c place₁ (column_at n 1) (column_at n 1 + v + 1) (omega (arith, far))
          ∙ ap (slice (column_at n 1) (column_at n 1 + v + 1)) stores
          ∙ slice_above s2 (column_at n 1) (column_at n 1 + v + 1) (offsets_from n + v) (q - edges_begin n)
          (omega arith)
          ∙ slice-last s1 (column_at n 1) (column_at n 1 + v) pr (omega arith)
          (omega (arith, in_room, length-set game (column_at n 0 + v) o))
          ∙ ap (λ (l : List ℕ). l ++ (pr ∷ []))
          (slice_below game (column_at n 1) (column_at n 1 + v) (column_at n 0 + v) o (omega arith) ∙ p.priorities)
          ∙ ap (λ (k : ℕ). map (λ x. x.priority) (verts_to lines v) ++ (k ∷ [])) turn_priority.0
          ∙ sym (ap (map (λ x. x.priority)) (verts_more lines v)
          ∙ map-append (λ (x : Vertex). x.priority) (verts_to lines v) (vertex_named lines v ∷ []))

      offsets₂ : slice (offsets_from n) (offsets_from n + (v + 1)) g₂ ≡ starts 0 (verts_to lines (v + 1))
      offsets₂ =
          let z : offsets_from n + (v + 1) ≡ offsets_from n + v + 1 = omega arith in
          let y : q - edges_begin n ≡ 0 + edge_count (verts_to lines v) = omega (arith, p.place) in
          ap (λ (b : ℕ). slice (offsets_from n) b g₂) z
          ∙ slice_wrote c place₁ (offsets_from n) (offsets_from n + v + 1) (omega (arith, far))
          ∙ ap (slice (offsets_from n) (offsets_from n + v + 1)) stores
          ∙ slice-last s2 (offsets_from n) (offsets_from n + v) (q - edges_begin n) (omega arith)
          (omega (arith, in_room, length-set s1 (column_at n 1 + v) pr, length-set game (column_at n 0 + v) o))
          ∙ ap (λ (l : List ℕ). l ++ ((q - edges_begin n) ∷ []))
          (slice_below s1 (offsets_from n) (offsets_from n + v) (column_at n 1 + v) pr (omega arith)
          ∙ slice_below game (offsets_from n) (offsets_from n + v) (column_at n 0 + v) o (omega arith) ∙ p.offsets)
          ∙ ap (λ (k : ℕ). starts 0 (verts_to lines v) ++ (k ∷ [])) y
          ∙ sym (ap (starts 0) (verts_more lines v) ∙ starts_snoc 0 (verts_to lines v) (vertex_named lines v))

      targets₂ : slice (edges_begin n) end g₂ ≡ edge_column_of 0 (verts_to lines (v + 1))
      targets₂ =
          slice_wrote_last c place₁ (edges_begin n) far
          ∙ ap (λ (l : List ℕ). l ++ once eqb (list_at text list)) (ap (slice (edges_begin n) q) stores
          ∙ slice_below s2 (edges_begin n) q (offsets_from n + v) (q - edges_begin n) (omega arith)
          ∙ slice_below s1 (edges_begin n) q (column_at n 1 + v) pr (omega arith)
          ∙ slice_below game (edges_begin n) q (column_at n 0 + v) o (omega arith) ∙ p.targets)
          ∙ ap (λ (l : List ℕ). edge_column_of 0 (verts_to lines v) ++ l) targets
          ∙ sym (ap (edge_column_of 0) (verts_more lines v) ∙ targets_snoc (verts_to lines v) (vertex_named lines v))

      word₂ : (i : ℕ) → i < offsets_from n → ¬ (i ≡ column_at n 0 + v) → ¬ (i ≡ column_at n 1 + v) → word game i
          ≡ word g₂ i
      word₂ i h d f =
          sym (word_wrote c place₁ i (omega (arith, far)) ∙ ap (λ (l : List ℕ). word l i) stores
          ∙ get_or-set_other s2 (offsets_from n + v) i (q - edges_begin n) 0 (omega arith)
          ∙ get_or-set_other s1 (column_at n 1 + v) i pr 0 f ∙ get_or-set_other game (column_at n 0 + v) i o 0 d)

      posts : (u : ℕ) → v < u → u < n → post_at game n u ≡ post_at g₂ n u
      posts u h k =
          let a : word game (column_at n 0 + u) ≡ word g₂ (column_at n 0 + u)
          = word₂ (column_at n 0 + u) (omega arith) (omega arith) (omega arith) in
          let b : word game (column_at n 1 + u) ≡ word g₂ (column_at n 1 + u)
          = word₂ (column_at n 1 + u) (omega arith) (omega arith) (omega arith) in
          omega arith

      pub turn_posts : PostsKept n v game g₂
      turn_posts = record { same = posts }

      pub turn_part : Part text n (v + 1) end g₂
      turn_part =
          record {
            room = omega (arith, p.room, same, long₁);
            within = omega arith;
            place = omega (
              arith,
              c.past,
              p.place,
              many,
              ap edge_count (verts_more lines v),
              edges_snoc (verts_to lines v) (vertex_named lines v),
            );
            owners = owners₂;
            priorities = priorities₂;
            offsets = offsets₂;
            targets = targets₂;
          }

pub part_at : {text : List ℕ} {n v q r : ℕ} {game : List ℕ} → r ≡ q → Part text n v q game → Part text n v r game
part_at {text} {n} {v} {game = game} e p = subst (λ (k : ℕ). Part text n v k game) (sym e) p
