-- The game is put together, and the answer of the whole call. Assumes nothing.
use Prim.Native.Nat.{ℕ, suc, ◌+◌, ◌-◌, ◌*◌, ◌≤◌, ◌<◌}
use native.Mathlib.Omega.{arith}
use mathlib.Core.Path.{◌≡◌, refl, sym, ap, ◌∙◌, subst}
use mathlib.Core.Bool.{Bool, true, false, cond, not}
use mathlib.Core.List.{List, [], ◌∷◌, ◌++◌, map, append_assoc}
use lib.ListN.{length, take, drop, set, replicate, length-set, length-map, take-append-drop}
use lib.Seq.{slice, slice_empty, take-take, take-set-le, length-take-le}
use lib.Dec.{eqb}
use Rattle.rules.specs.Answers.{Check}
use Rattle.std.specs.declared.result.Result.TheVariants.{Ok, Err}
use Rattle.rules.specs.declared.Fault.{Fault}
use Rattle.rules.specs.declared.Answer.TheVariants.{Done, Refused}
use Rattle.rules.specs.declared.Room.{Room}
use Rattle.rules.specs.Lists.{In, from, sum, once}
use Rattle.rules.specs.Words.{game_length, room_of}
use Rattle.rules.specs.Answers.{fault_if, and_then, first_fault}
use Rattle.rules.specs.Game.{Vertex, vertex_columns, edge_columns, game_words, edge_count, offsets}
use Rattle.rules.specs.Game.{all_edges, columns, game_of, padded}
use Rattle.rules.specs.Refusal.{differ, outside, refusal1}
use Rattle.rules.specs.Pgsolver.{SolverLine, SolverText}
use Rattle.rules.specs.PgsolverParse.{parse}
use Rattle.rules.specs.PgsolverReading.{text_vertex, vertex_of, vertex_named, numbers_of, read_vertices}
use Rattle.rules.specs.PgsolverReading.{text_refusal, reading_refusal, vertices_in, read_as, read_or, Readback, read_game}
use Rattle.lists.proofs.Members.{in_map}
use Rattle.lists.proofs.Ranges.{from-length}
use Rattle.lists.proofs.Tests.{or-false}
use Rattle.tables.proofs.Faults.{if-true, if-false, if_passed, then_both, then_fault, then_passed}
use Rattle.tables.proofs.Choices.{outside_false, differ_false}
use Rattle.games.specs.Columns.{edge_column_of}
use Rattle.games.proofs.Reading.{length_read}
use Rattle.parity_game.proofs.Stretches.{three, game_stretches, targets_first, Plain, plain_to, plain_none, plain_more}
use Rattle.parity_game.proofs.Stretches.{plain_padded}
use Rattle.game_texts.proofs.Numbered.{as_many}
use Rattle.game_texts.proofs.Exact.{Passes92, passed92, none-missing}
use Rattle.pgsolver_check.specs.declared.Plan.{Plan}
use Rattle.pgsolver_check.specs.Lines.{solver_text, lines_in}
use Rattle.pgsolver_check.specs.Plans.{Planned}
use Rattle.pgsolver_check.proofs.Checking.{order_numbers}
use Rattle.pgsolver_reader.specs.Parts.{verts_to, starts, Whole, Part, Ready, room_refusal, column_at, offsets_from}
use Rattle.pgsolver_reader.specs.Parts.{edges_begin, Posted, LinesPosted, PostedFrom}
use Rattle.pgsolver_reader.proofs.Writing.{slice_below, slice_above, slice-last}
use Rattle.pgsolver_reader.proofs.Clearing.{vertex_words}

-- ---- the first vertex

pub part_start : {text : List ℕ} {n : ℕ} {game : List ℕ}
    → game_words n (edge_count (verts_to (lines_in text) n)) ≤ length game → Part text n 0 (edges_begin n) game
unfolding verts_to from starts all_edges edge_count sum
part_start {text} {n} {game} r =
    let x : column_at n 0 + 0 ≡ column_at n 0 = omega arith in
    let y : column_at n 1 + 0 ≡ column_at n 1 = omega arith in
    let z : offsets_from n + 0 ≡ offsets_from n = omega arith in
    record {
      room = r;
      within = omega arith;
      place = omega arith;
      owners = ap (λ (b : ℕ). slice (column_at n 0) b game) x ∙ slice_empty (column_at n 0) game;
      priorities = ap (λ (b : ℕ). slice (column_at n 1) b game) y ∙ slice_empty (column_at n 1) game;
      offsets = ap (λ (b : ℕ). slice (offsets_from n) b game) z ∙ slice_empty (offsets_from n) game;
      targets = slice_empty (edges_begin n) game;
    }

-- the targets end inside
pub part_within : {text : List ℕ} {n q : ℕ} {game : List ℕ} → Part text n n q game → q ≤ length game
part_within p = omega (arith, p.place, p.room)

-- every vertex is posted
pub all_posted : {text : List ℕ} {n : ℕ} {game : List ℕ} → ((u : ℕ) → u < n → In u (numbers_of (lines_in text)))
    → LinesPosted text n game → PostedFrom text n 0 game
all_posted {text} {n} {game} given f = record { posted = λ u h k. one u k }
  where
    one : (u : ℕ) → u < n → Posted text n game u
    one u k =
        let (l, i, e) = in_map (λ (l : SolverLine). l.number) u (lines_in text) (given u k) in
        subst (λ (v : ℕ). Posted text n game v) (sym e) (f.posted l i)

-- ---- the stretches of the game

cut_off : (g : List ℕ) (a b : ℕ) → a ≤ b → take b g ≡ take a g ++ slice a b g
cut_off g a b h = sym (take-append-drop a (take b g)) ∙ ap (λ (l : List ℕ). l ++ slice a b g) (take-take a b g h)

offsets-starts : (e : ℕ) (vs : List Vertex) → offsets e vs ≡ starts e vs ++ ((e + edge_count vs) ∷ [])
unfolding offsets starts edge_count sum
offsets-starts e [] = ap (λ (k : ℕ). k ∷ []) (let z : e ≡ e + 0 = omega arith in z)
offsets-starts e (v ∷ vs) =
    ap (λ (l : List ℕ). e ∷ l)
    (offsets-starts (e + length v.edges) vs ∙ ap (λ (k : ℕ). starts (e + length v.edges) vs ++ (k ∷ []))
    (let z : e + length v.edges + edge_count vs ≡ e + (length v.edges + edge_count vs) = omega arith in z))

verts_length : (ls : List SolverLine) (n : ℕ) → length (verts_to ls n) ≡ n
unfolding verts_to
verts_length ls n = length-map (from 0 n) (vertex_named ls) ∙ from-length 0 n

-- the text gives no counts
named_plain : (ls : List SolverLine) (v : ℕ) → Plain (vertex_named ls v).edges
unfolding vertex_named vertex_of text_vertex
named_plain [] v = refl
named_plain (l ∷ ls) v = go (eqb l.number v) (named_plain ls v)
  where
    go : (b : Bool) → Plain (vertex_named ls v).edges → Plain (cond b (vertex_of l) (vertex_named ls v)).edges
    go true e = plain_to (λ t. t) (once eqb l.successors)
    go false e = e

verts_plain : (ls : List SolverLine) (n : ℕ) → Plain (all_edges (verts_to ls n))
unfolding verts_to
verts_plain ls n = each (from 0 n)
  where
    each : (us : List ℕ) → Plain (all_edges (map (vertex_named ls) us))
    each [] = plain_none
    each (u ∷ us) = plain_more (vertex_named ls u) (map (vertex_named ls) us) (named_plain ls u) (each us)

module _ {text : List ℕ} {n m q : ℕ} {g : List ℕ} (p : Part text n n q g)
    (none : slice (column_at n 2) (offsets_from n) g ≡ replicate (2 * n) 0) (size : m ≡ q - edges_begin n) where
  abbrev vs : List Vertex
  vs = verts_to (lines_in text) n

  pub assembled_count : m ≡ edge_count vs
  assembled_count = omega (arith, p.place)

  abbrev last : ℕ
  last = offsets_from n + n

  abbrev g3 : List ℕ
  g3 = set (set (set g 0 n) 1 m) 2 0

  abbrev G : List ℕ
  G = set g3 last m

  long3 : length g3 ≡ length g
  long3 = length-set (set (set g 0 n) 1 m) 2 0 ∙ length-set (set g 0 n) 1 m ∙ length-set g 0 n

  room : edges_begin n ≤ length g
  room = omega (arith, p.room)

  behind : (a b : ℕ) → 3 ≤ a → slice a b g3 ≡ slice a b g
  behind a b h =
      slice_below (set (set g 0 n) 1 m) a b 2 0 (omega arith) ∙ slice_below (set g 0 n) a b 1 m (omega arith)
      ∙ slice_below g a b 0 n (omega arith)

  head : take 3 G ≡ n ∷ m ∷ 0 ∷ []
  head = take-set-le 3 g3 last m (omega arith) ∙ (three n m 0 g (omega (arith, room))).words

  owners : slice (column_at n 0) (column_at n 0 + n) G ≡ map (λ x. x.owner) vs
  owners =
      slice_above g3 (column_at n 0) (column_at n 0 + n) last m (omega arith)
      ∙ behind (column_at n 0) (column_at n 0 + n) (omega arith) ∙ p.owners

  priorities : slice (column_at n 1) (column_at n 1 + n) G ≡ map (λ x. x.priority) vs
  priorities =
      slice_above g3 (column_at n 1) (column_at n 1 + n) last m (omega arith)
      ∙ behind (column_at n 1) (column_at n 1 + n) (omega arith) ∙ p.priorities

  none_read : slice (column_at n 2) (offsets_from n) G ≡ replicate (2 * n) 0
  none_read =
      slice_above g3 (column_at n 2) (offsets_from n) last m (omega arith)
      ∙ behind (column_at n 2) (offsets_from n) (omega arith) ∙ none

  starts_read : slice (offsets_from n) last G ≡ starts 0 vs
  starts_read = slice_above g3 (offsets_from n) last last m (omega arith) ∙ behind (offsets_from n) last (omega arith)
      ∙ p.offsets

  last_read : slice last (last + 1) G ≡ m ∷ []
  last_read =
      slice-last g3 last last m (omega arith) (omega (arith, room, long3))
      ∙ ap (λ (l : List ℕ). l ++ (m ∷ [])) (slice_empty last g3)

  targets_read : slice (last + 1) q G ≡ edge_column_of 0 vs
  targets_read =
      let z : last + 1 ≡ edges_begin n = omega arith in
      slice_below g3 (last + 1) q last m (omega arith) ∙ behind (last + 1) q (omega arith)
      ∙ ap (λ (a : ℕ). slice a q g) z ∙ p.targets

  -- the columns behind the targets
  abbrev more : List ℕ
  more = columns (drop 1 edge_columns) (all_edges vs)

  whole : take q G ++ more ≡ game_of 0 vs
  whole =
      let a : 3 ≡ column_at n 0 = omega arith in
      let b : column_at n 0 + n ≡ column_at n 1 = omega arith in
      let d : column_at n 1 + n ≡ column_at n 2 = omega arith in
      let e : 0 + edge_count vs ≡ m = omega (arith, assembled_count) in
      let one_by_one : take q G
      ≡ (((((take 3 G ++ slice (column_at n 0) (column_at n 0 + n) G) ++ slice (column_at n 1) (column_at n 1 + n) G)
      ++ slice (column_at n 2) (offsets_from n) G) ++ slice (offsets_from n) last G) ++ slice last (last + 1) G)
      ++ slice (last + 1) q G
      = cut_off G (last + 1) q (omega (arith, p.place))
      ∙ ap (λ (l : List ℕ). l ++ slice (last + 1) q G) (cut_off G last (last + 1) (omega arith)
      ∙ ap (λ (l : List ℕ). l ++ slice last (last + 1) G) (cut_off G (offsets_from n) last (omega arith)
      ∙ ap (λ (l : List ℕ). l ++ slice (offsets_from n) last G)
      (cut_off G (column_at n 2) (offsets_from n) (omega arith)
      ∙ ap (λ (l : List ℕ). l ++ slice (column_at n 2) (offsets_from n) G) (ap (λ (k : ℕ). take k G) (sym d)
      ∙ cut_off G (column_at n 1) (column_at n 1 + n) (omega arith)
      ∙ ap (λ (l : List ℕ). l ++ slice (column_at n 1) (column_at n 1 + n) G) (ap (λ (k : ℕ). take k G) (sym b)
      ∙ cut_off G (column_at n 0) (column_at n 0 + n) (omega arith)
      ∙ ap (λ (k : ℕ). take k G ++ slice (column_at n 0) (column_at n 0 + n) G) (sym a)))))) in
      ap (λ (l : List ℕ). l ++ more) one_by_one
      ∙ rw (head, owners, priorities, none_read, starts_read, last_read, targets_read) refl
      ∙ regroup (n ∷ m ∷ 0 ∷ []) (map (λ x. x.owner) vs) (map (λ x. x.priority) vs) (replicate (2 * n) 0)
      (starts 0 vs) (m ∷ []) (edge_column_of 0 vs) more
      ∙ ap (λ (l : List ℕ). (n ∷ m ∷ 0 ∷ []) ++ (l ++ ((starts 0 vs ++ (m ∷ [])) ++ (edge_column_of 0 vs ++ more))))
      (sym (vertex_words (lines_in text) n))
      ∙ ap (λ (l : List ℕ). (n ∷ m ∷ 0 ∷ []) ++ (columns vertex_columns vs ++ (l ++ (edge_column_of 0 vs ++ more))))
      (ap (λ (k : ℕ). starts 0 vs ++ (k ∷ [])) (sym e) ∙ sym (offsets-starts 0 vs))
      ∙ ap (λ (l : List ℕ). (n ∷ m ∷ 0 ∷ []) ++ (columns vertex_columns vs ++ (offsets 0 vs ++ l)))
      (sym (targets_first vs))
      ∙ sym (game_stretches vs n m (sym (verts_length (lines_in text) n)) assembled_count)
    where
      regroup : (a b c z d e f h : List ℕ)
          → ((((((a ++ b) ++ c) ++ z) ++ d) ++ e) ++ f) ++ h ≡ a ++ ((b ++ (c ++ z)) ++ ((d ++ e) ++ (f ++ h)))
      regroup a b c z d e f h = simp append_assoc

  long : length (take q G) ≡ q
  long = length-take-le q G (omega (arith, length-set g3 last m, long3, p.place, p.room))

  -- the zeros behind the targets are the counts, and past them those that follow every game
  pub assembled : (g₀ g₄ : List ℕ) {g₁ : List ℕ} → length g ≡ length g₀ → g₁ ≡ G → g₄
      ≡ take q g₁ ++ replicate (length g₁ - q) 0
      → g₄ ≡ padded (length g₀) (game_of 0 vs)
  assembled g₀ g₄ {g₁} l f e =
      e ∙ padding
      ∙ plain_padded vs (take q G) (length g₀) (verts_plain (lines_in text) n) (sym whole)
      (omega (arith, length_read 0 vs, verts_length (lines_in text) n, p.room, l))
    where
      padding : take q g₁ ++ replicate (length g₁ - q) 0 ≡ padded (length g₀) (take q G)
      padding = unfold padded in
          let z : length g₁ - q ≡ length g₀ - length (take q G)
          = omega (arith, ap length f, length-set g3 last m, long3, l, long) in
          ap (λ (x : List ℕ). take q x ++ replicate (length g₁ - q) 0) f
          ∙ ap (λ (k : ℕ). take q G ++ replicate k 0) z

-- ---- what a plan gives

pub room_sizes : (v e size : ℕ) → room_refusal (room_of v e) size ≡ Ok tt
    → (v ≤ 1048576) × (e ≤ 4194304) × (size ≡ game_words v e)
unfolding room_refusal refusal1 game_length
room_sizes v e size p =
    let (a, b) = then_both (refusal1 (room_of v e)) _ p in
    let (c, d) = or-false (outside 1 1_048_576 v) (outside 1 4_194_304 e) (if_passed 1 0 _ a) in
    let x = outside_false 1 1_048_576 v c in
    let y = outside_false 1 4_194_304 e d in
    (x.1, y.1, differ_false size (game_words v e) (if_passed 2 0 _ b))

module _ {text : List ℕ} {v e : ℕ} {plan : Plan} (p : Planned text (room_of v e) plan) where
  abbrev t : SolverText
  t = solver_text text

  abbrev passes : Passes92 t
  passes = passed92 t p.numbered

  pub plan_whole : v ≤ 1048576 → Whole text (plan.highest + 1)
  plan_whole l =
      record { few = omega (arith, p.fits); low = omega (arith, p.low); ranked = p.ranked; apart = passes.apart }

  same_count : suc t.highest ≡ plan.highest + 1
  same_count = omega (arith, p.header)

  -- as many edges by line as by vertex
  many : edge_count (map vertex_of (lines_in text)) ≡ edge_count (verts_to (lines_in text) (plan.highest + 1))
  unfolding verts_to
  many = as_many t passes ∙ ap (λ (k : ℕ). edge_count (map (vertex_named (lines_in text)) (from 0 k))) same_count

  pub plan_small : edge_count (verts_to (lines_in text) (plan.highest + 1)) ≤ e
  plan_small = omega (arith, many, p.held)

  pub plan_ready : (size : ℕ) → v ≤ 1048576 → e ≤ 4194304 → size ≡ game_words v e
      → Ready text plan.first (plan.highest + 1) plan.numbering size
  plan_ready size a b c =
      record {
        begins = record { readable = p.readable; lines = p.lines };
        given = λ u k. none-missing t passes u (omega (arith, p.header));
        order = λ z. order_numbers 0 (lines_in text) (sym p.order ∙ z) ∙ ap (from 0) (passes.long ∙ same_count);
        room = omega (arith, p.fits, plan_small);
      }

  read_verts : read_vertices t ≡ verts_to (lines_in text) (plan.highest + 1)
  unfolding read_vertices verts_to
  read_verts = ap (λ (k : ℕ). map (vertex_named (lines_in text)) (from 0 k)) same_count

  pub read_done : (game game' : List ℕ) (n m : ℕ) → room_refusal (room_of v e) (length game) ≡ Ok tt
      → n ≡ plan.highest + 1
      → m ≡ edge_count (verts_to (lines_in text) (plan.highest + 1))
      → game' ≡ padded (length game) (game_of 0 (verts_to (lines_in text) (plan.highest + 1)))
      → ◌≡◌ {A = Readback} (record { answer = Done n n m; game = game' }) (read_game (room_of v e) text game)
  unfolding read_game reading_refusal room_refusal first_fault text_refusal vertices_in read_or read_as and_then
  read_done game game' n m r k l g =
      let (a, b) = then_both (refusal1 (room_of v e)) _ r in
      let z : n ≡ length (verts_to (lines_in text) (plan.highest + 1))
      = k ∙ sym (verts_length (lines_in text) (plan.highest + 1)) in
      (λ i. record { answer = Done (z i) (z i) (l i); game = g i })
      ∙ sym (rw (p.says, a, b, p.numbered, p.roomy, read_verts) refl)

-- ---- refusals

pub read-refused : (text game : List ℕ) (r : Room) (f : Fault) → Err f ≡ room_refusal r (length game)
    → ◌≡◌ {A = Readback} (record { answer = Refused f.number f.place; game = game }) (read_game r text game)
unfolding read_game reading_refusal room_refusal first_fault read_or and_then
read-refused text game r f z = go (refusal1 r) (fault_if 2 0 (differ (length game) (game_length r))) refl refl z
  where
    go : (a b : Check) → refusal1 r ≡ a → fault_if 2 0 (differ (length game) (game_length r)) ≡ b → Err f ≡ and_then a b
        → ◌≡◌ {A = Readback} (record { answer = Refused f.number f.place; game = game }) (read_game r text game)
    go (Err k) b x y z = rw x (ap (λ (c : Check). read_or c (vertices_in (parse text)) game) z)
    go (Ok u) (Err k) x y z = rw (x, y) (ap (λ (c : Check). read_or c (vertices_in (parse text)) game) z)
    go (Ok u) (Ok w) x y z = absurd (Rattle.tables.proofs.Faults.passed_not_fault (sym z))

pub read_bad : (text game : List ℕ) (r : Room) (f : Fault) → room_refusal r (length game) ≡ Ok tt
    → text_refusal r (parse text) ≡ Err f
    → ◌≡◌ {A = Readback} (record { answer = Refused f.number f.place; game = game }) (read_game r text game)
unfolding read_game reading_refusal room_refusal first_fault read_or and_then
read_bad text game r f z q =
    let (a, b) = then_both (refusal1 r) _ z in
    sym (rw (a, b, q) refl)

-- ---- the room

pub lent_fault : (r : Room) (f : Fault) (size : ℕ) → refusal1 r ≡ Err f → Err f ≡ room_refusal r size
unfolding room_refusal and_then
lent_fault r f size e = sym (rw e refl)

pub lent_length : (v e size n : ℕ) → refusal1 (room_of v e) ≡ Ok tt → n ≡ game_words v e
    → fault_if 2 0 (not (eqb size n)) ≡ room_refusal (room_of v e) size
unfolding room_refusal game_length differ
lent_length v e size n a e' = sym (then_passed _ a ∙ ap (λ (k : ℕ). fault_if 2 0 (not (eqb size k))) (sym e'))
