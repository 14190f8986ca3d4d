-- Targets one after another: none, one, and one stretch of them after another. Assumes nothing.
use mathlib.Core.Path.{◌≡◌, refl, sym, ◌∙◌, ap, ap₂, subst}
use mathlib.Core.List.{List, [], ◌∷◌, ◌++◌, append_assoc, append-nil}
use mathlib.Core.Bool.{false≢true}
use mathlib.Core.Logic.{inl, inr, ⊎_elim}
use Prim.Native.Nat.{ℕ, ◌+◌, ◌-◌, ◌*◌, ◌≤◌, ◌<◌}
use native.Mathlib.Decide.{dec_lt}
use native.Mathlib.Omega.{arith}
use lib.Dec.{eqb, lit≤, lit<}
use lib.ListN.{length, drop, length-append}
use Rattle.std.specs.Prelude.{Result}
use Rattle.std.specs.Result.{IsErr}
use Rattle.std.specs.declared.result.Result.TheVariants.{Ok, Err}
use Rattle.pairs.specs.declared.NoRoom.{NoRoom}
use Rattle.rules.specs.Lists.{word, In, position, insert, insert_all}
use Rattle.rules.specs.Walk.{push_new}
use Rattle.lists.specs.Shapes.{Begins, positions}
use Rattle.lists.proofs.Shapes.{begins_length}
use Rattle.lists.proofs.Inserts.{inserts_none, inserts_append, inserts_begins, inserts_holds, positions-append, positions_begins}
use Rattle.lists.proofs.Equalities.{number_equality}
use Rattle.work_slice.specs.Regions.{region, Zeroed, edges_end}
use Rattle.words.proofs.Regions.{rise}
use Rattle.work_slice.proofs.Regions.{rest_region, word_at}
use Rattle.work_slice.proofs.Zeros.{before_zeros}
use Rattle.pairs.specs.Table.{keys_of}
use Rattle.pairs.proofs.Uses.{keys_kept, table_kept}
use Rattle.settling.specs.declared.Counters.{Counters}
use Rattle.settling.specs.Stand.{waiting_in, waiting_of, edges_of, counts_of, marks_of, put_edge}
use Rattle.settling.specs.Made.{with_edges, Appended, Marks, Ready, Meeting, Made, TooMany, Answer}
use Rattle.settling.proofs.Buffer.{word_rest, edges_same, counts_same, past_marks, mark_at}
use Rattle.settling.proofs.Buffer.{region_edge, edges_more, counts_more, edges_rest, counts_rest}
use Rattle.settling.proofs.Buffer.{length-put_edge, ready_on}
use Rattle.walks.proofs.Pushes.{push_on, push_none}

-- ---- no target, and one stretch after another

pub made_none : (w : List ℕ) (v e : ℕ) (c : Counters) → Ready w v e c → Made w v e c w c [] []
unfolding push_new positions
made_none w v e c r =
    let z : c.known - c.known ≡ 0 = omega arith in
    record {
      ready = r;
      keys = sym (inserts_none eqb (keys_of w v c.known));
      waits = rw z;
      row = sym (append-nil (edges_of w v e c.edges));
      row_length = omega arith;
      counts = sym (append-nil (counts_of w v e c.edges));
      balance = refl;
      grows = omega arith;
      same_settled = refl;
      starts = refl;
      degrees = refl;
      marks = λ m. m;
    }

-- marks past their region are cleared: nothing that is read off changes
pub made_cleared : (w w' : List ℕ) (v e : ℕ) (c : Counters) (many : ℕ) → Ready w v e c
    → Zeroed w w' (8 * v) (7 * v + many) → v ≤ many → (v < many → many + c.edges ≤ v + e) → Made w v e c w' c [] []
unfolding positions
made_cleared w w' v e c many r k wide free =
    let kept : (a : ℕ) → a < 8 → region a v w' ≡ region a v w =
    λ a h. before_zeros a v (8 * v) w w' k.before (rise a 8 v h) in
    let first : (a : ℕ) → a < 4 → region a v w' ≡ region a v w = λ a h. kept a (omega arith) in
    let past : (p : ℕ) → edges_end v e 0 ≤ p + c.edges → word w' p ≡ word w p =
    λ p h. word_rest (7 * v + many) p w w' k.behind (past_marks v e c.edges many p free r.buffer h) in
    record {
      ready =
          ready_on v e w w' c c r k.long (table_kept w w' v c.known first r.table) r.stack r.buffer;
      keys = keys_kept w w' v c.known first ∙ sym (inserts_none eqb (keys_of w v c.known));
      waits =
          ap (λ (s : List ℕ). waiting_in s c.waiting) (kept 4 (lit< tt))
          ∙ sym (push_none c.known (waiting_of w v c.waiting));
      row =
          edges_same v e c.edges w w' (λ p a b. past p a) r.buffer
          ∙ sym (append-nil (edges_of w v e c.edges));
      row_length = omega arith;
      counts =
          counts_same v e c.edges w w' (λ p a b. past p (omega arith)) r.buffer
          ∙ sym (append-nil (counts_of w v e c.edges));
      balance = refl;
      grows = omega arith;
      same_settled = refl;
      starts = kept 5 (lit< tt);
      degrees = kept 6 (lit< tt);
      marks = λ m i h. subst (λ (l : List ℕ). word l i ≤ c.edges) (sym (kept 7 (lit< tt))) (m i h);
    }

-- and no mark is above those of the region
pub marks_cleared : (w w' : List ℕ) (v many b : ℕ) → Zeroed w w' (8 * v) (7 * v + many) → Marks w v b
    → (i : ℕ) → i < many → word (marks_of w' v many) i ≤ b
marks_cleared w w' v many b k m i h = go (dec_lt i v)
  where
    at : word (marks_of w' v many) i ≡ word w' (7 * v + i)
    at = mark_at v many i w' h

    go : Dec (i < v) → word (marks_of w' v many) i ≤ b
    go (yes l) =
        let same = before_zeros 7 v (8 * v) w w' k.before (omega arith) in
        omega (arith, at, word_at 7 v i w' l, ap (λ (u : List ℕ). word u i) same, m i l)
    go (no d) = omega (arith, at, k.none (7 * v + i) (omega arith) (omega arith))

module _ (v e : ℕ) (w w₁ w₂ : List ℕ) (c c₁ c₂ : Counters) (ts us cs ds : List ℕ) where
  pub made_more : Made w v e c w₁ c₁ ts cs → Made w₁ v e c₁ w₂ c₂ us ds → Made w v e c w₂ c₂ (ts ++ us) (cs ++ ds)
  made_more a b =
      let ks = keys_of w v c.known in
      let ks₁ = keys_of w₁ v c₁.known in
      let ks₂ = keys_of w₂ v c₂.known in
      let all : (q : ℕ) → In q ts → In q ks₁ = λ q m. subst (In q) (sym a.keys) (inserts_holds number_equality ks ts q m) in
      let on : Begins ks₁ ks₂ = subst (Begins ks₁) (sym b.keys) (inserts_begins number_equality ks₁ us) in
      record {
        ready = b.ready;
        keys = b.keys ∙ ap (λ (l : List ℕ). insert_all eqb l us) a.keys ∙ sym (inserts_append eqb ks ts us);
        waits =
            b.waits
            ∙ ap (push_new c₁.known (c₂.known - c₁.known)) a.waits
            ∙ push_on c.known c₁.known c₂.known (waiting_of w v c.waiting) a.grows b.grows;
        row =
            b.row
            ∙ ap (λ (l : List ℕ). l ++ positions eqb ks₂ us)
            (a.row
            ∙ ap (λ (l : List ℕ). edges_of w v e c.edges ++ l)
            (sym (positions_begins number_equality ts ks₁ ks₂ all on)))
            ∙ append_assoc (edges_of w v e c.edges) (positions eqb ks₂ ts) (positions eqb ks₂ us)
            ∙ ap (λ (l : List ℕ). edges_of w v e c.edges ++ l) (sym (positions-append number_equality ks₂ ts us));
        row_length = omega (arith, a.row_length, b.row_length, length-append ts us);
        counts =
            b.counts
            ∙ ap (λ (l : List ℕ). l ++ ds) a.counts
            ∙ append_assoc (counts_of w v e c.edges) cs ds;
        balance = omega (arith, a.balance, b.balance);
        grows = omega (arith, a.grows, b.grows);
        same_settled = b.same_settled ∙ a.same_settled;
        starts = b.starts ∙ a.starts;
        degrees = b.degrees ∙ a.degrees;
        marks = λ m. b.marks (a.marks m);
      }

  pub many_more : Made w v e c w₁ c₁ ts cs → TooMany w₁ v e c₁ us → TooMany w v e c (ts ++ us)
  many_more a f =
      ⊎_elim
      (λ l. inl (subst (λ (k : List ℕ). v < length k)
      (ap (λ (k : List ℕ). insert_all eqb k us) a.keys ∙ sym (inserts_append eqb (keys_of w v c.known) ts us)) l))
      (λ l. inr (omega (arith, a.row_length, length-append ts us)))
      f

pub many_early : (w : List ℕ) (v e : ℕ) (c : Counters) (ts us : List ℕ) → TooMany w v e c ts → TooMany w v e c (ts ++ us)
many_early w v e c ts us f =
    let ks = keys_of w v c.known in
    ⊎_elim
    (λ l. inl (omega (
      arith,
      ap length (inserts_append eqb ks ts us),
      begins_length (insert_all eqb ks ts) (insert_all eqb (insert_all eqb ks ts) us) (inserts_begins number_equality (insert_all eqb ks ts) us),
    )))
    (λ l. inr (omega (arith, length-append ts us)))
    f

-- ---- one target

-- met, then perhaps marked, then given an edge, behind which so many transitions stand
module _ (v e : ℕ) (w w₁ w₂ w₃ : List ℕ) (c : Counters) (t u count : ℕ) (c₁ : Counters) (r : Ready w v e c)
    (p : Meeting w w₁ v c t u c₁) (room : c.edges < e) (long : length w₂ ≡ length w)
    (kept : (a : ℕ) → a < 7 → region a v w₂ ≡ region a v w₁)
    (same : edges_of w₂ v e c.edges ≡ edges_of w₁ v e c.edges)
    (same-counts : counts_of w₂ v e c.edges ≡ counts_of w₁ v e c.edges)
    (marks : Marks w v c.edges → Marks w₂ v (c.edges + 1)) (g : w₃ ≡ put_edge v e c.edges u count w₂) where
  here : (a : ℕ) → a < 7 → region a v w₃ ≡ region a v w₁
  here a h = ap (region a v) g ∙ region_edge a v e c.edges u count w₂ (omega arith) room ∙ kept a h

  later : (a : ℕ) → 5 ≤ a → a < 7 → region a v w₃ ≡ region a v w
  later a l h = here a h ∙ rest_region 5 a v w w₁ p.rest l

  first : (a : ℕ) → a < 4 → region a v w₃ ≡ region a v w₁
  first a h = here a (omega arith)

  edge_ready : Ready w₃ v e (with_edges c₁ (c.edges + 1))
  edge_ready =
      ready_on v e w w₃ c (with_edges c₁ (c.edges + 1)) r (ap length g ∙ length-put_edge v e c.edges u count w₂ ∙ long)
      (table_kept w₁ w₃ v c₁.known first p.table) (omega (arith, r.stack, p.balance, p.same_settled)) (omega arith)

  pub edge_made : Made w v e c w₃ (with_edges c₁ (c.edges + 1)) (t ∷ []) (count ∷ [])
  unfolding insert_all positions
  edge_made =
      let ks : keys_of w₃ v c₁.known ≡ keys_of w₁ v c₁.known = keys_kept w₁ w₃ v c₁.known first in
      record {
        ready = edge_ready;
        keys = ks ∙ p.keys;
        waits = ap (λ (s : List ℕ). waiting_in s c₁.waiting) (here 4 (lit< tt)) ∙ p.waits;
        row =
            ap (λ (l : List ℕ). edges_of l v e (c.edges + 1)) g
            ∙ edges_more v e c.edges u count w₂ room (omega (arith, r.whole))
            ∙ ap₂ (λ (l : List ℕ) (y : ℕ). l ++ (y ∷ []))
            (same ∙ edges_rest v e c.edges w w₁ r.buffer p.rest) (p.vertex ∙ ap (position eqb t) (sym ks));
        row_length = omega arith;
        counts =
            ap (λ (l : List ℕ). counts_of l v e (c.edges + 1)) g
            ∙ counts_more v e c.edges u count w₂ room (omega (arith, r.whole))
            ∙ ap (λ (l : List ℕ). l ++ (count ∷ []))
            (same-counts ∙ counts_rest v e c.edges w w₁ r.buffer p.rest);
        balance = p.balance;
        grows = p.grows;
        same_settled = p.same_settled;
        starts = later 5 (lit≤ tt) (lit< tt);
        degrees = later 6 (lit≤ tt) (lit< tt);
        marks = λ a i h.
            subst (λ (l : List ℕ). word l i ≤ c.edges + 1)
            (sym (ap (region 7 v) g ∙ region_edge 7 v e c.edges u count w₂ (lit< tt) room)) (marks a i h);
      }

pub many_one : (w : List ℕ) (v e : ℕ) (c : Counters) (t : ℕ) → v < length (insert eqb (keys_of w v c.known) t) → TooMany w v e c (t ∷ [])
unfolding insert_all
many_one w v e c t l = inl l

-- ---- where a part answers that there is no room

pub answer_failed : (w : List ℕ) (v e : ℕ) (c : Counters) (ts cs w' : List ℕ) (r : Result Counters NoRoom) → IsErr r
    → TooMany w v e c ts → Answer w v e c ts cs w' r
answer_failed w v e c ts cs w' (Ok c') h f = absurd (false≢true h)
answer_failed w v e c ts cs w' (Err x) h f = f

pub marks_bounded : (w w' : List ℕ) (v b : ℕ) → drop (5 * v) w' ≡ drop (5 * v) w → Marks w v b → Marks w' v b
marks_bounded w w' v b e m i h = subst (λ (l : List ℕ). word l i ≤ b) (sym (rest_region 5 7 v w w' e (lit≤ tt))) (m i h)

pub marks_rise : (w : List ℕ) (v b b' : ℕ) → b ≤ b' → Marks w v b → Marks w v b'
marks_rise w v b b' l m i h = omega (arith, m i h)

-- a target that was met gets an edge, if there is room for it
pub answer_appended : (v e : ℕ) (w w₁ w₂ : List ℕ) (c : Counters) (t u count : ℕ) (c₁ : Counters) → Ready w v e c
    → Meeting w w₁ v c t u c₁ → length w₁ ≡ length w → (r : Result Counters NoRoom)
    → Appended v e c₁ u count w₁ w₂ r → Answer w v e c (t ∷ []) (count ∷ []) w₂ r
answer_appended v e w w₁ w₂ c t u count c₁ r p long (Ok c₂) a =
    subst (λ (d : Counters). Made w v e c w₂ d (t ∷ []) (count ∷ []))
    (sym (a.2 ∙ ap (λ (k : ℕ). with_edges c₁ (k + 1)) p.same_edges))
    (edge_made v e w w₁ w₁ w₂ c t u count c₁ r p (omega (arith, a.0, p.same_edges)) long (λ x h. refl) refl refl
    (λ m. marks_rise w₁ v c.edges (c.edges + 1) (omega arith) (marks_bounded w w₁ v c.edges p.rest m))
    (a.1 ∙ ap (λ (k : ℕ). put_edge v e k u count w₁) p.same_edges))
answer_appended v e w w₁ w₂ c t u count c₁ r p long (Err x) a = inr (omega (arith, a.0, p.same_edges))
