-- One whole step: the vertex numbered last is popped, settled and closed. The walk then stands where the definition
-- says, and all is well again. Assumes nothing.
use mathlib.Core.Path.{◌≡◌, refl, sym, ◌∙◌, ap, ap₂, subst, subst₂}
use mathlib.Core.Bool.{false}
use mathlib.Core.List.{List, [], ◌∷◌, ◌++◌, map, append-nil}
use mathlib.Core.Logic.{inl, inr, ⊎_elim}
use Prim.Native.Nat.{ℕ, suc, ◌+◌, ◌-◌, ◌*◌, ◌≤◌, ◌<◌, max}
use native.Mathlib.Decide.{dec_lt, ℕ_discrete}
use native.Mathlib.Omega.{arith}
use lib.Dec.{eqb, lit<}
use lib.ListN.{length, get_or, set, take, drop, length-drop, length-map}
use lib.Seq.{get_or-set_same, get_or-set_other, drop_at, take_all, drop-append-le, take-append-le}
use Rattle.rules.specs.Lists.{word, In, insert_all}
use Rattle.rules.specs.Walk.{Stand, push_new, settle, step_from, step}
use Rattle.rules.specs.Reach.{Reachable}
use Rattle.lists.specs.Shapes.{Begins, positions}
use Rattle.lists.proofs.Members.{in_at, at-any}
use Rattle.lists.proofs.Shapes.{begins-at, begins_length, falling_below}
use Rattle.lists.proofs.Inserts.{inserts_begins, positions_begins, positions-length}
use Rattle.lists.proofs.Equalities.{number_equality}
use Rattle.walks.specs.Sums.{stand_with, Settled, sum_settled}
use Rattle.walks.proofs.Push.{push_before, push_holds, push_only}
use Rattle.walks.proofs.Steps.{Sound, sound_settle, step_idle}
use Rattle.walks.proofs.Sums.{sum_settle}
use Rattle.work_slice.specs.Regions.{region, put_word}
use Rattle.work_slice.proofs.Regions.{region_same, region_other, length-region, length-put_word}
use Rattle.pairs.specs.Slot.{key_of}
use Rattle.pairs.specs.Table.{key_at, state_at, item_at, keys_of}
use Rattle.pairs.proofs.Uses.{key-pair, key_item_below, keys_kept, table_kept, length-keys, key_word}
use Rattle.settling.specs.declared.Counters.{Counters}
use Rattle.settling.specs.Stand.{waiting_in, waiting_of, edges_of, counts_of, stand_of, edges_for, counts_for}
use Rattle.settling.specs.Stand.{settled_in, start_in, degree_in}
use Rattle.settling.specs.Made.{Marks, Ready, Made, TooMany, Closing}
use Rattle.settling.specs.Good.{edges_due, Exceeding, Stretch, Good, StepMade}
use Rattle.stepping.specs.Parts.{without_top}
use Rattle.settling.proofs.Buffer.{waiting_top, none_waits, edges_put, counts_put, length_edges, length_counts}
use Rattle.settling.proofs.Buffer.{settled-in, settled_same}

-- ---- lists

edges_begins : (u : ℕ) (ts ks more : List ℕ) → ((q : ℕ) → In q ts → In q ks) → Begins ks more → edges_for u more ts ≡ edges_for u ks ts
unfolding edges_for
edges_begins u [] ks more h b = refl
edges_begins u (t ∷ ts) ks more h b = positions_begins number_equality (t ∷ ts) ks more h b

pub length-edges_for : (u : ℕ) (ks ts : List ℕ) → length (edges_for u ks ts) ≡ max 1 (length ts)
unfolding edges_for
length-edges_for u ks [] = omega arith
length-edges_for u ks (t ∷ ts) = omega (arith, positions-length number_equality ks (t ∷ ts))

length-counts_for : (f : ℕ → ℕ) (ts : List ℕ) → length (counts_for f ts) ≡ max 1 (length ts)
unfolding counts_for
length-counts_for f [] = omega arith
length-counts_for f (t ∷ ts) = omega (arith, length-map (t ∷ ts) f)

module _ (targets : ℕ → List ℕ) (behind : ℕ → ℕ → ℕ) (root v e : ℕ) (w : List ℕ) (c : Counters)
    (g : Good targets behind root w v e c) where
  -- with nothing waiting nothing changes
  pub step-none : c.waiting ≡ 0 → StepMade targets behind root w v e c w c
  step-none h =
      record {
        stands = sym (step_idle eqb targets root (stand_of w v c) (none_waits (region 4 v w) c.waiting h));
        good = g;
      }

  -- the keys of the known pairs
  abbrev keys : List ℕ
  keys = keys_of w v c.known

  count : length keys ≡ c.known
  count = length-keys w v c.known

  module _ (some : c.waiting ≡ 0 → ⊥) (u : ℕ) (is : u ≡ word (region 4 v w) (c.waiting - 1)) where
    -- the vertices that wait besides it
    abbrev left : List ℕ
    left = waiting_of w v (c.waiting - 1)

    -- its key, and the keys after the step
    abbrev pub here : ℕ
    here = get_or keys u root

    abbrev more : List ℕ
    more = insert_all eqb keys (targets here)

    top : waiting_of w v c.waiting ≡ u ∷ left
    top =
        let z : c.waiting ≡ suc (c.waiting - 1) = omega arith in
        ap (waiting_of w v) z ∙ waiting_top (region 4 v w) (c.waiting - 1) ∙ ap (λ (y : ℕ). y ∷ left) (sym is)

    sound_top : Sound targets root keys (u ∷ left)
    sound_top = subst (Sound targets root keys) top g.sound

    pub top_known : u < c.known
    top_known = omega (arith, sound_top.falling.0, count)

    pub top_below : u < v
    top_below = omega (arith, top_known, g.ready.table.slots.room)

    pub top_key : here ≡ key_of (state_at w v u) (item_at w v u)
    top_key = at-any keys u root 0 (omega (arith, top_known, count)) ∙ key_word w v c.known u top_known ∙ key-pair (key_at w v u)

    pub top_item : item_at w v u < 2048
    top_item = key_item_below (key_at w v u)

    pub top_reached : Reachable targets root here
    top_reached = sound_top.reached here (in_at keys u root (omega (arith, top_known, count)))

    -- what a step of the definition makes
    next : step eqb targets root (stand_of w v c) ≡ settle eqb targets root keys u left
    unfolding step step_from
    next = ap (step_from eqb targets root keys) top

    next_sum : sum_settled (edges_due targets) root (step eqb targets root (stand_of w v c)) ≡ edges_due targets here + c.edges
    next_sum =
        ap (sum_settled (edges_due targets) root) next
        ∙ sum_settle number_equality targets root (edges_due targets) keys u left sound_top
        ∙ ap (λ (l : List ℕ). edges_due targets here + sum_settled (edges_due targets) root (stand_with keys l)) (sym top)
        ∙ ap (λ (n : ℕ). edges_due targets here + n) (sym g.total)

    next_known : (step eqb targets root (stand_of w v c)).known ≡ more
    unfolding settle
    next_known = ap (λ (st : Stand ℕ). st.known) next

    module _ (w₁ : List ℕ) (g₁ : w₁ ≡ put_word 5 v u c.edges w) where
      kept : (a : ℕ) → (a ≡ 5 → ⊥) → region a v w₁ ≡ region a v w
      kept a d = ap (region a v) g₁ ∙ region_other a 5 v u c.edges w top_below d

      keys₁ : keys_of w₁ v c.known ≡ keys
      keys₁ = keys_kept w w₁ v c.known (λ a h. kept a (omega arith))

      starts₁ : region 5 v w₁ ≡ set (region 5 v w) u c.edges
      starts₁ = ap (region 5 v) g₁ ∙ region_same 5 v u c.edges w top_below

      edges₁ : edges_of w₁ v e c.edges ≡ edges_of w v e c.edges
      edges₁ =
          ap (λ (l : List ℕ). edges_of l v e c.edges) g₁
          ∙ edges_put 5 v e u c.edges c.edges w (lit< tt) top_below g.ready.buffer

      counts₁ : counts_of w₁ v e c.edges ≡ counts_of w v e c.edges
      counts₁ =
          ap (λ (l : List ℕ). counts_of l v e c.edges) g₁
          ∙ counts_put 5 v e u c.edges c.edges w (lit< tt) top_below g.ready.buffer

      pub popped_ready : Ready w₁ v e (without_top c)
      popped_ready =
          let r = g.ready in
          record {
            some = r.some;
            most = r.most;
            most-edges = r.most-edges;
            whole = omega (arith, r.whole, ap length g₁, length-put_word 5 v u c.edges w);
            table = table_kept w w₁ v c.known (λ a h. kept a (omega arith)) r.table;
            stack = omega (arith, r.stack);
            buffer = r.buffer;
          }

      pub popped_marks : Marks w₁ v c.edges
      popped_marks i h = subst (λ (l : List ℕ). word l i ≤ c.edges) (sym (kept 7 (omega arith))) (g.marks i h)

      module _ (ts : List ℕ) (same : ts ≡ targets here) where
        -- too many in the middle of the step are too many after it
        pub step_many : TooMany w₁ v e (without_top c) ts
            → Exceeding targets root v e (step eqb targets root (stand_of w v c))
        step_many f =
            ⊎_elim
            (λ l. inl (subst (λ (k : List ℕ). v < length k) (ap₂ (insert_all eqb) keys₁ same ∙ sym next_known) l))
            (λ l. inr (omega (arith, next_sum, ap length same)))
            f

        -- the counts come with the targets
        module _ (cs : List ℕ) (counted : cs ≡ map (behind here) ts) (w₂ : List ℕ) (c₂ : Counters)
            (a : Made w₁ v e (without_top c) w₂ c₂ ts cs) where
          pub close_left : c₂.settled + c₂.waiting < c₂.known
          close_left = omega (arith, a.balance, a.same_settled, g.balance)

          pub close_start : c.edges ≤ c₂.edges
          close_start = omega (arith, a.row_length)

          pub step_loop_many : (c₂.edges ≡ c.edges) × (e ≤ c.edges)
              → Exceeding targets root v e (step eqb targets root (stand_of w v c))
          step_loop_many h = inr (omega (arith, next_sum))

          module _ (w₃ : List ℕ) (c₃ : Counters) (b : Closing w₂ v e u c.edges c₂ w₃ c₃) where
            keys₃₂ : keys_of w₃ v c₃.known ≡ keys_of w₂ v c₂.known
            keys₃₂ = ap (keys_of w₃ v) b.same_known ∙ b.keys

            keys₃ : keys_of w₃ v c₃.known ≡ more
            keys₃ = keys₃₂ ∙ a.keys ∙ ap₂ (insert_all eqb) keys₁ same

            count₃ : length more ≡ c₃.known
            count₃ = ap length (sym keys₃) ∙ length-keys w₃ v c₃.known

            waits₃ : waiting_of w₃ v c₃.waiting
                ≡ push_new (length keys) (length more - length keys) left
            waits₃ =
                ap₂ waiting_in b.waits b.same_waiting
                ∙ a.waits
                ∙ ap (λ (s : List ℕ). push_new c.known (c₂.known - c.known) (waiting_in s (c.waiting - 1))) (kept 4 (omega arith))
                ∙ ap₂ (λ (n k : ℕ). push_new n (k - n) left) (sym count) (sym b.same_known ∙ sym count₃)

            stands₃ : stand_of w₃ v c₃ ≡ step eqb targets root (stand_of w v c)
            unfolding settle
            stands₃ = ap₂ (λ (k l : List ℕ). stand_with k l) keys₃ waits₃ ∙ sym next

            sound₃ : Sound targets root (keys_of w₃ v c₃.known) (waiting_of w₃ v c₃.waiting)
            unfolding settle
            sound₃ = subst₂ (Sound targets root) (sym keys₃) (sym waits₃) (sound_settle number_equality targets root keys u left sound_top)

            edges₃ : c₃.edges ≡ c.edges + max 1 (length ts)
            edges₃ = go (ℕ_discrete c₂.edges c.edges)
              where
                go : Dec (c₂.edges ≡ c.edges) → c₃.edges ≡ c.edges + max 1 (length ts)
                go (yes y) = omega (arith, (b.looped y).0, a.row_length)
                go (no y) = omega (arith, (b.others y).0, a.row_length)

            total₃ : c₃.edges ≡ sum_settled (edges_due targets) root (stand_of w₃ v c₃)
            total₃ = omega (arith, edges₃, ap length same, next_sum, ap (sum_settled (edges_due targets) root) stands₃)

            marks₃ : Marks w₃ v c₃.edges
            marks₃ i h =
                let m = a.marks popped_marks i h in
                let n = subst (λ (l : List ℕ). word l i ≤ c₂.edges) (sym b.marks) m in
                omega (arith, n, edges₃, a.row_length)

            row₃ : (us : List ℕ) → us ≡ ts → edges_of w₃ v e c₃.edges ≡ edges_of w v e c.edges ++ edges_for u (keys_of w₃ v c₃.known) us
            unfolding edges_for positions
            row₃ [] y =
                let none : c₂.edges ≡ c.edges = omega (arith, a.row_length, ap length y) in
                (b.looped none).1
                ∙ ap (λ (l : List ℕ). l ++ (u ∷ []))
                (a.row ∙ ap₂ (λ (l k : List ℕ). l ++ positions eqb (keys_of w₂ v c₂.known) k) edges₁ (sym y) ∙ append-nil (edges_of w v e c.edges))
            row₃ (t ∷ us) y =
                let one : c₂.edges ≡ c.edges → ⊥ = λ z. omega (arith, a.row_length, ap length y) in
                (b.others one).1
                ∙ a.row
                ∙ ap₂ (λ (l k : List ℕ). l ++ positions eqb k ts) edges₁ (sym keys₃₂)
                ∙ ap (λ (k : List ℕ). edges_of w v e c.edges ++ positions eqb (keys_of w₃ v c₃.known) k) (sym y)

            counts₃ : (us : List ℕ) → us ≡ ts
                → counts_of w₃ v e c₃.edges ≡ counts_of w v e c.edges ++ counts_for (behind here) us
            unfolding counts_for
            counts₃ [] y =
                let none : c₂.edges ≡ c.edges = omega (arith, a.row_length, ap length y) in
                (b.looped none).2
                ∙ ap (λ (l : List ℕ). l ++ (0 ∷ []))
                (a.counts
                ∙ ap₂ (λ (l k : List ℕ). l ++ k) counts₁ (counted ∙ ap (map (behind here)) (sym y))
                ∙ append-nil (counts_of w v e c.edges))
            counts₃ (t ∷ us) y =
                let one : c₂.edges ≡ c.edges → ⊥ = λ z. omega (arith, a.row_length, ap length y) in
                (b.others one).2
                ∙ a.counts
                ∙ ap₂ (λ (l k : List ℕ). l ++ k) counts₁ (counted ∙ ap (map (behind here)) (sym y))

            on : Begins keys (keys_of w₃ v c₃.known)
            on = subst (Begins keys) (sym keys₃) (inserts_begins number_equality keys (targets here))

            key-kept : (y : ℕ) → y < c.known → get_or (keys_of w₃ v c₃.known) y root ≡ get_or keys y root
            key-kept y h = begins-at keys (keys_of w₃ v c₃.known) root on y (omega (arith, count))

            before : length (edges_of w v e c.edges) ≡ c.edges
            before = length_edges w v e c.edges

            counts_before : length (counts_of w v e c.edges) ≡ c.edges
            counts_before = length_counts w v e c.edges

            starts₃ : region 5 v w₃ ≡ set (region 5 v w) u c.edges
            starts₃ = b.starts ∙ a.starts ∙ starts₁

            degrees₃ : region 6 v w₃ ≡ set (region 6 v w) u (suc (c₃.edges - c.edges))
            degrees₃ = b.degrees ∙ ap (λ (l : List ℕ). set l u (suc (c₃.edges - c.edges))) (a.degrees ∙ kept 6 (omega arith))

            wide : (r : ℕ) → r < 8 → r * v + v ≤ 8 * v → length (region r v w) ≡ v
            wide r h l = length-region r v w (omega (arith, g.ready.whole))

            -- the vertex that was settled
            stretch_new : Stretch targets behind root w₃ v e c₃ u
            stretch_new =
                let within : u < length (region 5 v w) = omega (arith, wide 5 (lit< tt) (omega arith), top_below) in
                let s : start_in w₃ v u ≡ c.edges =
                ap (λ (l : List ℕ). word l u) starts₃ ∙ get_or-set_same (region 5 v w) u c.edges 0 within in
                let b : word (region 6 v w₃) u ≡ suc (c₃.edges - c.edges) =
                ap (λ (l : List ℕ). word l u) degrees₃ ∙ get_or-set_same (region 6 v w) u (suc (c₃.edges - c.edges)) 0 (omega (arith, wide 6 (lit< tt) (omega arith), top_below)) in
                let n : degree_in w₃ v u ≡ c₃.edges - c.edges = omega (arith, b) in
                record {
                  settled = settled-in w₃ v u (omega (arith, b));
                  inside = omega (arith, s, n, edges₃);
                  row =
                      ap₂ (λ (k l : ℕ). take k (drop l (edges_of w₃ v e c₃.edges))) n s
                      ∙ ap (λ (l : List ℕ). take (c₃.edges - c.edges) (drop c.edges l)) (row₃ ts refl)
                      ∙ ap (take (c₃.edges - c.edges)) (drop_at (edges_of w v e c.edges) (edges_for u (keys_of w₃ v c₃.known) ts) c.edges before)
                      ∙ take_all (c₃.edges - c.edges) (edges_for u (keys_of w₃ v c₃.known) ts) (omega (arith, length-edges_for u (keys_of w₃ v c₃.known) ts, edges₃))
                      ∙ ap (edges_for u (keys_of w₃ v c₃.known)) (same ∙ ap targets (sym (key-kept u top_known)));
                  counts =
                      let new = counts_for (behind here) ts in
                      ap₂ (λ (k l : ℕ). take k (drop l (counts_of w₃ v e c₃.edges))) n s
                      ∙ ap (λ (l : List ℕ). take (c₃.edges - c.edges) (drop c.edges l)) (counts₃ ts refl)
                      ∙ ap (take (c₃.edges - c.edges))
                      (drop_at (counts_of w v e c.edges) new c.edges counts_before)
                      ∙ take_all (c₃.edges - c.edges) new (omega (arith, length-counts_for (behind here) ts, edges₃))
                      ∙ ap (counts_for (behind here)) same
                      ∙ ap (λ (k : ℕ). counts_for (behind k) (targets k)) (sym (key-kept u top_known));
                }

            start_other : (y : ℕ) → (y ≡ u → ⊥) → word (region 5 v w₃) y ≡ word (region 5 v w) y
            start_other y d =
                ap (λ (l : List ℕ). word l y) starts₃ ∙ get_or-set_other (region 5 v w) u y c.edges 0 d

            degree_other : (y : ℕ) → (y ≡ u → ⊥) → word (region 6 v w₃) y ≡ word (region 6 v w) y
            degree_other y d =
                ap (λ (l : List ℕ). word l y) degrees₃
                ∙ get_or-set_other (region 6 v w) u y (suc (c₃.edges - c.edges)) 0 d

            -- one that was settled before
            stretch_old : (y : ℕ) → y < c.known → (y ≡ u → ⊥) → (¬ In y (waiting_of w v c.waiting))
                → Stretch targets behind root w v e c y → Stretch targets behind root w₃ v e c₃ y
            stretch_old y h d out p =
                let s : start_in w₃ v y ≡ start_in w v y = start_other y d in
                let n : degree_in w₃ v y ≡ degree_in w v y = ap (λ (k : ℕ). k - 1) (degree_other y d) in
                let st = start_in w v y in
                let ct = degree_in w v y in
                record {
                  settled = settled_same w w₃ v y (degree_other y d) ∙ p.settled;
                  inside = omega (arith, s, n, p.inside, edges₃);
                  row =
                      ap₂ (λ (k l : ℕ). take k (drop l (edges_of w₃ v e c₃.edges))) n s
                      ∙ ap (λ (l : List ℕ). take ct (drop st l)) (row₃ ts refl)
                      ∙ ap (take ct) (drop-append-le st (edges_of w v e c.edges) (edges_for u (keys_of w₃ v c₃.known) ts) (omega (arith, before, p.inside)))
                      ∙ take-append-le ct (drop st (edges_of w v e c.edges)) (edges_for u (keys_of w₃ v c₃.known) ts) (omega (arith, before, p.inside, length-drop st (edges_of w v e c.edges)))
                      ∙ p.row
                      ∙ sym (edges_begins y (targets (get_or keys y root)) keys (keys_of w₃ v c₃.known) (g.sound.edges y (omega (arith, count)) out) on)
                      ∙ ap (λ (k : ℕ). edges_for y (keys_of w₃ v c₃.known) (targets k)) (sym (key-kept y h));
                  counts =
                      let old = counts_of w v e c.edges in
                      let new = counts_for (behind here) ts in
                      ap₂ (λ (k l : ℕ). take k (drop l (counts_of w₃ v e c₃.edges))) n s
                      ∙ ap (λ (l : List ℕ). take ct (drop st l)) (counts₃ ts refl)
                      ∙ ap (take ct) (drop-append-le st old new (omega (arith, counts_before, p.inside)))
                      ∙ take-append-le ct (drop st old) new
                      (omega (arith, counts_before, p.inside, length-drop st old))
                      ∙ p.counts
                      ∙ ap (λ (k : ℕ). counts_for (behind k) (targets k)) (sym (key-kept y h));
                }

            stretches₃ : (y : ℕ) → Settled (stand_of w₃ v c₃) y → Stretch targets behind root w₃ v e c₃ y
            stretches₃ y (h, out) = go (ℕ_discrete y u) (dec_lt y c.known)
              where
                pushed : In y (push_new (length keys) (length more - length keys) left) → ⊥
                pushed m = out (subst (In y) (sym waits₃) m)

                go : Dec (y ≡ u) → Dec (y < c.known) → Stretch targets behind root w₃ v e c₃ y
                go (yes q) l = subst (Stretch targets behind root w₃ v e c₃) (sym q) stretch_new
                go (no q) (no l) =
                    absurd (pushed (push_holds (length keys) (length more - length keys) left y
                    (omega (arith, count)) (omega (arith, count, count₃, h, length-keys w₃ v c₃.known))))
                go (no q) (yes l) =
                    let still : ¬ In y (waiting_of w v c.waiting) = λ m.
                    ⊎_elim q (λ i. pushed (push_before (length keys) (length more - length keys) left y i)) (subst (In y) top m) in
                    stretch_old y l q still (g.stretches y (omega (arith, count), still))

            -- what was settled stays settled, and so is u
            settled-kept : (y : ℕ) → Settled (stand_of w v c) y → Settled (stand_of w₃ v c₃) y
            settled-kept y (h, out) = (
              omega (arith, count, begins_length keys (keys_of w₃ v c₃.known) on),
              λ m. ⊎_elim (λ l. omega arith) (λ i. out (subst (In y) (sym top) (inr i)))
                  (push_only (length keys) (length more - length keys) left y (subst (In y) waits₃ m)),
            )

            settled_top : Settled (stand_of w₃ v c₃) u
            settled_top = (
              omega (arith, sound_top.falling.0, begins_length keys (keys_of w₃ v c₃.known) on),
              λ m. ⊎_elim (λ l. omega (arith, sound_top.falling.0)) (λ i. omega (arith, falling_below u left sound_top.falling.1 u i))
                  (push_only (length keys) (length more - length keys) left u (subst (In u) waits₃ m)),
            )

            unsettled₃ : (y : ℕ) → y < v → (¬ Settled (stand_of w₃ v c₃) y) → settled_in w₃ v y ≡ false
            unsettled₃ y h out =
                let d : y ≡ u → ⊥ = λ q. out (subst (Settled (stand_of w₃ v c₃)) (sym q) settled_top) in
                settled_same w w₃ v y (degree_other y d) ∙ g.unsettled y h (λ s. out (settled-kept y s))

            pub step_made : StepMade targets behind root w v e c w₃ c₃
            step_made =
                record {
                  stands = stands₃;
                  good =
                      record {
                        ready = b.ready;
                        sound = sound₃;
                        balance = omega (arith, b.one-settled, b.same_known, b.same_waiting, a.balance, a.same_settled, g.balance);
                        marks = marks₃;
                        total = total₃;
                        stretches = stretches₃;
                        unsettled = unsettled₃;
                      };
                }
