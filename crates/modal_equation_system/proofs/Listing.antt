-- Listing the equations node by node: which entries the table has before node v, and how they grow. Assumes nothing.
use mathlib.Core.Path.{◌≡◌, refl, sym, ap, ◌∙◌}
use mathlib.Core.Bool.{Bool, true, false, cond, not}
use mathlib.Core.List.{List, [], ◌∷◌, ◌++◌, map}
use Prim.Native.Nat.{ℕ, zero, suc, ◌+◌, ◌-◌, ◌/◌, ◌≤◌, ◌<◌, min}
use native.Mathlib.Decide.{dec_lt, ℕ_discrete}
use native.Mathlib.Omega.{arith}
use native.Mathlib.Numerals.{add-one}
use lib.ListN.{length, get_or, set, length-append, get_or-append}
use lib.Seq.{get_or-set_same, get_or-set_other, get_or-append_seam}
use lib.Dec.{eqb}
use denote.Enum.Bare.{sameb}
use mir.Val.{bool_byte}
use Rattle.node_kinds.specs.contracts.FormulaKind.{the_type}
use Rattle.std.proofs.lemmas.List.{map-set, length-map}
use Rattle.rules.specs.Lists.{word, one}
use Rattle.rules.specs.Table.{size, kind, operand, formula_node}
use Rattle.rules.specs.Formula.{Operator, least, greatest, Equation, is_fixpoint, placeholder, equations_before, equations, equation_count, equation_of, equation_number}
use Rattle.rules.specs.Depth.{least_bit}
use Rattle.node_kinds.specs.Codes.{formula_code}
use Rattle.node_kinds.specs.declared.FormulaKind.{FormulaKind}
use Rattle.node_kinds.specs.declared.FormulaKind.TheVariants.{True, False, And, Or, Box, Diamond, Least, Greatest, Reference}
use Rattle.trees.proofs.Fixpoints.{fixpoint_kind, fixpoint_at, no_fixpoint_below, no_fixpoint_above}
use Rattle.trees.proofs.Equations.{number_start, number_start_placeholder, number_more, number_same, equations_least, equations_greatest, equations_below, equations_above, number_monotone, count_number, count_limit}
use Rattle.modal_equation_system.specs.declared.EquationEntry.{EquationEntry}
use Rattle.modal_equation_system.specs.declared.EquationTable.{EquationTable}
use Rattle.modal_equation_system.specs.System.{named, Good, placeholder_entry, link_in, kind_in, body_in, operator_in, Link, Linked, Listed, Entered}
use Rattle.modal_equation_system.specs.Listing.{missing, Shows, Listing, Linkable, LinkBy}

-- ---- how many equations come before a node

pub number_first : (f : List ℕ) → equation_number f 0 ≡ 1 - one (is_fixpoint (formula_node f 0))
number_first f = go (is_fixpoint (formula_node f 0)) refl
  where
    go : (t : Bool) → is_fixpoint (formula_node f 0) ≡ t → equation_number f 0 ≡ 1 - one t
    go true e = number_start f e
    go false e = number_start_placeholder f e

number_next : (f : List ℕ) (v : ℕ) → equation_number f (suc v) ≡ equation_number f v + one (is_fixpoint (formula_node f v))
number_next f v = go (is_fixpoint (formula_node f v)) refl
  where
    go : (t : Bool) → is_fixpoint (formula_node f v) ≡ t → equation_number f (suc v) ≡ equation_number f v + one t
    go true e = omega (arith, number_more f v e)
    go false e = omega (arith, number_same f v e)

-- ---- a field of each equation, shown one after the other

-- the first n entries stay
abbrev Stays : (n : ℕ) (before after : ℕ → ℕ) → Type 0
Stays n before after = (i : ℕ) → i < n → after i ≡ before i

shows_one : (field : Equation → ℕ) (es : List Equation) (e : Equation) (before after : ℕ → ℕ) → Stays (length es) before after → after (length es) ≡ field e → Shows field es before
    → Shows field (es ++ (e ∷ [])) after
shows_one field es e before after kept k s i l = go (ℕ_discrete i (length es))
  where
    go : Dec (i ≡ length es) → after i ≡ field (get_or (es ++ (e ∷ [])) i missing)
    go (yes q) = rw q (k ∙ ap field (sym (get_or-append_seam es e [] missing)))
    go (no d) =
        let b : i < length es = omega (arith, length-append es (e ∷ [])) in
        kept i b ∙ s i b ∙ ap field (sym (get_or-append es (e ∷ []) missing i b))

shows_none : (field : Equation → ℕ) (es : List Equation) (before after : ℕ → ℕ) → Stays (length es) before after → Shows field es before → Shows field es after
shows_none field es before after kept s i l = kept i l ∙ s i l

-- node v comes next, with the entry that it has as a fixpoint
shows_next : (field : Equation → ℕ) (f : List ℕ) (v : ℕ) (before after : ℕ → ℕ) → v < size f → Stays (equation_number f v) before after
    → (kind f v ≡ 6 → after (equation_number f v) ≡ field (record { operator = least; body = suc v }))
    → (kind f v ≡ 7 → after (equation_number f v) ≡ field (record { operator = greatest; body = suc v }))
    → Shows field (equations_before f v) before → Shows field (equations_before f (suc v)) after
unfolding equation_number
shows_next field f v before after h kept p q s = go (ℕ_discrete (kind f v) 6) (ℕ_discrete (kind f v) 7) (dec_lt (kind f v) 6)
  where
    es : List Equation
    es = equations_before f v

    go : Dec (kind f v ≡ 6) → Dec (kind f v ≡ 7) → Dec (kind f v < 6) → Shows field (equations_before f (suc v)) after
    go (yes e) d b = rw (equations_least f v h e) (shows_one field es (record { operator = least; body = suc v }) before after kept (p e) s)
    go (no c) (yes e) b = rw (equations_greatest f v h e) (shows_one field es (record { operator = greatest; body = suc v }) before after kept (q e) s)
    go (no c) (no d) (yes b) = rw (equations_below f v h (omega arith)) (shows_none field es before after kept s)
    go (no c) (no d) (no b) = rw (equations_above f v h (omega arith)) (shows_none field es before after kept s)

-- at the start there is the placeholder's entry
shows_first : (field : Equation → ℕ) (f : List ℕ) (shown : ℕ → ℕ) → shown 0 ≡ field missing → Shows field (equations_before f 0) shown
unfolding equations_before placeholder
shows_first field f shown e = go (is_fixpoint (formula_node f 0))
  where
    go : (t : Bool) → Shows field (cond t [] (missing ∷ [])) shown
    go true i l = absurd (omega arith)
    go false zero l = e
    go false (suc i) l = absurd (omega arith)

-- ---- a node of the formula: how many equations it begins, where its words stand, and its link

-- a node of a kind that names a fixpoint is one
pub fixpoint_named : (f : List ℕ) (v : ℕ) → v < size f → (k : FormulaKind) → formula_code k ≡ kind f v
    → eqb (formula_code k / 2) 3 ≡ is_fixpoint (formula_node f v)
fixpoint_named f v h True e = sym (no_fixpoint_below f v h (omega arith))
fixpoint_named f v h False e = sym (no_fixpoint_below f v h (omega arith))
fixpoint_named f v h And e = sym (no_fixpoint_below f v h (omega arith))
fixpoint_named f v h Or e = sym (no_fixpoint_below f v h (omega arith))
fixpoint_named f v h Box e = sym (no_fixpoint_below f v h (omega arith))
fixpoint_named f v h Diamond e = sym (no_fixpoint_below f v h (omega arith))
fixpoint_named f v h Least e = sym (fixpoint_at f v h (omega arith) (omega arith))
fixpoint_named f v h Greatest e = sym (fixpoint_at f v h (omega arith) (omega arith))
fixpoint_named f v h Reference e = sym (no_fixpoint_above f v h (omega arith))

module _ (f : List ℕ) (good : Good f) (v : ℕ) (h : v < size f) where
  -- numbers of equations fit a word
  pub number_fits : equation_number f v ≤ 1_024
  number_fits = omega (arith, number_monotone f v (size f) (omega arith), count_number f, count_limit (named f) f good.formula)

  -- a reference has the link of its fixpoint, which stands before it
  fixpoint_link : (t : EquationTable) → Linked f v t → 8 ≤ kind f v → link_in t (operand f v) ≡ equation_number f (operand f v)
  fixpoint_link t linked p =
      let (a, b) = (good.formula.nodes v h).refers p in
      let (c, d) = fixpoint_kind f (operand f v) b in
      (linked (operand f v) a).own c d

module _ (f : List ℕ) (good : Good f) (v : ℕ) (h : v < size f) (table : EquationTable) (s : Listing f v table) where
  linked_outer : 8 ≤ kind f v → link_in table (operand f v) ≡ equation_number f (operand f v)
  linked_outer p = fixpoint_link f good v h table s.link p

  outer_before : 8 ≤ kind f v → operand f v < v
  outer_before p = ((good.formula.nodes v h).refers p).0

  -- the numbers of a step fit a word and the table
  pub number_few : table.count ≤ 1_024
  number_few = omega (arith, s.count, number_fits f good v h)

  pub linkable : (k o : ℕ) → k ≡ kind f v → o ≡ operand f v → Linkable table k o
  linkable k o e g =
      record {
        right = λ p q. omega (arith, good.formula.few, (good.formula.nodes v h).right (omega arith) (omega arith));
        own = omega (arith, number_few);
        outer = λ p. omega (arith, good.formula.few, outer_before (omega arith));
      }

  -- the link that the table and these numbers give is the node's
  link_node : (k o l : ℕ) → k ≡ kind f v → o ≡ operand f v → LinkBy table k o l → Link f v l
  link_node k o l e g b =
      record {
        right = λ p q. b.right (omega arith) (omega arith) ∙ g;
        own = λ p q. b.own (omega arith) (omega arith) ∙ s.count;
        outer = λ p. b.outer (omega arith) ∙ ap (link_in table) g ∙ linked_outer p;
      }

-- ---- a word is written

at_set : (ws : List ℕ) (i x : ℕ) → i < length ws → word (set ws i x) i ≡ x
at_set ws i x h = get_or-set_same {A = ℕ} ws i x 0 h

past_set : (ws : List ℕ) (i x u : ℕ) → (u ≡ i → ⊥) → word (set ws i x) u ≡ word ws u
past_set ws i x u d = get_or-set_other {A = ℕ} ws i u x 0 d

-- a field of entries of which one is written
field_set : {A : Type 0} (field : A → ℕ) (es : List A) (i : ℕ) (e : A) → i < length es → word (map field (set es i e)) i ≡ field e
field_set field es i e h = rw (map-set field es i e) (at_set (map field es) i (field e) (omega (arith, length-map es field)))

field_kept : {A : Type 0} (field : A → ℕ) (es : List A) (i : ℕ) (e : A) (u : ℕ) → (u ≡ i → ⊥) → word (map field (set es i e)) u ≡ word (map field es) u
field_kept field es i e u d = rw (map-set field es i e) (past_set (map field es) i (field e) u d)

-- ---- the listing: it begins, goes on by a node, and ends

not_byte : (b : Bool) → bool_byte (not b) ≡ 1 - one b
not_byte true = refl
not_byte false = refl

pub listing_first : (f : List ℕ) (i : ℕ) (t : EquationTable) (b : Bool) → i ≡ bool_byte (not b) → b ≡ is_fixpoint (formula_node f 0)
    → length t.equations ≡ 1_025
    → Listing f 0 (record { links = t.links; kinds = t.kinds; equations = set t.equations 0 placeholder_entry; count = i })
unfolding least_bit
listing_first f i t first e g long =
    record {
      count = e ∙ not_byte first ∙ ap (λ (a : Bool). 1 - one a) g ∙ sym (number_first f);
      link = λ u h. absurd (omega arith);
      kinds = λ u h. absurd (omega arith);
      body = shows_first (λ e. e.body) f (λ j. word (map (λ e. e.body) (set t.equations 0 placeholder_entry)) j)
          (field_set (λ e. e.body) t.equations 0 placeholder_entry (omega arith));
      operator = shows_first (λ e. 7 - least_bit e.operator) f
          (λ j. word (map (λ e. formula_code e.kind) (set t.equations 0 placeholder_entry)) j)
          (field_set (λ e. formula_code e.kind) t.equations 0 placeholder_entry (omega arith));
    }

-- ---- a node is listed

pub byte_of : (b : Bool) → bool_byte b ≡ one b
byte_of true = refl
byte_of false = refl

pub least_bit_of : (k : FormulaKind) (b : Bool) → b ≡ sameb the_type k Least → one b ≡ one (eqb (formula_code k) 6)
least_bit_of True b e = ap one e
least_bit_of False b e = ap one e
least_bit_of And b e = ap one e
least_bit_of Or b e = ap one e
least_bit_of Box b e = ap one e
least_bit_of Diamond b e = ap one e
least_bit_of Least b e = ap one e
least_bit_of Greatest b e = ap one e
least_bit_of Reference b e = ap one e

-- the kind that a word is read as is that of the node
pub kind_read : (f : List ℕ) → Good f → (v : ℕ) → v < size f → (w k : ℕ) → w ≡ kind f v → k ≡ min w 8 → k ≡ kind f v
kind_read f good v h w k e g = omega (arith, (good.formula.nodes v h).known)

pub fixpoint_read : (f : List ℕ) → Good f → (v : ℕ) → v < size f → (k : FormulaKind) → formula_code k ≡ min (kind f v) 8
    → eqb (formula_code k / 2) 3 ≡ is_fixpoint (formula_node f v)
fixpoint_read f good v h k e = fixpoint_named f v h k (kind_read f good v h (kind f v) (formula_code k) refl e)

-- the words of node v and of the equation that may begin there are written
module _ (f : List ℕ) (good : Good f) (v : ℕ) (h : v < size f) (t : EquationTable) (s : Listing f v t)
    (k : FormulaKind) (e : formula_code k ≡ kind f v) (link more : ℕ)
    (links_long : length t.links ≡ 1_024) (kinds_long : length t.kinds ≡ 1_024)
    (equations_long : length t.equations ≡ 1_025)
  where
    abbrev entry : EquationEntry
    entry = record { kind = k; body = suc v }

    abbrev listed : EquationTable
    listed =
        record {
          links = set t.links v link;
          kinds = set t.kinds v k;
          equations = set t.equations t.count entry;
          count = t.count + more;
        }

    few : t.count < length t.equations
    few = omega (arith, number_few f good v h t s)

    links_next : Link f v link → Linked f (suc v) listed
    links_next l u b = go (ℕ_discrete u v)
      where
        go : Dec (u ≡ v) → Link f u (link_in listed u)
        go (yes q) = rw (q, at_set t.links v link (omega (arith, good.formula.few))) l
        go (no d) = rw (past_set t.links v link u d) (s.link u (omega arith))

    kinds_next : (u : ℕ) → u < suc v → kind_in listed u ≡ kind f u
    kinds_next u b = go (ℕ_discrete u v)
      where
        go : Dec (u ≡ v) → kind_in listed u ≡ kind f u
        go (yes q) = rw q (field_set formula_code t.kinds v k (omega (arith, good.formula.few)) ∙ e)
        go (no d) = field_kept formula_code t.kinds v k u d ∙ s.kinds u (omega arith)

    bodies_kept : Stays (equation_number f v) (body_in t) (body_in listed)
    bodies_kept j b = field_kept (λ e. e.body) t.equations t.count entry j (λ (q : j ≡ t.count). omega (arith, s.count))

    body_written : body_in listed (equation_number f v) ≡ suc v
    body_written = ap (body_in listed) (sym s.count) ∙ field_set (λ e. e.body) t.equations t.count entry few

    operators_kept : Stays (equation_number f v) (operator_in t) (operator_in listed)
    operators_kept j b =
        field_kept (λ e. formula_code e.kind) t.equations t.count entry j (λ (q : j ≡ t.count). omega (arith, s.count))

    operator_written : operator_in listed (equation_number f v) ≡ kind f v
    operator_written =
        ap (operator_in listed) (sym s.count) ∙ field_set (λ e. formula_code e.kind) t.equations t.count entry few ∙ e

    listing_suc : (o : ℕ) → o ≡ operand f v → LinkBy t (formula_code k) o link → more ≡ one (eqb (formula_code k / 2) 3)
        → Listing f (suc v) listed
    unfolding least_bit
    listing_suc o g l m =
        record {
          count = omega (arith, s.count, m ∙ ap one (fixpoint_named f v h k e), number_next f v);
          link = links_next (link_node f good v h t s (formula_code k) o link e g l);
          kinds = kinds_next;
          body = shows_next (λ e. e.body) f v (body_in t) (body_in listed) h bodies_kept (λ q. body_written) (λ q. body_written) s.body;
          operator = shows_next (λ e. 7 - least_bit e.operator) f v (operator_in t) (operator_in listed) h operators_kept
              (λ q. operator_written ∙ q) (λ q. operator_written ∙ q) s.operator;
        }

    pub listing_next : (o : ℕ) → o ≡ operand f v → LinkBy t (formula_code k) o link → more ≡ one (eqb (formula_code k / 2) 3)
        → Listing f (v + 1)
        (record { links = set t.links v link; kinds = set t.kinds v k; equations = set t.equations t.count (record { kind = k; body = v + 1 }); count = t.count + more })
    listing_next o g l m = rw add-one (listing_suc o g l m)

-- a least equation has kind 6
least_shown : (o : Operator) → one (eqb (7 - least_bit o) 6) ≡ least_bit o
unfolding least_bit
least_shown least = refl
least_shown greatest = refl

pub listing_last : (f : List ℕ) (table : EquationTable) → Good f → Listing f (size f) table → Listed f table
unfolding equation_count equations equation_of equation_number
listing_last f table good s =
    record {
      good = good;
      link = s.link;
      kinds = s.kinds;
      body = s.body;
      operator = λ i h. ap (λ (w : ℕ). one (eqb w 6)) (s.operator i h) ∙ least_shown (equation_of f i).operator;
    }

pub entered_last : (f : List ℕ) (table : EquationTable) → Listing f (size f) table → Entered f table
unfolding equation_count equations equation_of equation_number
entered_last f table s = record { fixpoint = s.operator; count = s.count }
