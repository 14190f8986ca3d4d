-- Reading the form is exact: what is read is spelled by the bytes that were taken, and what is spelled is read. Assumes
-- nothing.
use Prim.Native.Nat.{ℕ, zero, suc, ◌≤◌}
use native.Mathlib.Omega.{arith}
use mathlib.Core.Path.{◌≡◌, refl, sym, ap, ◌∙◌, subst}
use mathlib.Core.Bool.{Bool, true, false, cond}
use mathlib.Core.List.{List, [], ◌∷◌, ◌++◌, append_assoc}
use mathlib.Core.Logic.{inl, inr, ◌↔◌}
use mathlib.Core.Option.{Option, none, some}
use lib.ListN.{length, length-append}
use lib.Dec.{eqb, ltb}
use borrow.Author.Tests.{eqb-true, eqb-false, eq-eqb, ne_eqb, ltb-false, le-ltb}
use Rattle.rules.specs.Lists.{In}
use Rattle.rules.specs.Texts.{decimal}
use Rattle.rules.specs.TextReading.{is_digit, value_on, digits_at, past_digits, no_numeral}
use Rattle.rules.specs.Pgsolver.{SolverLine, SolverText, parity_word, header_text, comma_text, list_text, name_text}
use Rattle.rules.specs.Pgsolver.{line_text, lines_text, spelled, PlainName, ProperLine, HasForm}
use Rattle.rules.specs.TextReading.{Front, front, then_read, read_byte, read_bytes, read_number, read_field, with_first}
use Rattle.rules.specs.PgsolverParse.{read_commas, read_list, read_name, read_named, read_owner, read_line, with_line}
use Rattle.rules.specs.PgsolverParse.{read_lines, read_header, parse}
use Rattle.game_texts.proofs.Decimals.{NoDigit, decimal-digits, decimal_value, decimal_proper, decimal_some}
use Rattle.game_texts.proofs.Decimals.{decimal_back, front_digits, front-split, front_of, past_of, past_no_digit}

-- ---- options

pub some_same : {A : Type 0} {a b : A} → some a ≡ some b → a ≡ b
some_same e = cc

none-some : {A : Type 0} {a : A} → none ≡ some a → ⊥
none-some e = let z : ◌≡◌ {A = ℕ} 0 1 = cc in omega arith

pub then_some : {A B : Type 0} (m : Option A) (f : A → Option B) (b : B) → then_read m f ≡ some b
    → (a : A) × (m ≡ some a) × (f a ≡ some b)
unfolding then_read
then_some none f b e = absurd (none-some e)
then_some (some a) f b e = (a, refl, e)

pub then-read : {A B : Type 0} {m : Option A} (f : A → Option B) (a : A) → m ≡ some a → then_read m f ≡ f a
unfolding then_read
then-read f a e = rw e refl

first_some : {A : Type 0} (a : A) (m : Option (Front (List A))) (r : Front (List A)) → with_first a m ≡ some r
    → (s : Front (List A)) × (m ≡ some s) × (front (a ∷ s.value) s.rest ≡ r)
unfolding with_first
first_some a none r e = absurd (none-some e)
first_some a (some s) r e = (s, refl, some_same e)

pub first_read : {A : Type 0} {m : Option (Front (List A))} (a : A) (s : Front (List A)) → m ≡ some s
    → with_first a m ≡ some (front (a ∷ s.value) s.rest)
unfolding with_first
first_read a s e = rw e refl

-- ---- bytes

pub byte_sound : (c : ℕ) (ts r : List ℕ) → read_byte c ts ≡ some r → ts ≡ c ∷ r
unfolding read_byte
byte_sound c [] r e = absurd (none-some e)
byte_sound c (x ∷ xs) r e = go (eqb x c) refl e
  where
    go : (b : Bool) → eqb x c ≡ b → cond b (some xs) none ≡ some r → x ∷ xs ≡ c ∷ r
    go true t e = ap (λ (y : ℕ). y ∷ xs) (eqb-true x c t) ∙ ap (λ (l : List ℕ). c ∷ l) (some_same e)
    go false t e = absurd (none-some e)

pub byte-read : (c : ℕ) (r : List ℕ) → read_byte c (c ∷ r) ≡ some r
unfolding read_byte
byte-read c r = rw (eq-eqb c c refl) refl

bytes_sound : (cs ts r : List ℕ) → read_bytes cs ts ≡ some r → ts ≡ cs ++ r
unfolding read_bytes
bytes_sound [] ts r e = some_same e
bytes_sound (c ∷ cs) ts r e =
    let (u, d, f) = then_some (read_byte c ts) (read_bytes cs) r e in
    byte_sound c ts u d ∙ ap (λ (l : List ℕ). c ∷ l) (bytes_sound cs u r f)

pub bytes_read : (cs r : List ℕ) → read_bytes cs (cs ++ r) ≡ some r
unfolding read_bytes
bytes_read [] r = refl
bytes_read (c ∷ cs) r = then-read (read_bytes cs) (cs ++ r) (byte-read c (cs ++ r)) ∙ bytes_read cs r

-- ---- numbers

pub number_sound : (ts : List ℕ) (n : Front ℕ) → read_number ts ≡ some n
    → (ts ≡ decimal n.value ++ n.rest) × NoDigit n.rest
unfolding read_number
number_sound ts n e = go (no_numeral (digits_at ts)) refl e
  where
    go : (b : Bool) → no_numeral (digits_at ts) ≡ b
        → cond b none (some (front (value_on (digits_at ts) 0) (past_digits ts))) ≡ some n
        → (ts ≡ decimal n.value ++ n.rest) × NoDigit n.rest
    go true t e = absurd (none-some e)
    go false t e =
        let q : front (value_on (digits_at ts) 0) (past_digits ts) ≡ n = some_same e in (
          front-split ts ∙ ap (λ (l : List ℕ). l ++ past_digits ts)
              (sym (decimal_back (digits_at ts) (front_digits ts) t))
              ∙ ap (λ (m : Front ℕ). decimal m.value ++ m.rest) q,
          subst (λ (m : Front ℕ). NoDigit m.rest) q (past_no_digit ts),
        )

pub number_read : (n : ℕ) (r : List ℕ) → NoDigit r → read_number (decimal n ++ r) ≡ some (front n r)
unfolding read_number
number_read n r h =
    rw (
      front_of (decimal n) r (decimal-digits n) h,
      past_of (decimal n) r
          (decimal-digits n) h,
      decimal_proper n,
      decimal_value n,
    ) refl

-- a number is read exactly where its digits stand and no further digit follows
pub number_exact : (ts : List ℕ) (n : Front ℕ)
    → read_number ts ≡ some n ↔ ((ts ≡ decimal n.value ++ n.rest) × NoDigit n.rest)
number_exact ts n = (number_sound ts n, λ h. ap read_number h.0 ∙ number_read n.value n.rest h.1)

pub field_sound : (c : ℕ) (ts : List ℕ) (n : Front ℕ) → read_field c ts ≡ some n
    → ts ≡ decimal n.value ++ (c ∷ n.rest)
unfolding read_field
field_sound c ts n e =
    let (m, d, f) = then_some (read_number ts) _ n e in
    let (b, g, h) = then_some (read_byte c m.rest) _ n f in
    let q : front m.value b ≡ n = some_same h in
    (number_sound ts m d).0 ∙ ap (λ (l : List ℕ). decimal m.value ++ l) (byte_sound c m.rest b g)
    ∙ ap (λ (k : Front ℕ). decimal k.value ++ (c ∷ k.rest)) q

pub field-read : (c n : ℕ) (r : List ℕ) → is_digit c ≡ false → read_field c (decimal n ++ (c ∷ r)) ≡ some (front n r)
unfolding read_field
field-read c n r h =
    then-read _ (front n (c ∷ r)) (number_read n (c ∷ r) h) ∙ then-read _ r (byte-read c r)

-- ---- lists

pub commas_sound : (turns : ℕ) (ts : List ℕ) (s : Front (List ℕ)) → read_commas turns ts ≡ some s
    → ts ≡ comma_text s.value ++ s.rest
unfolding read_commas comma_text
commas_sound zero ts s e = ap (λ (k : Front (List ℕ)). comma_text k.value ++ k.rest) (some_same e)
commas_sound (suc turns) [] s e = ap (λ (k : Front (List ℕ)). comma_text k.value ++ k.rest) (some_same e)
commas_sound (suc turns) (c ∷ cs) s e = go (λ us k. commas_sound turns us k) (eqb c 44) refl e
  where
    go : ((us : List ℕ) (k : Front (List ℕ)) → read_commas turns us ≡ some k → us ≡ comma_text k.value ++ k.rest)
        → (b : Bool) → eqb c 44 ≡ b
        → cond b (then_read (read_number cs) (λ n. with_first n.value (read_commas turns n.rest)))
        (some (front [] (c ∷ cs))) ≡ some s → c ∷ cs ≡ comma_text s.value ++ s.rest
    go r true t e =
        let (n, d, f) = then_some (read_number cs) (λ n. with_first n.value (read_commas turns n.rest)) s e in
        let (k, g, h) = first_some n.value (read_commas turns n.rest) s f in
        ap (λ (y : ℕ). y ∷ cs) (eqb-true c 44 t)
        ∙ ap (λ (l : List ℕ). 44 ∷ l)
        ((number_sound cs n d).0 ∙ ap (λ (l : List ℕ). decimal n.value ++ l) (r n.rest k g)
        ∙ sym (append_assoc (decimal n.value) (comma_text k.value) k.rest))
        ∙ ap (λ (m : Front (List ℕ)). comma_text m.value ++ m.rest) h
    go r false t e = ap (λ (k : Front (List ℕ)). comma_text k.value ++ k.rest) (some_same e)

-- no comma follows: a list ends here
abbrev pub NoComma : List ℕ → Type 0
NoComma [] = Unit {0}
NoComma (c ∷ cs) = ¬ (c ≡ 44)

comma_no_digit : is_digit 44 ≡ false
unfolding is_digit
comma_no_digit = refl

pub after_commas : (ns r : List ℕ) → NoDigit r → NoDigit (comma_text ns ++ r)
unfolding comma_text
after_commas [] r h = h
after_commas (n ∷ ns) r h = comma_no_digit

pub commas_read : (turns : ℕ) (ns r : List ℕ) → length ns ≤ turns → NoDigit r → NoComma r
    → read_commas turns (comma_text ns ++ r) ≡ some (front ns r)
unfolding read_commas comma_text
commas_read zero [] r h k l = refl
commas_read zero (n ∷ ns) r h k l = absurd (omega arith)
commas_read (suc turns) [] [] h k l = refl
commas_read (suc turns) [] (c ∷ r) h k l = rw (ne_eqb c 44 l) refl
commas_read (suc turns) (n ∷ ns) r h k l =
    ap (read_commas (suc turns)) (ap (λ (t : List ℕ). 44 ∷ t) (append_assoc (decimal n) (comma_text ns) r))
    ∙ then-read _ (front n (comma_text ns ++ r)) (number_read n (comma_text ns ++ r) (after_commas ns r k))
    ∙ first_read n (front ns r) (commas_read turns ns r (omega arith) k l)

pub list_sound : (ts : List ℕ) (s : Front (List ℕ)) → read_list ts ≡ some s
    → (ts ≡ list_text s.value ++ s.rest) × (1 ≤ length s.value)
unfolding read_list list_text
list_sound ts s e =
    let (n, d, f) = then_some (read_number ts) _ s e in
    let (k, g, h) = first_some n.value (read_commas (length n.rest) n.rest) s f in (
      (number_sound ts n d).0 ∙ ap (λ (l : List ℕ). decimal n.value ++ l)
          (commas_sound (length n.rest) n.rest k g)
          ∙ sym (append_assoc (decimal n.value) (comma_text k.value) k.rest)
          ∙ ap (λ (m : Front (List ℕ)). list_text m.value ++ m.rest) h,
      subst (λ (m : Front (List ℕ)). 1 ≤ length m.value) h (omega arith),
    )

commas_long : (ns : List ℕ) → length ns ≤ length (comma_text ns)
unfolding comma_text
commas_long [] = omega arith
commas_long (n ∷ ns) = omega (arith, commas_long ns, length-append (decimal n) (comma_text ns))

pub list_read : (ns r : List ℕ) → 1 ≤ length ns → NoDigit r → NoComma r
    → read_list (list_text ns ++ r) ≡ some (front ns r)
unfolding read_list list_text
list_read [] r h k l = absurd (omega arith)
list_read (n ∷ ns) r h k l =
    ap read_list (append_assoc (decimal n) (comma_text ns) r)
    ∙ then-read _ (front n (comma_text ns ++ r)) (number_read n (comma_text ns ++ r) (after_commas ns r k))
    ∙ first_read n (front ns r)
    (commas_read (length (comma_text ns ++ r)) ns r (omega (arith, commas_long ns, length-append (comma_text ns) r)) k l)

-- ---- names

name_sound : (ts : List ℕ) (s : Front (List ℕ)) → read_name ts ≡ some s
    → (ts ≡ s.value ++ (34 ∷ s.rest)) × (¬ In 34 s.value) × (¬ In 10 s.value)
unfolding read_name
name_sound [] s e = absurd (none-some e)
name_sound (c ∷ cs) s e = go (λ k. name_sound cs k) (eqb c 34) (eqb c 10) refl refl e
  where
    go : ((k : Front (List ℕ)) → read_name cs ≡ some k
        → (cs ≡ k.value ++ (34 ∷ k.rest)) × (¬ In 34 k.value) × (¬ In 10 k.value)) → (b d : Bool) → eqb c 34 ≡ b
        → eqb c 10 ≡ d
        → cond b (some (front [] cs)) (cond d none (with_first c (read_name cs))) ≡ some s
        → (c ∷ cs ≡ s.value ++ (34 ∷ s.rest)) × (¬ In 34 s.value) × (¬ In 10 s.value)
    go r true d t u e =
        let q : front [] cs ≡ s = some_same e in (
          ap (λ (y : ℕ). y ∷ cs) (eqb-true c 34 t) ∙ ap (λ (m : Front (List ℕ)). m.value ++ (34 ∷ m.rest)) q,
          subst (λ (m : Front (List ℕ)). ¬ In 34 m.value) q (λ n. n),
          subst (λ (m : Front (List ℕ)). ¬ In 10 m.value) q (λ n. n),
        )
    go r false true t u e = absurd (none-some e)
    go r false false t u e =
        let (k, g, h) = first_some c (read_name cs) s e in
        let (a, b, d) = r k g in (
          ap (λ (l : List ℕ). c ∷ l) a ∙ ap (λ (m : Front (List ℕ)). m.value ++ (34 ∷ m.rest)) h,
          subst (λ (m : Front (List ℕ)). ¬ In 34 m.value) h (other c k.value 34 (eqb-false c 34 t) b),
          subst (λ (m : Front (List ℕ)). ¬ In 10 m.value) h (other c k.value 10 (eqb-false c 10 u) d),
        )
      where
        other : (c : ℕ) (cs : List ℕ) (x : ℕ) → ¬ (c ≡ x) → ¬ In x cs → ¬ In x (c ∷ cs)
        other c cs x m n (inl e) = m (sym e)
        other c cs x m n (inr i) = n i

name_read : (cs r : List ℕ) → ¬ In 34 cs → ¬ In 10 cs → read_name (cs ++ (34 ∷ r)) ≡ some (front cs r)
unfolding read_name
name_read [] r h k = refl
name_read (c ∷ cs) r h k =
    rw (ne_eqb c 34 (λ e. h (inl (sym e))), ne_eqb c 10 (λ e. k (inl (sym e))))
    (first_read c (front cs r) (name_read cs r (λ i. h (inr i)) (λ i. k (inr i))))

pub named_sound : (ts : List ℕ) (s : Front (Option (List ℕ))) → read_named ts ≡ some s
    → (ts ≡ name_text s.value ++ s.rest) × PlainName s.value
unfolding read_named name_text
named_sound [] s e =
    let q : front none [] ≡ s = some_same e in (
      ap (λ (m : Front (Option (List ℕ))). name_text m.value ++ m.rest) q,
      subst
          (λ (m : Front (Option (List ℕ))). PlainName m.value) q tt,
    )
named_sound (c ∷ cs) s e = go (eqb c 32) refl e
  where
    go : (b : Bool) → eqb c 32 ≡ b
        → cond b (then_read (read_byte 34 cs)
        (λ r. then_read (read_name r) (λ n. some (front (some n.value) n.rest)))) (some (front none (c ∷ cs)))
        ≡ some s
        → (c ∷ cs ≡ name_text s.value ++ s.rest) × PlainName s.value
    go true t e =
        let (u, d, f) = then_some (read_byte 34 cs)
        (λ r. then_read (read_name r) (λ n. some (front (some n.value) n.rest))) s e in
        let (n, g, h) = then_some (read_name u) (λ n. some (front (some n.value) n.rest)) s f in
        let q : front (some n.value) n.rest ≡ s = some_same h in
        let (a, x, y) = name_sound u n g in (
          ap (λ (z : ℕ). z ∷ cs) (eqb-true c 32 t)
              ∙ ap (λ (l : List ℕ). 32 ∷ l)
              (byte_sound 34 cs u d ∙ ap (λ (l : List ℕ). 34 ∷ l)
              (a ∙ sym (append_assoc n.value (34 ∷ []) n.rest)))
              ∙ ap (λ (m : Front (Option (List ℕ))). name_text m.value ++ m.rest) q,
          subst (λ (m : Front (Option (List ℕ))). PlainName m.value) q (x, y),
        )
    go false t e =
        let q : front none (c ∷ cs) ≡ s = some_same e in (
          ap (λ (m : Front (Option (List ℕ))). name_text m.value ++ m.rest) q,
          subst
              (λ (m : Front (Option (List ℕ))). PlainName m.value) q tt,
        )

-- what stands between the successors and the semicolon is read as the name, or as none
pub named_read : (o : Option (List ℕ)) (r : List ℕ) → PlainName o
    → read_named (name_text o ++ (59 ∷ r)) ≡ some (front o (59 ∷ r))
unfolding read_named name_text
named_read none r h = refl
named_read (some cs) r h =
    ap (λ (l : List ℕ). read_named (32 ∷ 34 ∷ l)) (append_assoc cs (34 ∷ []) (59 ∷ r))
    ∙ then-read _ (cs ++ (34 ∷ 59 ∷ r)) (byte-read 34 (cs ++ (34 ∷ 59 ∷ r)))
    ∙ then-read _ (front cs (59 ∷ r)) (name_read cs (59 ∷ r) h.0 h.1)

-- ---- lines

pub owner_sound : (ts : List ℕ) (o : Front ℕ) → read_owner ts ≡ some o
    → (ts ≡ decimal o.value ++ (32 ∷ o.rest)) × (o.value ≤ 1)
unfolding read_owner
owner_sound ts o e =
    let (u, d, f) = then_some (read_field 32 ts) (λ o. cond (ltb 1 o.value) none (some o)) o e in
    go u d (ltb 1 u.value) refl f
  where
    go : (u : Front ℕ) → read_field 32 ts ≡ some u → (b : Bool) → ltb 1 u.value ≡ b → cond b none (some u) ≡ some o
        → (ts ≡ decimal o.value ++ (32 ∷ o.rest)) × (o.value ≤ 1)
    go u d true t f = absurd (none-some f)
    go u d false t f = (
      field_sound 32 ts u d ∙ ap (λ (k : Front ℕ). decimal k.value ++ (32 ∷ k.rest)) (some_same f),
      subst (λ (k : Front ℕ). k.value ≤ 1) (some_same f) (ltb-false 1 u.value t),
    )

space_no_digit : is_digit 32 ≡ false
unfolding is_digit
space_no_digit = refl

semicolon_no_digit : is_digit 59 ≡ false
unfolding is_digit
semicolon_no_digit = refl

pub owner_read : (o : ℕ) (r : List ℕ) → o ≤ 1 → read_owner (decimal o ++ (32 ∷ r)) ≡ some (front o r)
unfolding read_owner
owner_read o r h =
    then-read _ (front o r) (field-read 32 o r space_no_digit) ∙ rw (le-ltb 1 o h) refl

-- what stands behind the successors
after : Option (List ℕ) → List ℕ → List ℕ
after n r = name_text n ++ (59 ∷ 10 ∷ r)

line_parts : (l : SolverLine) (r : List ℕ)
    → line_text l ++ r ≡ decimal
    l.number ++ (32 ∷ (decimal
    l.priority ++ (32 ∷ (decimal l.owner ++ (32 ∷ (list_text l.successors ++ after l.name r))))))
unfolding line_text after
line_parts l r = simp append_assoc

after_no_digit : (n : Option (List ℕ)) (r : List ℕ) → NoDigit (after n r)
unfolding after name_text
after_no_digit none r = semicolon_no_digit
after_no_digit (some cs) r = space_no_digit

after_no_comma : (n : Option (List ℕ)) (r : List ℕ) → NoComma (after n r)
unfolding after name_text
after_no_comma none r = λ e. omega arith
after_no_comma (some cs) r = λ e. omega arith

pub line_sound : (ts : List ℕ) (l : Front SolverLine) → read_line ts ≡ some l
    → (ts ≡ line_text l.value ++ l.rest) × ProperLine l.value
unfolding read_line after
line_sound ts l e =
    let (v, e1, f1) = then_some (read_field 32 ts) _ l e in
    let (p, e2, f2) = then_some (read_field 32 v.rest) _ l f1 in
    let (o, e3, f3) = then_some (read_owner p.rest) _ l f2 in
    let (s, e4, f4) = then_some (read_list o.rest) _ l f3 in
    let (n, e5, f5) = then_some (read_named s.rest) _ l f4 in
    let (r, e6, f6) = then_some (read_bytes (59 ∷ 10 ∷ []) n.rest) _ l f5 in
    let said : SolverLine
    = record {
      number = v.value;
      priority = p.value;
      owner = o.value;
      successors = s.value;
      name = n.value;
    } in
    let q : front said r ≡ l = some_same f6 in
    let (a, b) = owner_sound p.rest o e3 in
    let (c, d) = list_sound o.rest s e4 in
    let (g, h) = named_sound s.rest n e5 in
    let spells : ts ≡ line_text said ++ r
    = field_sound 32 ts v e1
    ∙ ap (λ (x : List ℕ). decimal v.value ++ (32 ∷ x)) (field_sound 32 v.rest p e2
    ∙ ap (λ (x : List ℕ). decimal p.value ++ (32 ∷ x)) (a
    ∙ ap (λ (x : List ℕ). decimal o.value ++ (32 ∷ x)) (c
    ∙ ap (λ (x : List ℕ). list_text s.value ++ x) (g
    ∙ ap (λ (x : List ℕ). name_text n.value ++ x) (bytes_sound (59 ∷ 10 ∷ []) n.rest r e6)))))
    ∙ sym (line_parts said r) in (
      spells ∙ ap (λ (m : Front SolverLine). line_text m.value ++ m.rest) q,
      subst (λ (m : Front SolverLine). ProperLine m.value) q (record { owned = b; leads = d; plain = h }),
    )

pub line_read : (l : SolverLine) (r : List ℕ) → ProperLine l → read_line (line_text l ++ r) ≡ some (front l r)
unfolding read_line
line_read l r h =
    ap read_line (line_parts l r)
    ∙ then-read _ _ (field-read 32 l.number
    (decimal l.priority ++ (32 ∷ (decimal
    l.owner ++ (32 ∷ (list_text l.successors ++ after l.name r))))) space_no_digit)
    ∙ then-read _ _ (field-read 32 l.priority
    (decimal l.owner ++ (32 ∷ (list_text l.successors ++ after l.name r))) space_no_digit)
    ∙ then-read _ _ (owner_read l.owner (list_text l.successors ++ after l.name r) h.owned)
    ∙ then-read _ _ (list_read l.successors (after l.name r) h.leads (after_no_digit l.name r)
    (after_no_comma l.name r))
    ∙ then-read _ _ (named l.name h.plain)
    ∙ then-read _ r (bytes_read (59 ∷ 10 ∷ []) r)
  where
    named : (o : Option (List ℕ)) → PlainName o → read_named (after o r) ≡ some (front o (59 ∷ 10 ∷ r))
    named o k = unfold after in named_read o (10 ∷ r) k

pub lines_sound : (turns : ℕ) (ts : List ℕ) (ls : List SolverLine) → read_lines turns ts ≡ some ls
    → (ts ≡ lines_text ls) × ((l : SolverLine) → In l ls → ProperLine l)
unfolding read_lines lines_text with_line
lines_sound zero [] ls e = (
  ap lines_text (some_same e),
  subst (λ (ms : List SolverLine). (l : SolverLine) → In l ms → ProperLine l)
      (some_same e) (λ l i. absurd i),
)
lines_sound zero (c ∷ cs) ls e = absurd (none-some e)
lines_sound (suc turns) [] ls e = (
  ap lines_text (some_same e),
  subst (λ (ms : List SolverLine). (l : SolverLine) → In l ms → ProperLine l)
      (some_same e) (λ l i. absurd i),
)
lines_sound (suc turns) (c ∷ cs) ls e =
    let (l, d, f) = then_some (read_line (c ∷ cs)) (λ l. with_line l.value (read_lines turns l.rest)) ls e in
    go l d (read_lines turns l.rest) refl (λ ms g. lines_sound turns l.rest ms g) f
  where
    go : (l : Front SolverLine) → read_line (c ∷ cs) ≡ some l → (m : Option (List SolverLine))
        → read_lines turns l.rest ≡ m
        → ((ms : List SolverLine) → read_lines turns l.rest ≡ some ms
        → (l.rest ≡ lines_text ms) × ((k : SolverLine) → In k ms → ProperLine k)) → with_line l.value m ≡ some ls
        → (c ∷ cs ≡ lines_text ls) × ((k : SolverLine) → In k ls → ProperLine k)
    go l d none t r f = absurd (none-some f)
    go l d (some ms) t r f =
        let q : l.value ∷ ms ≡ ls = some_same f in
        let (a, b) = line_sound (c ∷ cs) l d in
        let (x, y) = r ms t in (
          a ∙ ap (λ (z : List ℕ). line_text l.value ++ z) x
              ∙ ap lines_text q,
          subst (λ (ks : List SolverLine). (k : SolverLine) → In k ks → ProperLine k) q
              (both l.value ms b y),
        )
      where
        both : (l : SolverLine) (ms : List SolverLine) → ProperLine l → ((k : SolverLine) → In k ms → ProperLine k)
            → (k : SolverLine) → In k (l ∷ ms) → ProperLine k
        both l ms b y k (inl e) = subst ProperLine (sym e) b
        both l ms b y k (inr i) = y k i

line_some : (l : SolverLine) → 1 ≤ length (line_text l)
unfolding line_text
line_some l = rw length-append (omega (arith, decimal_some l.number))

lines_long : (ls : List SolverLine) → length ls ≤ length (lines_text ls)
unfolding lines_text
lines_long [] = omega arith
lines_long (l ∷ ls) = omega (arith, line_some l, lines_long ls, length-append (line_text l) (lines_text ls))

-- where bytes are left, a line is read
lines_step : (turns : ℕ) (ts : List ℕ) → 1 ≤ length ts
    → read_lines (suc turns) ts ≡ then_read (read_line ts) (λ l. with_line l.value (read_lines turns l.rest))
unfolding read_lines
lines_step turns [] h = absurd (omega arith)
lines_step turns (c ∷ cs) h = refl

pub lines_read : (turns : ℕ) (ls : List SolverLine) → length ls ≤ turns → ((l : SolverLine) → In l ls → ProperLine l)
    → read_lines turns (lines_text ls) ≡ some ls
unfolding read_lines lines_text with_line
lines_read zero [] h k = refl
lines_read zero (l ∷ ls) h k = absurd (omega arith)
lines_read (suc turns) [] h k = refl
lines_read (suc turns) (l ∷ ls) h k =
    lines_step turns (line_text l ++ lines_text ls)
    (omega (arith, line_some l, length-append (line_text l) (lines_text ls)))
    ∙ then-read _ (front l (lines_text ls)) (line_read l (lines_text ls) (k l (inl refl)))
    ∙ ap (with_line l) (lines_read turns ls (omega arith) (λ m i. k m (inr i)))

-- ---- the whole text

header-parts : (h : ℕ) (r : List ℕ) → header_text h ++ r ≡ parity_word ++ (decimal h ++ (59 ∷ 10 ∷ r))
unfolding header_text
header-parts h r = simp append_assoc

pub header_sound : (ts : List ℕ) (h : Front ℕ) → read_header ts ≡ some h → ts ≡ header_text h.value ++ h.rest
unfolding read_header
header_sound ts h e =
    let (u, e1, f1) = then_some (read_bytes parity_word ts) _ h e in
    let (n, e2, f2) = then_some (read_field 59 u) _ h f1 in
    let (r, e3, f3) = then_some (read_byte 10 n.rest) _ h f2 in
    bytes_sound parity_word ts u e1
    ∙ ap (λ (l : List ℕ). parity_word ++ l)
    (field_sound 59 u n e2 ∙ ap (λ (l : List ℕ). decimal n.value ++ (59 ∷ l)) (byte_sound 10 n.rest r e3))
    ∙ sym (header-parts n.value r)
    ∙ ap (λ (m : Front ℕ). header_text m.value ++ m.rest) (some_same f3)

pub header_read : (h : ℕ) (r : List ℕ) → read_header (header_text h ++ r) ≡ some (front h r)
unfolding read_header
header_read h r =
    ap read_header (header-parts h r)
    ∙ then-read _ (decimal h ++ (59 ∷ 10 ∷ r)) (bytes_read parity_word (decimal h ++ (59 ∷ 10 ∷ r)))
    ∙ then-read _ (front h (10 ∷ r)) (field-read 59 h (10 ∷ r) semicolon_no_digit)
    ∙ then-read _ r (byte-read 10 r)

-- what is parsed, the text says
pub parse_says : (bytes : List ℕ) (t : SolverText) → parse bytes ≡ some t → HasForm bytes t
unfolding parse spelled
parse_says bytes t e =
    let (h, e1, f1) = then_some (read_header bytes) _ t e in
    let (ls, e2, f2) = then_some (read_lines (length h.rest) h.rest) _ t f1 in
    let q : record { highest = h.value; lines = ls } ≡ t = some_same f2 in
    let (a, b) = lines_sound (length h.rest) h.rest ls e2 in
    record {
      spelling = header_sound bytes h e1 ∙ ap (λ (l : List ℕ). header_text h.value ++ l) a ∙ ap spelled q;
      proper = subst (λ (u : SolverText). (l : SolverLine) → In l u.lines → ProperLine l) q b;
    }

-- what the text says, is parsed
pub says_parse : (bytes : List ℕ) (t : SolverText) → HasForm bytes t → parse bytes ≡ some t
unfolding parse spelled
says_parse bytes t s =
    ap parse s.spelling
    ∙ then-read _ (front t.highest (lines_text t.lines)) (header_read t.highest (lines_text t.lines))
    ∙ then-read _ t.lines (lines_read (length (lines_text t.lines)) t.lines (lines_long t.lines) s.proper)

-- a text has the form in at most one way: also the names and their absence are told
pub form_once : (bytes : List ℕ) (t u : SolverText) → HasForm bytes t → HasForm bytes u → t ≡ u
form_once bytes t u s r = some_same (sym (says_parse bytes t s) ∙ says_parse bytes u r)
