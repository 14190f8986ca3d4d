-- The search for a key, along its buckets and along all slots. Assumes nothing.
use Rattle.std.proofs.Common.{◌≡◌, ℕ, ◌<◌, List, length, sym, ◌∙◌, subst, arith}
use native.Mathlib.Decide.{dec_lt, ℕ_discrete}
use Rattle.std.specs.declared.option.Option.{Option}
use Rattle.std.specs.declared.option.Option.TheVariants.{Some, None}
use Rattle.rules.specs.Lists.{word}
use Rattle.pairs.specs.declared.Place.{Place}
use Rattle.pairs.specs.declared.Place.TheVariants.{Known, Free}
use Rattle.pairs.specs.Slot.{probe_sequence}
use Rattle.pairs.specs.Table.{slot_count, slots_of, key_in, held_in, keys_of, Path, Table}
use Rattle.pairs.specs.Answers.{Others, Has, Ends, Probed, Finding}
use Rattle.pairs.proofs.Filled.{length-keys_in, path_inside, found_at, absent, crowded}
use Rattle.pairs.proofs.Orders.{order_inside, order_whole}

module _ (w : List ℕ) (v n k : ℕ) (t : Table w v n) where
  abbrev slots : List ℕ
  slots = slots_of w v

  abbrev order : List ℕ
  order = probe_sequence k (slot_count v)

  long : length (keys_of w v n) ≡ n
  long = length-keys_in _ n

  known : (i : ℕ) → Has slots order k i → Finding w v n k (Some (Known (record { 0 = i })))
  known i f = found_at slots (keys_of w v n) v n t.slots long (word order f.place) k i (order_inside k (slot_count v) f.place f.inside) f.key f.holds

  -- the first empty slot: what is known stands before it, and has another key
  free : (p : ℕ) → Ends slots order k p → Finding w v n k (Some (Free p))
  free p f =
      record {
        new = absent slots (keys_of w v n) v n t.slots long k none;
        within = path_inside k p f.path;
        path = f.path;
        empty = f.empty;
      }
    where
      none : (q : ℕ) → Path slots order q → 0 < held_in slots q → key_in slots q ≡ k → ⊥
      none q a held key = elim (dec_lt a.place f.path.place) [ yes l ↦ f.other a.place l (rw a.there key) | no m ↦ behind m ]
        where
          behind : (a.place < f.path.place → ⊥) → ⊥
          behind m =
              elim (ℕ_discrete a.place f.path.place) [
                | yes e ↦ (let g : q ≡ p = sym a.there ∙ subst (λ (x : ℕ). word order x ≡ p) (sym e) f.path.there in let z : held_in slots q ≡ 0 = rw g f.empty in omega arith)
                | no d ↦ (let z : 0 < held_in slots p = subst (λ (x : ℕ). 0 < held_in slots x) f.path.there (a.before f.path.place (omega arith)) in omega (arith, f.empty))
              ]

  -- no empty slot
  nowhere : Others slots order k → Finding w v n k None
  nowhere f = (
    absent slots (keys_of w v n) v n t.slots long k (λ q a held key. f.other a.place a.inside (rw a.there key)),
    crowded slots (keys_of w v n) v n t.slots long (order_whole (λ (p : ℕ). 0 < held_in slots p) k (slot_count v) f.taken),
  )

  pub found : (r : Option Place) → Probed slots order k r → Finding w v n k r
  found (Some (Known i)) q = known i.0 q
  found (Some (Free p)) q = free p q
  found None q = nowhere q
