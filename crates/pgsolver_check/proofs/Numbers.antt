-- How the lines are numbered with one line more. Assumes nothing.
use mathlib.Core.Path.{◌≡◌, refl, sym, ap, ◌∙◌}
use mathlib.Core.Bool.{Bool, true, false, ◌&&◌, true≢false, false≢true}
use Rattle.pgsolver_check.specs.declared.Numbering.{Numbering}
use Rattle.pgsolver_check.specs.declared.Numbering.TheVariants.{InOrder, Different, Repeated}
use Rattle.pgsolver_check.specs.Numbers.{in_turn, apart, numbered_on}

pub numbered_turn : (n : Numbering) (again next : Bool) → apart (numbered_on n again next) ≡ true
    → in_turn (numbered_on n again next) ≡ (in_turn n && next)
unfolding numbered_on in_turn apart
numbered_turn n true next e = absurd (false≢true e)
numbered_turn InOrder false true e = refl
numbered_turn InOrder false false e = refl
numbered_turn Different false next e = refl
numbered_turn Repeated false next e = absurd (false≢true e)

pub numbered_new : (n : Numbering) (again next : Bool) → apart (numbered_on n again next) ≡ true
    → (apart n ≡ true) × (again ≡ false)
unfolding numbered_on in_turn apart
numbered_new n true next e = absurd (false≢true e)
numbered_new InOrder false next e = (refl, refl)
numbered_new Different false next e = (refl, refl)
numbered_new Repeated false next e = absurd (false≢true e)

pub numbered_again : (n : Numbering) (again next : Bool) → apart (numbered_on n again next) ≡ false
    → apart n ≡ true → again ≡ true
unfolding numbered_on in_turn apart
numbered_again n true next e f = refl
numbered_again InOrder false true e f = absurd (true≢false e)
numbered_again InOrder false false e f = absurd (true≢false e)
numbered_again Different false next e f = absurd (true≢false e)
numbered_again Repeated false next e f = absurd (false≢true f)

module _ (n : Numbering) {m : Numbering} (again next : Bool) (e : m ≡ numbered_on n again next) where
  pub turn_after : apart m ≡ true → in_turn m ≡ (in_turn n && next)
  turn_after f = ap in_turn e ∙ numbered_turn n again next (sym (ap apart e) ∙ f)

  pub new_after : apart m ≡ true → (apart n ≡ true) × (again ≡ false)
  new_after f = numbered_new n again next (sym (ap apart e) ∙ f)

  pub again_after : apart m ≡ false → apart n ≡ true → again ≡ true
  again_after f g = numbered_again n again next (sym (ap apart e) ∙ f) g
