use mathlib.Core.Path.{refl}
use native.Mathlib.Omega.{arith}
use Rattle.settling.proofs.Marking.{mark_raises, once_early}
use Rattle.settling.proofs.target_once.Goals as goal

pub raise_count-requires : goal.raise_count-requires
raise_count-requires g c =
    let it =
    mark_raises _ _ _ _ _ _ _ _ c.requires.0.0 c.requires.0.2 refl refl
    (c.requires.1 c.in-State.is) _ c.region_word-mark.ensures.at_place c.if-operand-mark.true in
    record { inside = it.0; can_rise = it.1 }

pub returns-then-operand-mark : goal.returns-then-operand-mark
returns-then-operand-mark g c =
    λ w₀ c₀ ks same k.
    once_early _ _ _ _ _ c.requires.0.0 _ _ c.requires.0.2.apart _ refl c.in-State.is
    (c.requires.1 c.in-State.is) w₀ c₀ ks k _ _ c.region_word-mark.ensures.at_place
    (omega (arith, same, c.if-operand-mark.true)) c.raise_count.ensures
