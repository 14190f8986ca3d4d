-- `write_out` meets its contract, by what the walk answered. Assumes nothing.
use mathlib.Core.Path.{refl, sym, subst}
use Rattle.std.proofs.Common.{rules}
use Rattle.rules.specs.Lists.{zeros}
use Rattle.translate.specs.Runs.{Writable, WroteOut}
use Rattle.translate.proofs.write_out.Goals as goal

pub write_game-requires : goal.write_game-requires
write_game-requires c =
    subst (Writable _ _ _) c.in-Ok.is c.requires

pub returns-then-counters-eq0 : goal.returns-then-counters-eq0
unfolding zeros
returns-then-counters-eq0 c =
    subst (WroteOut _ _ _ _ _ _ _ _) (sym c.in-Ok.is) (record {
      done = λ _. refl;
      cut = λ some. absurd (some c.if-counters-eq0.true);
      written = c.write_game.ensures;
      cleared = c.fill.ensures.after (λ y e. search rules);
    })

pub returns-else-counters-eq0 : goal.returns-else-counters-eq0
unfolding zeros
returns-else-counters-eq0 c =
    subst (WroteOut _ _ _ _ _ _ _ _) (sym c.in-Ok.is) (record {
      done = λ none. absurd (c.if-counters-eq0.false none);
      cut = λ _. refl;
      written = c.write_game.ensures;
      cleared = c.fill.ensures.after (λ y e. search rules);
    })

pub returns-in-Err : goal.returns-in-Err
unfolding zeros
returns-in-Err c =
    subst (WroteOut _ _ _ _ _ _ _ _) (sym c.in-Err.is) (refl, c.fill-in-Err.ensures.after (λ y e. search rules), c.fill-in-Err-2.ensures.after (λ y e. search rules))
