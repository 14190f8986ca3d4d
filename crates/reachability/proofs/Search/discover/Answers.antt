-- A vertex whose number is UNREACHED is new.
use native.Mathlib.Omega.{arith}
use mathlib.Core.Path.{refl}
use lib.ListN.{length-set}
use Rattle.reachability.proofs.Meeting.{fresh, old}
use Rattle.reachability.proofs.Search.discover.Goals as goal

pub bounds-self-self : goal.bounds-self-self
bounds-self-self c =
    omega (arith, (fresh _ _ _ _ c.requires.ready c.requires.is_vertex c.if-self-place.true).room)

pub returns-then-self-place : goal.returns-then-self-place
returns-then-self-place c =
    let m = fresh _ _ _ _ c.requires.ready c.requires.is_vertex c.if-self-place.true in
    record {
      same_mapping = refl;
      same_work = refl;
      long = length-set _ _ _;
      ready = m.knows;
      known = m.known;
    }

pub returns-else-self-place : goal.returns-else-self-place
returns-else-self-place c =
    record {
      same_mapping = refl;
      same_work = refl;
      long = refl;
      ready = c.requires.ready;
      known = old _ _ _ _ c.requires.ready c.requires.is_vertex c.if-self-place.false;
    }
