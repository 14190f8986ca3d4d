-- A search that goes on, one call after the other. Assumes nothing.
use mathlib.Core.Path.{◌≡◌, refl, ◌∙◌}
use mathlib.Core.List.{List}
use Prim.Native.Nat.{ℕ}
use Rattle.reachability.specs.declared.Search.{Search}
use Rattle.reachability.specs.Meets.{Ready, met_in, Met}

pub met_none : {s : Search} → Ready s → Met (met_in s) s s
met_none r = record { same_mapping = refl; same_work = refl; long = refl; ready = r; known = refl }

-- the same vertices, told otherwise
pub met_as : {xs ys : List ℕ} {s s' : Search} → xs ≡ ys → Met xs s s' → Met ys s s'
met_as e m =
    record {
      same_mapping = m.same_mapping;
      same_work = m.same_work;
      long = m.long;
      ready = m.ready;
      known = m.known ∙ e;
    }

pub met_more : {xs ys : List ℕ} {s s' s'' : Search} → Met xs s s' → Met ys s' s'' → Met (met_in s'') s s''
met_more m n =
    record {
      same_mapping = n.same_mapping ∙ m.same_mapping;
      same_work = n.same_work ∙ m.same_work;
      long = n.long ∙ m.long;
      ready = n.ready;
      known = refl;
    }
