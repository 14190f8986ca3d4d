-- What a run has compiled is what the walk asks for: the tables of the model are as they were before the items were
-- written. Assumes nothing.
use mathlib.Core.Path.{◌≡◌, sym, subst}
use Prim.Native.Nat.{ℕ}
use native.Mathlib.Omega.{arith}
use lib.ListN.{length}
use Rattle.rules.specs.Words.{Input}
use Rattle.rules.specs.Items.{items}
use Rattle.tables.specs.Good.{GoodInput}
use Rattle.arena.proofs.ItemNumbers.{items_few}
use Rattle.compiled.specs.declared.Compiled.{Compiled}
use Rattle.compiled.specs.Tables.{kinds_in, lefts_in, rights_in, classes_in, samples_in}
use Rattle.labels.specs.Classes.{Classes}
use Rattle.transitions.specs.Samples.{Samples}
use Rattle.item_table.specs.Entries.{ItemTable, ItemsOnly}
use Rattle.translate.specs.Runs.{Prepared}

pub prepared : (x : Input) (t t' : Compiled) (n : ℕ) → ItemsOnly t t' → GoodInput x
    → (Classes x.labels (classes_in t) × Samples x.system (samples_in t))
    → n ≡ length (items x) → ItemTable x (kinds_in t') (lefts_in t') (rights_in t') → Prepared x t' n
prepared x t t' n only good made e table =
    let classes = subst (Classes x.labels) (sym only.classes) made.0 in
    record {
      multisets = classes;
      few = omega (arith, e, items_few x good);
      tables = λ matched answers.
          record {
            input = good;
            multisets = classes;
            firsts = subst (Samples x.system) (sym only.samples) made.1;
            answers = answers;
            items = table;
          };
    }
