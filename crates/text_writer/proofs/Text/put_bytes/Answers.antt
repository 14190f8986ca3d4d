-- `put_bytes` meets its contract. Assumes nothing.
use mathlib.Core.Path.{refl}
use Rattle.std.proofs.Common.{rules}
use Rattle.std.proofs.lemmas.Slice.{overwrites}
use Rattle.text_writer.proofs.Text.put_bytes.Goals as goal

pub returns : goal.returns
returns c = record {
  same = refl;
  long = search (rules, overwrites);
  wrote = record { past = refl; words = search (rules, overwrites); rest = search (rules, overwrites) };
}
