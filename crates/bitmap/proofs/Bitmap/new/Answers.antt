-- `new` meets its contract: the words are zeros. Assumes nothing.
use Rattle.bitmap.proofs.Sets.{all-zeros}
use Rattle.bitmap.proofs.Bitmap.new.Goals as goal

pub returns : goal.returns
returns c = all-zeros
