-- The first 48 bytes are there.
use Rattle.std.proofs.Common.{arith, sym, length-take-le}
use Rattle.replay.proofs.RecordFromArrayU8304.from.Goals as goal

pub slice_bounds-read_words-end : goal.slice_bounds-read_words-end
slice_bounds-read_words-end c = sym (length-take-le 48 c.args.bytes (omega arith))

pub read_words-requires : goal.read_words-requires
read_words-requires c = omega (arith, length-take-le 48 c.args.bytes (omega arith))
