-- As many are kept as are reached.
use mathlib.Core.Path.{sym}
use Rattle.restrictions.proofs.Kept.{kept_length}
use Rattle.reachability.proofs.ReachedVertices.count.Goals as goal

pub returns : goal.returns
returns c = sym (kept_length c.args.self.now.game.words.now c.args.self.now.vertices.now)
