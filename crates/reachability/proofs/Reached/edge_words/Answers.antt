-- The vertex is one of the game, and has as many edges there as here.
use mathlib.Core.Path.{refl}
use Rattle.reachability.proofs.Stretches.{reached_below, reached_inside, degree_at}
use Rattle.reachability.proofs.Reached.edge_words.Goals as goal

pub bounds-self-vertex : goal.bounds-self-vertex
bounds-self-vertex c = reached_below _ _ _ c.requires.1

pub edge_words-requires : goal.edge_words-requires
edge_words-requires c =
    (c.requires.0, reached_inside _ _ c.args.self.now.chosen _ _ c.requires.1 refl)

pub returns-clause-many : goal.returns-clause-many
returns-clause-many c =
    degree_at _ _ c.args.self.now.chosen c.args.column c.args.vertex.0 _ _ c.requires.0 c.requires.1 refl
    c.edge_words.ensures
