-- The words stand between two places of the game.
use native.Mathlib.Omega.{arith}
use borrow.Author.Rules.{rules}
use Rattle.parity_game.proofs.Readable.{place_small, edges_within, cut_words}
use Rattle.parity_game.proofs.Game.edge_words.Goals as goal

pub offset_bounds-self-first : goal.offset_bounds-self-first
offset_bounds-self-first c =
    omega (
      arith,
      place_small c.args.self.now.words.now c.args.self.now.readable c.args.column c.args.vertex _ c.requires.0
          c.requires.1 c.edges_from-first.ensures,
    )

pub slice_bounds-result-end : goal.slice_bounds-result-end
slice_bounds-result-end c =
    let within = edges_within c.args.self.now.words.now c.args.self.now.readable c.args.column c.args.vertex
    c.requires.0 c.requires.1 in
    search rules

pub returns : goal.returns
returns c =
    cut_words c.args.self.now.words.now c.args.self.now.readable c.args.column c.args.vertex _ _ c.requires.0
    c.requires.1 c.edges_from-first.ensures c.edges_from-end.ensures
