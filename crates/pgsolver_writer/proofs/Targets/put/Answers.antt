use mathlib.Core.Path.{ap}
use native.Mathlib.Omega.{arith}
use Rattle.text_writer.proofs.Appending.{appended_as}
use Rattle.pgsolver_writer.specs.Successors.{spaced_list}
use Rattle.pgsolver_writer.proofs.Turns.{listing_start, listing_room, listing_more, first_all, only_first}
use Rattle.pgsolver_writer.proofs.Targets.put.Goals as goal

pub loop-target-init : goal.loop-target-init
loop-target-init c = listing_start c.args.self.words.now c.requires.holds

pub put_successor-separator-requires : goal.put_successor-separator-requires
put_successor-separator-requires c =
    let small = c.args.self.vertices.small c.loop-target.target-index (omega arith) in
    record {
      small = omega (arith, small);
      room =
          listing_room c.args.self.words.now c.loop-target.target-index (omega arith) c.loop-target.invariant
          c.requires.room;
    }

pub loop-target-preserved : goal.loop-target-preserved
loop-target-preserved c =
    let put = c.put_successor-separator.ensures in
    listing_more c.args.self.words.now c.loop-target.target-index (omega arith) c.loop-target.invariant put.wrote put.next
    put.met

pub empty-requires : goal.empty-requires
empty-requires c =
    let listed = c.loop-target.invariant in
    only_first c.args.self.words.now c.loop-target.target-index c.loop-target-test.false listed.holds

pub returns : goal.returns
returns c =
    let all = first_all c.args.self.words.now c.loop-target.target-index c.loop-target-test.false in
    record { wrote = appended_as (ap spaced_list all) c.loop-target.invariant.wrote; emptied = c.empty.ensures }
