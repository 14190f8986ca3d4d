-- `write_line` meets its contract: what the line says of the vertex is written, and its targets behind those before
-- it. Assumes nothing.
use Prim.Native.Nat.{◌-◌, ◌≤◌}
use native.Mathlib.Omega.{arith}
use mathlib.Core.Path.{◌∙◌}
use lib.ListN.{length, take, drop}
use Rattle.pgsolver_reader.proofs.Standing.{priority_stands, owner_stands}
use Rattle.pgsolver_reader.proofs.Writing.{part_few, turn_line, turn_priority, turn_owner, turn_listed}
use Rattle.pgsolver_reader.proofs.Writing.{turn_room, turn_wiping, turn_ends, turn_posts, turn_part}
use Rattle.pgsolver_reader.proofs.Putting.{Wiping}
use Rattle.pgsolver_reader.proofs.Source.write_line.Goals as goal
use Rattle.pgsolver_reader.proofs.Source.write_line.Goals.{After-put_list-written}

pub known_field-priority-requires : goal.known_field-priority-requires
known_field-priority-requires c = priority_stands c.requires.turn.0 c.args.self.now.whole

pub known_field-owner-requires : goal.known_field-owner-requires
known_field-owner-requires c =
    owner_stands c.requires.turn.0 c.known_field-priority.result c.known_field-priority.ensures

pub put_vertex-requires-clause-in_words : goal.put_vertex-requires-clause-in_words
put_vertex-requires-clause-in_words c =
    let owner = c.known_field-owner.result in
    let priority = c.known_field-priority.result in (
      (turn_owner c.args.self.now.whole c.requires.turn.0 c.requires.turn.1 c.requires.part.0
          priority.value priority.next c.known_field-priority.ensures owner.value owner.next
          c.known_field-owner.ensures).1,
      (turn_priority c.args.self.now.whole c.requires.turn.0 c.requires.turn.1 c.requires.part.0
          priority.value priority.next c.known_field-priority.ensures owner.value owner.next
          c.known_field-owner.ensures).1,
      omega (
        arith,
        part_few c.requires.part.0,
        c.args.self.now.few,
        c.game_words.ensures,
      ),
    )

pub put_list-written-requires-clause-listed : goal.put_list-written-requires-clause-listed
put_list-written-requires-clause-listed c =
    let owner = c.known_field-owner.result in
    let priority = c.known_field-priority.result in (
      turn_listed c.args.self.now.whole c.requires.turn.0 c.requires.turn.1 c.requires.part.0
          priority.value priority.next c.known_field-priority.ensures owner.value owner.next
          c.known_field-owner.ensures,
      c.requires.part.1,
    )

pub put_list-written-requires-clause-fits : goal.put_list-written-requires-clause-fits
put_list-written-requires-clause-fits c =
    let owner = c.known_field-owner.result in
    let priority = c.known_field-priority.result in
    omega (
      arith,
      turn_room c.args.self.now.whole c.requires.turn.0 c.requires.turn.1 c.requires.part.0
          priority.value priority.next c.known_field-priority.ensures owner.value owner.next
          c.known_field-owner.ensures,
      c.put_vertex.auto.game,
    )

-- the targets end behind those before them, within the game
ends : (c : After-put_list-written)
    → (c.args.start ≤ c.put_list-written.result.end)
    × (c.put_list-written.result.end ≤ length c.put_list-written.new.game)
ends c =
    let owner = c.known_field-owner.result in
    let priority = c.known_field-priority.result in
    turn_ends c.args.self.now.whole c.requires.turn.0 c.requires.turn.1 c.requires.part.0
    priority.value priority.next c.known_field-priority.ensures owner.value owner.next
    c.known_field-owner.ensures
    c.game_words.ensures c.put_vertex.ensures c.put_list-written.ensures.wrote c.put_list-written.auto.game

pub offset_bounds-game-start : goal.offset_bounds-game-start
offset_bounds-game-start c = omega (arith, c.game_words.ensures, part_few c.requires.part.0, c.args.self.now.few)

pub slice_bounds-wipe_all-end : goal.slice_bounds-wipe_all-end
slice_bounds-wipe_all-end c =
    let e = ends (goal.at.slice_bounds-wipe_all-end c).After-put_list-written in
    omega (arith, e.0, e.1)

-- the bitmap is emptied by the words that were just written
wiping : (c : After-put_list-written)
    → Wiping (take (c.put_list-written.result.end - c.args.start) (drop c.args.start c.put_list-written.new.game))
    c.put_list-written.new.bits
wiping c =
    let owner = c.known_field-owner.result in
    let priority = c.known_field-priority.result in
    turn_wiping c.args.self.now.whole c.requires.turn.0 c.requires.turn.1 c.requires.part.0
    priority.value priority.next c.known_field-priority.ensures owner.value owner.next
    c.known_field-owner.ensures
    c.game_words.ensures c.put_vertex.ensures c.put_list-written.ensures.wrote c.put_list-written.auto.game
    c.put_list-written.ensures.holds

pub wipe_all-requires-clause-small : goal.wipe_all-requires-clause-small
wipe_all-requires-clause-small c = (wiping (goal.at.wipe_all-requires-clause-small c).After-put_list-written).small

pub wipe_all-requires-clause-only : goal.wipe_all-requires-clause-only
wipe_all-requires-clause-only c = (wiping (goal.at.wipe_all-requires-clause-only c).After-put_list-written).only

pub returns-clause-written : goal.returns-clause-written
returns-clause-written c =
    let owner = c.known_field-owner.result in
    let priority = c.known_field-priority.result in
    turn_part c.args.self.now.whole c.requires.turn.0 c.requires.turn.1 c.requires.part.0
    priority.value priority.next c.known_field-priority.ensures owner.value owner.next
    c.known_field-owner.ensures
    c.game_words.ensures c.put_vertex.ensures c.put_list-written.ensures.wrote c.put_list-written.auto.game

pub returns-clause-same_line : goal.returns-clause-same_line
returns-clause-same_line c =
    let owner = c.known_field-owner.result in
    let priority = c.known_field-priority.result in
    turn_line c.args.self.now.whole c.requires.turn.0 c.requires.turn.1 c.requires.part.0
    priority.value priority.next c.known_field-priority.ensures owner.value owner.next
    c.known_field-owner.ensures ∙ c.put_list-written.ensures.same_line

pub returns-clause-posts_kept : goal.returns-clause-posts_kept
returns-clause-posts_kept c =
    let owner = c.known_field-owner.result in
    let priority = c.known_field-priority.result in
    turn_posts c.args.self.now.whole c.requires.turn.0 c.requires.turn.1 c.requires.part.0
    priority.value priority.next c.known_field-priority.ensures owner.value owner.next
    c.known_field-owner.ensures
    c.game_words.ensures c.put_vertex.ensures c.put_list-written.ensures.wrote c.put_list-written.auto.game
