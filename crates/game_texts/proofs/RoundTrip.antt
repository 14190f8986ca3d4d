-- The round trip (document 02, #101: "Writing a game that starts at 0 and reading it into room that holds it gives that
-- game with repeated edges removed"; #102: "the text's round trip now speaks only of what it shows": every count, and
-- with #105 every state and item, that comes back is 0), for every game that has no fault in writing. Assumes nothing.
use Prim.Native.Nat.{ℕ, suc, ◌-◌, ◌≤◌, ◌<◌}
use native.Mathlib.Omega.{arith}
use native.Mathlib.Decide.{ℕ_discrete}
use mathlib.Core.Path.{◌≡◌, refl, sym, ap, ◌∙◌, subst}
use mathlib.Core.Bool.{true}
use mathlib.Core.List.{List}
use lib.ListN.{length, take}
use lib.Dec.{ltb}
use borrow.Author.Tests.{lt-ltb, le-ltb}
use Rattle.rules.specs.declared.Answer.TheVariants.{Done}
use Rattle.std.specs.declared.result.Result.TheVariants.{Ok}
use Rattle.rules.specs.declared.Room.{Room}
use Rattle.rules.specs.Lists.{zeros, Distinct}
use Rattle.rules.specs.Words.{game_length, work_length}
use Rattle.rules.specs.Faulty.{FaultyRoom, wrong_game}
use Rattle.rules.specs.FaultyText.{FaultyWriting}
use Rattle.rules.specs.Game.{Vertex, edge_count, padded, vertex_count}
use Rattle.rules.specs.Game.{initial_in, priority_in, state_in, item_in, targets_in, counts_in}
use Rattle.rules.specs.Refusal.{refusal1, refusal2}
use Rattle.rules.specs.Texts.{Written}
use Rattle.rules.specs.PgsolverReading.{refusal93, Readback, read_as, read_game}
use Rattle.rules.specs.PgsolverWriting.{line_in, text_in, game_text, writing_refusal, written_game}
use Rattle.tables.proofs.Faults.{if-false, first_passed, then_both, then_passed}
use Rattle.tables.proofs.Order.{Rising, if_numbered, passed_exact}
use Rattle.tables.proofs.FaultyWords.{room_checks, room_sound, room_finds}
use Rattle.game_texts.specs.Repeats.{without_repeats, as_shown, Held, RepeatsRemoved, RoundTripped}
use Rattle.game_texts.specs.WritingCheck.{writing_check}
use Rattle.game_texts.proofs.Parsing.{says_parse}
use Rattle.game_texts.proofs.Exact.{all_made, in_word, passes92}
use Rattle.game_texts.proofs.Saying.{vertices_said, each_line, written_good, game_says}
use Rattle.game_texts.proofs.Saying.{said_passes, read_said}
use Rattle.game_texts.proofs.Shown.{shown-same}
use Rattle.game_texts.proofs.Removing.{once_length, repeats_removed, none_removed}
use Rattle.game_texts.proofs.WritingExact.{writing_passed}
use Rattle.game_texts.proofs.WritingDemands.{writing_done, writing_fits, padded-front}
use Rattle.game_texts.proofs.Readable.{Readable, readable_done}

-- ---- it is read back

module _ (g : List ℕ) (passed : writing_refusal g ≡ Ok tt) (r : Room) (held : Held g r)
    (room : refusal1 r ≡ Ok tt) where
  fits : refusal93 r (text_in g) ≡ Ok tt
  unfolding refusal93 text_in line_in
  fits =
      if-false 93 0
      (rw (
        le-ltb r.vertices (suc (vertex_count g - 1)) (omega (arith, held.vertices, (written_good g passed).some)),
        all_made in_word (text_in g).lines
            (each_line g (λ l. ltb l.priority 4_294_967_296 ≡ true)
            (λ v h. lt-ltb (priority_in g v) 4_294_967_296 (held.priorities v h))),
        vertices_said g,
        le-ltb r.edges (edge_count (without_repeats g)) held.edges,
      ) refl)

  said_readable : (n : ℕ) → n ≡ game_length r → Readable r (game_text g) n (text_in g)
  said_readable n long =
      record {
        parsed = says_parse (game_text g) (text_in g) (game_says g passed);
        room = room;
        long = long;
        numbered = passes92 (text_in g) (said_passes g passed);
        sized = fits;
      }

  -- also of a game that starts elsewhere: then where it starts is lost, too
  pub written_read : (text game : List ℕ) → length (game_text g) ≤ length text → length game ≡ game_length r
      → ((written_game g text).answer ≡ Done (length (game_text g)) 0 0)
      × (read_game r (take (length (game_text g)) (written_game g text).text) game ≡ read_as (without_repeats g) game)
  unfolding writing_check
  written_read text game fit long =
      let e = writing_done g text
      (then_passed _ passed ∙ if-false 2 0 (le-ltb (length text) (length (game_text g)) fit)) in (
        ap (λ (w : Written). w.answer) e,
        ap (λ (w : Written). read_game r (take (length (game_text g)) w.text) game) e
            ∙ ap (λ (bytes : List ℕ). read_game r bytes game) (padded-front (length text) (game_text g))
            ∙ readable_done r (game_text g) game (text_in g) (said_readable (length game) long)
            ∙ ap (λ (vs : List Vertex). read_as vs game) (read_said g passed),
      )

-- ---- the theorem

room_passed : (r : Room) (game : ℕ) → ((n p : ℕ) → ¬ FaultyRoom r game (work_length r) n p)
    → (refusal1 r ≡ Ok tt) × (game ≡ game_length r)
unfolding refusal1 refusal2
room_passed r game f = (
  first_passed _ ((passed_exact (λ k. k) (FaultyRoom r game (work_length r)) (room_checks r game (work_length r))
      (room_sound r game (work_length r)) (λ n q h. room_finds r game (work_length r) h) rising).1 f) 0,
  go (ℕ_discrete game (game_length r)),
)
  where
    rising : Rising (λ k. k) 0 (room_checks r game (work_length r))
    rising = (1, omega arith, if_numbered 1 0 _, (2, omega arith, if_numbered 2 0 _, tt))

    go : Dec (game ≡ game_length r) → game ≡ game_length r
    go (yes e) = e
    go (no e) = absurd (f 2 0 (wrong_game e))

module _ (g text : List ℕ) (r : Room) (game : List ℕ) (sound : (n p : ℕ) → ¬ FaultyWriting g (length text) n p)
    (start : initial_in g ≡ 0) (lent : (n p : ℕ) → ¬ FaultyRoom r (length game) (work_length r) n p)
    (held : Held g r) where
  checked : writing_check g (length text) ≡ Ok tt
  checked = (writing_passed g (length text)).1 sound

  accepted : writing_refusal g ≡ Ok tt
  unfolding writing_check
  accepted = (then_both (writing_refusal g) _ checked).0

  pub round_trip : RoundTripped g text r game
  unfolding read_as
  round_trip =
      let (room, long) = room_passed r (length game) lent in
      let (a, b) = written_read g accepted r held room text game (writing_fits g text checked) long in
      record {
        size = length (game_text g);
        writes = a;
        reads = ap (λ (k : Readback). k.answer) b
            ∙ ap (λ (n : ℕ). Done n n (edge_count (without_repeats g))) (once_length g);
        leaves = ap (λ (k : Readback). k.game) b;
        removed = subst (λ (k : Readback). RepeatsRemoved g k.game) (sym b) (repeats_removed g (length game) start);
      }

  -- a game without repeated edges comes back as the text shows it: but for states, items and counts, as it was
  pub round_trip_shown : ((v : ℕ) → v < vertex_count g → Distinct (targets_in g v))
      → (read_game r (take round_trip.size (written_game g text).text) game).game
      ≡ padded (length game) (as_shown g)
  round_trip_shown single =
      round_trip.leaves ∙ ap (padded (length game)) (none_removed g single)

  -- so if besides these are all 0, as in a game that was read from text, it comes back as it was
  pub round_trip_same : ((v : ℕ) → v < vertex_count g → Distinct (targets_in g v))
      → ((v : ℕ) → v < vertex_count g → (state_in g v ≡ 0) × (item_in g v ≡ 0))
      → ((v : ℕ) → v < vertex_count g → counts_in g v ≡ zeros (targets_in g v))
      → (read_game r (take round_trip.size (written_game g text).text) game).game ≡ padded (length game) g
  round_trip_same single zero_pair none =
      round_trip_shown single
      ∙ ap (padded (length game)) (shown-same g (written_good g accepted) start zero_pair none)
