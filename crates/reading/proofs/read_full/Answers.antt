-- The bytes that one more read gives stand behind those that the buffer holds.
use Rattle.std.proofs.Common.{◌≡◌, ℕ, ◌+◌, ◌-◌, ◌≤◌, List, ◌++◌, rules, length, take, sym, ap, ◌∙◌, subst, le_refl, drop_at, length-take-le}
use Rattle.std.proofs.lemmas.Slice.{take-put_mid_below}
use Rattle.std.specs.Io.KnownBytes.{Consumes}
use Rattle.std.proofs.KnownBytes.{Consumes-trans}
use borrow.Rule.Slice.PartMut.{put_mid, post_of}
use lib.Seq.{take-add, take-append-le}
use Rattle.reading.proofs.read_full.Goals as goal

-- a part put in at a behind what stands before: the first a + n are the first a, then the part's first n
front_more : (a k n : ℕ) (xs ys : List ℕ) → a ≤ length xs → n ≤ length ys
    → take a xs ++ take n ys ≡ take (a + n) (put_mid a k xs ys)
front_more a k n xs ys within fits =
    let all = put_mid a k xs ys in
    let before = take-put_mid_below _ _ _ _ _ (le_refl _) within in
    let part = ap (take n) (drop_at (take a xs) (ys ++ post_of a k xs) a (length-take-le a xs within))
    ∙ take-append-le n ys (post_of a k xs) fits in
    ap (λ l. l ++ take n ys) (sym before) ∙ ap (λ l. take a all ++ l) (sym part) ∙ sym (take-add a n all)

pub loop-count-preserved : goal.loop-count-preserved
loop-count-preserved g c =
    let before = c.loop-count.invariant in
    let read = c.in_ok-more.ensures in
    let room = length c.loop-count.buffer - c.loop-count.count in
    let joined = front_more c.loop-count.count room c.in_ok-more.more c.loop-count.buffer c.read.new.buf before.1
    read.bound.0 in
    (search rules, search rules, subst (Consumes _ _) joined (Consumes-trans _ _ _ _ _ before.2 read.bytes.0))
