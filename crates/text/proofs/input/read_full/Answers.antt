-- What one more read gave stands in the buffer behind what was read before it.
use Rattle.std.proofs.Common.{◌≡◌, ℕ, ◌+◌, ◌≤◌, List, ◌++◌, rules, length, take, refl, sym, subst, le_refl, drop_at, length-take-le}
use Rattle.std.proofs.lemmas.Slice.{take-put_mid_below}
use Rattle.std.specs.Io.KnownBytes.{Consumes}
use Rattle.std.proofs.KnownBytes.{Consumes-trans}
use borrow.Rule.Slice.PartMut.{put_mid, post_of}
use lib.Seq.{take-add, take-append-le}
use Rattle.text.proofs.input.read_full.Goals as goal

take_read : (a k n : ℕ) (xs ys : List ℕ) → a ≤ length xs → n ≤ length ys → take (a + n) (put_mid a k xs ys) ≡ take a xs ++ take n ys
take_read a k n xs ys within fits =
    rw (take-add a n (put_mid a k xs ys), take-put_mid_below a k xs ys a (le_refl a) within, drop_at (take a xs) (ys ++ post_of a k xs) a (length-take-le a xs within), take-append-le n ys (post_of a k xs) fits) refl

pub loop-size-preserved : goal.loop-size-preserved
loop-size-preserved g c =
    let so_far = c.loop-size.invariant in
    let read = c.in-Ok.ensures in
    (search rules, search rules, subst (Consumes _ _) (sym (take_read _ _ _ _ _ so_far.1 read.bound.0)) (Consumes-trans _ _ _ _ _ so_far.2 read.bytes.0))
