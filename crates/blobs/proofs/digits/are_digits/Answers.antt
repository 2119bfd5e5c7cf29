-- `are_digits` meets its contract: what the fold has found of the bytes so far is what the test of these says. Assumes nothing.
use Rattle.std.proofs.Common.{rules, ◌≡◌, sym}
use Rattle.std.proofs.lemmas.Fn.{fold_over, fronts, slice_gives}
use Rattle.blobs.specs.Blobs.{are_digits}
use Rattle.blobs.proofs.Heads.{digits_none, digits_push}
use Rattle.blobs.proofs.digits.are_digits.Goals as goal

pub returns : goal.returns
returns c =
    fold_over fronts (λ y. y.now) _ (λ ys found. found ≡ are_digits ys) _ (λ ys a x b f' j k. search (rules, digits_push, j)) c.iter.result c.args.s.now _ c.fold.result (rw (sym c.iter.ensures.rest) (slice_gives c.iter.result)) digits_none c.fold.ensures.ran
