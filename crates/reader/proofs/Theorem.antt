-- ALL CLAIMS about the reader, each from its own file, because every begun reader stands for a state of the theory. Assumes nothing.
use mathlib.Core.Path.{◌≡◌, sym, ◌∙◌}
use mathlib.Core.List.{List}
use Prim.Native.Nat.{ℕ, suc, ◌≤◌}
use native.Mathlib.Omega.{arith}
use lib.ListN.{length}
use Rattle.words.specs.Le.{Bytes}
use Rattle.reader.specs.Readings.{Begun, SomeTaken, EnoughClaim, ReaderClaim}
use Rattle.reader.specs.declared.Reader.{Reader}
use Rattle.carry.proofs.Sizes.{size_most}
use Rattle.reader.proofs.Calls.{no_more, some_more, empty_step, refuses}
use Rattle.reader.proofs.Reached.{stands, kept}
use Rattle.reader.proofs.Cut.{offers_run, cut, any_calls}

enough : (r : Reader) → Begun r → (piece : List ℕ) → Bytes piece → EnoughClaim r piece
enough r b piece y n l =
    let k = stands b in
    rw k.same (offers_run k.tag n k.state piece k.standing y l ∙ sym (offers_run k.tag (suc (length piece)) k.state piece k.standing y (omega arith)))

takes : (r : Reader) → Begun r → (piece : List ℕ) → SomeTaken r piece
takes r b piece d l =
    let f = (kept r b).fits in
    some_more r piece (grind arith) l

few : (r : Reader) → Begun r → r.stand.have ≤ 200
few r b =
    let f = (kept r b).fits in
    let m = size_most r.stand.place.due in
    grind arith

pub reader : ReaderClaim
reader = record { cut = cut; calls = any_calls; kept = kept; enough = enough; takes = takes; empty = λ r b. empty_step r (kept r b).fits; most = no_more; refused = refuses; few = few }

-- ONLY: what is said to be one thing is one thing; so two results of a function that promises `r ≡ X` are equal
pub only : {A : Type 0} {x y : A} (z : A) → x ≡ z → y ≡ z → x ≡ y
only z p q = p ∙ sym q
