-- THE CLAIMS OF ONE CALL, because accepted bytes are those of a tree, and the joined bytes are those of the tree of both. Assumes nothing.
use Rattle.std.specs.Prelude.{Result, Ok, Err}
use mathlib.Core.Path.{◌≡◌, refl, sym, ap₂, ◌∙◌}
use mathlib.Core.Option.{none, some}
use mathlib.Core.List.{List, ◌++◌}
use Prim.Native.Nat.{ℕ, ◌+◌}
use native.Mathlib.Omega.{arith}
use lib.ListN.{length, drop, length-append, length-drop}
use lib.Seq.{drop_at}
use Rattle.words.specs.Le.{Bytes}
use Rattle.words.specs.declared.Refusal.{Refusal}
use Rattle.layout.specs.Layout.{Row, file_rows, xorb_rows}
use Rattle.layout.proofs.Lists.{joined_append}
use Rattle.layout.proofs.Last.{spelling}
use Rattle.join.specs.Join.{joined_bytes, join_of, buffer_by, buffer_of}
use Rattle.join.specs.Claims.{join_tree, result_of, of_file, of_xorb, records_in, Joinable, JoinClaim, BufferClaim}
use Rattle.join.proofs.Sections.{length_both}
use Rattle.join.proofs.Exactly.{answer_is, written, writes, spells_both}
use Rattle.join.proofs.Results.{joinable_of, trees, result_there}
use Rattle.join.proofs.Records.{files_are, xorbs_are}

module _ (tag : List ℕ) (n32 : length tag ≡ 32) (b : Bytes tag) where
  -- ## One call

  all : (first second : List ℕ) (room size : ℕ) → Bytes first → Bytes second → join_of tag first second room ≡ Ok size → Joinable tag first × Joinable tag second × Joinable tag (joined_bytes tag first second)
  all first second room size y1 y2 e =
      let k = trees tag n32 b first second room size y1 y2 e in (
        joinable_of tag first k.s k.of_first k.wrote.joins.first,
        joinable_of tag second k.t k.of_second k.wrote.joins.second,
        joinable_of tag (joined_bytes tag first second) (join_tree k.s k.t) k.result refl,
      )

  sum : (first second : List ℕ) (room size : ℕ) → Bytes first → Bytes second → join_of tag first second room ≡ Ok size → (length (joined_bytes tag first second) ≡ size) × (size + 144 ≡ length first + length second)
  sum first second room size y1 y2 e =
      let k = trees tag n32 b first second room size y1 y2 e in
      (k.result.size ∙ sym k.wrote.long, omega (arith, k.wrote.long, k.of_first.size, k.of_second.size, length_both k.s k.t k.wrote.joins.first k.wrote.joins.second))

  files : (first second : List ℕ) (room size : ℕ) → Bytes first → Bytes second → join_of tag first second room ≡ Ok size
      → records_in of_file tag (joined_bytes tag first second) ≡ records_in of_file tag first ++ records_in of_file tag second
  files first second room size y1 y2 e =
      let k = trees tag n32 b first second room size y1 y2 e in
      files_are tag (joined_bytes tag first second) (join_tree k.s k.t) k.result refl
      ∙ joined_append file_rows k.s.files k.t.files
      ∙ sym (ap₂ (λ (x y : List Row). x ++ y) (files_are tag first k.s k.of_first k.wrote.joins.first) (files_are tag second k.t k.of_second k.wrote.joins.second))

  xorbs : (first second : List ℕ) (room size : ℕ) → Bytes first → Bytes second → join_of tag first second room ≡ Ok size
      → records_in of_xorb tag (joined_bytes tag first second) ≡ records_in of_xorb tag first ++ records_in of_xorb tag second
  xorbs first second room size y1 y2 e =
      let k = trees tag n32 b first second room size y1 y2 e in
      xorbs_are tag (joined_bytes tag first second) (join_tree k.s k.t) k.result refl
      ∙ joined_append xorb_rows k.s.xorbs k.t.xorbs
      ∙ sym (ap₂ (λ (x y : List Row). x ++ y) (xorbs_are tag first k.s k.of_first k.wrote.joins.first) (xorbs_are tag second k.t k.of_second k.wrote.joins.second))

  pub join_claim : JoinClaim tag
  join_claim = record {
    answer = λ first second s t x y. answer_is tag b first second s t (spelling tag n32 b first s x) (spelling tag n32 b second t y);
    exactly = λ first second s t x y room n. (
      written tag b first second s t (spelling tag n32 b first s x) (spelling tag n32 b second t y) room n,
      writes tag b first second s t (spelling tag n32 b first s x) (spelling tag n32 b second t y) room n,
    );
    spells = λ first second s t x y f. spells_both tag b first second s t (spelling tag n32 b first s x) (spelling tag n32 b second t y) f;
    all = all;
    sum = sum;
    files = files;
    xorbs = xorbs;
  }

  -- ## The buffer

  refused : (first second buffer : List ℕ) (r : Refusal) → join_of tag first second (length buffer) ≡ Err r → (buffer_of tag first second buffer ≡ buffer) × (result_of tag first second buffer ≡ none)
  unfolding buffer_of result_of
  refused first second buffer r e = rw e (refl, refl)

  past : (first second buffer : List ℕ) (n : ℕ) → Bytes first → Bytes second → join_of tag first second (length buffer) ≡ Ok n → drop n (buffer_of tag first second buffer) ≡ drop n buffer
  unfolding buffer_of
  past first second buffer n y1 y2 e = rw e (drop_at (joined_bytes tag first second) (drop n buffer) n (sum first second (length buffer) n y1 y2 e).0)

  result : (first second buffer : List ℕ) (n : ℕ) → Bytes first → Bytes second → join_of tag first second (length buffer) ≡ Ok n → result_of tag first second buffer ≡ some (joined_bytes tag first second)
  result first second buffer n y1 y2 e =
      let k = trees tag n32 b first second (length buffer) n y1 y2 e in
      result_there tag n32 b first second buffer k.s k.t k.of_first k.of_second k.wrote.joins (omega (arith, k.wrote.long, k.wrote.fits))

  same_length : (first second buffer : List ℕ) → Bytes first → Bytes second → length (buffer_of tag first second buffer) ≡ length buffer
  unfolding buffer_of
  same_length first second buffer y1 y2 = go (join_of tag first second (length buffer)) refl
    where
      go : (a : Result ℕ Refusal) → join_of tag first second (length buffer) ≡ a → length (buffer_by a (joined_bytes tag first second) buffer) ≡ length buffer
      go (Err r) e = refl
      go (Ok n) e =
          let k = trees tag n32 b first second (length buffer) n y1 y2 e in
          length-append (joined_bytes tag first second) (drop n buffer) ∙ omega (arith, length-drop n buffer, (sum first second (length buffer) n y1 y2 e).0, k.wrote.fits)

  pub buffer_claim : BufferClaim tag
  buffer_claim = record { refused = refused; past = past; result = result; same_length = same_length }
