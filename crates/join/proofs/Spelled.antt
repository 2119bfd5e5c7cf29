-- Where the xorb offset of a shard lies, and the bytes of one without footer, section by section, because its rows are spelled one after the other.
-- Assumes nothing.
use mathlib.Core.Path.{◌≡◌, ◌∙◌}
use mathlib.Core.Option.{Option, none}
use mathlib.Core.List.{List, [], ◌∷◌, ◌++◌, append_assoc, append-nil}
use Prim.Native.Nat.{ℕ}
use native.Mathlib.Omega.{arith}
use Rattle.words.specs.Le.{Bytes}
use Rattle.words.specs.Record.{hash_at, spell_words}
use Rattle.words.proofs.Numbers.{bytes_none, bytes_append}
use Rattle.words.proofs.Records.{words_bytes}
use Rattle.rules.specs.declared.Kind.TheVariants as kind
use Rattle.layout.specs.Layout.{Foot, Shard, Row, row, if_any, joined, spell_foot, header_row, file_rows, xorb_rows, bookend, rows_of, file_section, xorb_section, spell_rows, xorb_offset, footer_offset, bytes_of}
use Rattle.layout.proofs.ShardForth.{length_files, length_of_lem}
use Rattle.layout.proofs.Last.{Spelling}
use Rattle.layout.proofs.Lists.{spell_append}
use Rattle.join.specs.Join.{Parted, offset_in}

-- ## Its offset

-- its offset lies between its two bookends
pub parted : (tag bytes : List ℕ) (s : Shard) → Spelling tag bytes s → Parted bytes (offset_in tag bytes)
unfolding xorb_offset
parted tag bytes s o = record {
  behind = omega (arith, o.offset, length_files s);
  before = omega (arith, o.offset, o.size, length_of_lem s, length_files s);
  short = omega (arith, o.size, o.spells.sound.short);
}

-- ## Its sections

-- the 48 bytes of a header without footer, those of the files, of a bookend, and of the xorbs
abbrev pub head_bytes : List ℕ → List ℕ
head_bytes tag = spell_words (row kind.Header (hash_at tag 0) 2 0 0 0).words

abbrev pub file_bytes : Shard → List ℕ
file_bytes s = spell_rows (joined file_rows s.files)

abbrev pub end_bytes : List ℕ
end_bytes = spell_words bookend.words

abbrev pub xorb_bytes : Shard → List ℕ
xorb_bytes s = spell_rows (joined xorb_rows s.xorbs)

-- one after the other
abbrev pub in_order : List ℕ → List ℕ → List ℕ → List ℕ → List ℕ
in_order head end files xorbs = head ++ (files ++ (end ++ (xorbs ++ end)))

head_bytes_lem : (tag : List ℕ) (s : Shard) → s.footer ≡ none → spell_words (header_row tag s).words ≡ head_bytes tag
head_bytes_lem tag s e = rw e

end_bytes_lem : (x h : ℕ) (o : Option Foot) → o ≡ none → joined (spell_foot x h) (if_any o) ≡ []
end_bytes_lem x h o e = rw e

sections : (fs xs : List Row) → spell_rows (fs ++ (bookend ∷ []) ++ (xs ++ (bookend ∷ []))) ≡ spell_rows fs ++ (end_bytes ++ (spell_rows xs ++ end_bytes))
sections fs xs =
    spell_append (fs ++ (bookend ∷ [])) (xs ++ (bookend ∷ []))
    ∙ rw (spell_append fs (bookend ∷ []), spell_append xs (bookend ∷ [])) (simp (append_assoc, append-nil))

pub bytes_are : (tag : List ℕ) (s : Shard) → s.footer ≡ none → bytes_of tag s ≡ in_order (head_bytes tag) end_bytes (file_bytes s) (xorb_bytes s)
unfolding bytes_of rows_of file_section xorb_section
bytes_are tag s e = rw (end_bytes_lem (xorb_offset s) (footer_offset s) s.footer e, append-nil, head_bytes_lem tag s e, sections (joined file_rows s.files) (joined xorb_rows s.xorbs))

-- ## They are bytes

rows_bytes : (rs : List Row) → Bytes (spell_rows rs)
rows_bytes [] = bytes_none
rows_bytes (r ∷ rs) = bytes_append (spell_words r.words) (spell_rows rs) (words_bytes r.words) (rows_bytes rs)

pub bytes_spelled : (tag : List ℕ) (s : Shard) → s.footer ≡ none → Bytes (bytes_of tag s)
unfolding bytes_of
bytes_spelled tag s e = rw (end_bytes_lem (xorb_offset s) (footer_offset s) s.footer e, append-nil) (rows_bytes (rows_of tag s))
