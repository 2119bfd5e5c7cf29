-- What a writer makes of an offer that is due is a record of the kind asked for, as long as is due and in its ranges, because a head has no hash
-- of all ones and the end of a section has it. Assumes nothing.
use mathlib.Core.Path.{◌≡◌}
use mathlib.Core.Bool.{true, ◌&&◌, not}
use mathlib.Core.List.{List}
use Prim.Native.Nat.{ℕ}
use native.Mathlib.Omega.{arith}
use Rattle.words.specs.Checks.{pick}
use Rattle.words.specs.Record.{IsHash, is_ones, Whole}
use Rattle.words.specs.declared.Tag.{Tag}
use Rattle.rules.specs.Rules.{size_by, footer_due}
use Rattle.rules.specs.Rules as rules
use Rattle.rules.specs.Kinds.{is_due}
use Rattle.rules.specs.declared.Kind.{Kind}
use Rattle.rules.specs.declared.Due.{Due}
use Rattle.writer.specs.Offers.{kind_by, hash_by, words_by, words_of, fields_by, RangesBy, InRange}
use Rattle.writer.specs.declared.Offer.{Offer}
use Rattle.writer.specs.declared.Fields.{Fields}
use Rattle.writer.specs.Write.{is_head, is_footer}

-- ## Sizes

-- how long a record of a kind is
abbrev pub size_kind : Kind → ℕ
size_kind k = pick (is_footer k) 200 48

-- a record that is due is a footer exactly where the footer is due
pub due_footer : (d : Due) (k : Kind) → is_due d k ≡ true → is_footer k ≡ footer_due d
due_footer d k e = grind arith

-- and so it is as long as is due
pub due_size : (d : Due) (k : Kind) → is_due d k ≡ true → size_kind k ≡ size_by d
due_size d k e = grind arith

-- ## Ranges

whole_by : (f : Fields) (tag : Tag) (hash : List ℕ) → IsHash tag.0 → IsHash hash → RangesBy f → Whole (words_by f tag hash)
whole_by f tag hash t h r = grind arith

pub whole_of : (tag : Tag) (o : Offer) → IsHash tag.0 → InRange o → Whole (words_of tag o)
unfolding words_of
whole_of tag o t r = whole_by o.fields tag o.hash t r.hash r.fields

-- ## The kind made

-- the record made is of the kind asked for
pub made_kind : (d : Due) (f : Fields) (tag : Tag) (hash : List ℕ) → is_due d (kind_by f) ≡ true → not (is_head (kind_by f) && is_ones hash) ≡ true
    → rules.kind_by d (words_by f tag hash) ≡ kind_by f
made_kind d f tag hash e n = grind arith

-- it has the fields offered
pub fields_back : (f : Fields) (tag : Tag) (hash : List ℕ) → fields_by (kind_by f) (words_by f tag hash) ≡ f
fields_back f tag hash = grind arith

-- and the hash
pub hash_back : (f : Fields) (tag : Tag) (hash : List ℕ) → (words_by f tag hash).hash ≡ hash_by f tag hash
hash_back f tag hash = grind arith
