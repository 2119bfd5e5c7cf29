-- THE LAYOUT THEOREM holds because the rows of a sound shard are good (ShardForth), good rows to the end are those of a sound shard (ShardBack),
-- and its records are those of no other (Unique). Assumes nothing.
use Rattle.std.specs.Prelude.{Ok}
use mathlib.Core.Path.{◌≡◌, refl, sym, ap, ap₂, ◌∙◌, subst}
use mathlib.Core.Option.{Option, none, some}
use mathlib.Core.Bool.{Bool, true, false}
use mathlib.Core.List.{List, [], ◌∷◌, ◌++◌, map, append_assoc, append-nil}
use Prim.Native.Nat.{ℕ, ◌+◌, ◌*◌, ◌≤◌, ◌<◌, ◌^◌}
use native.Mathlib.Omega.{arith}
use lib.ListN.{length, take, length-append}
use lib.Seq.{take_all, take_at}
use Rattle.words.specs.Checks.{pick}
use Rattle.words.specs.Record.{hash_at, tag_at, spell_hash, spell_words}
use Rattle.words.specs.Le.{Bytes, spell}
use Rattle.words.specs.declared.Words.{Words}
use Rattle.words.specs.declared.Tag.{Tag}
use Rattle.words.proofs.Records.{spell_hash_at, hash_is, length_words, length_footer}
use Rattle.cut.specs.Format.{then_run, run, at}
use Rattle.cut.proofs.Runs.{run_nil}
use Rattle.rules.specs.Rules.{limit, start, next_of, kind_of, plus, nothing, due_by, next_by}
use Rattle.rules.specs.Verdicts.{verdict_by, verdict_at}
use Rattle.rules.specs.declared.Totals.{Totals}
use Rattle.rules.specs.declared.Place.{Place}
use Rattle.rules.specs.declared.Record.{Record}
use Rattle.rules.specs.declared.Due.{Due}
use Rattle.rules.specs.Verdicts.{Verdict}
use Rattle.rules.specs.declared.Due.TheVariants.{Footer, End}
use Rattle.layout.specs.Layout.{joined, footer_size, Foot, Shard, has, if_any, Each, Row, header_row, file_section, xorb_section, rows_of, xorb_offset, footer_offset, length_of, spell_rows, spell_foot, bytes_of, placed, foot_record, records_of, SoundFoot, Sound, foot_words}
use Rattle.layout.specs.Claim.{meaning_of, Spells, LayoutClaim}
use Rattle.layout.specs.Scan.{format, Found, found_of, found_in, IsAccepted}
use Rattle.layout.proofs.ShardForth.{ShardGo, shard_go}
use Rattle.layout.proofs.Refusals.{scan_starts, refusals}
use Rattle.layout.proofs.Judged.{foot_record_lem}
use Rattle.layout.proofs.Foot.{whole_foot, foot_run}
use Rattle.layout.proofs.Places.{plus_nothing}
use Rattle.layout.proofs.Accepted.{Out, out}
use Rattle.layout.proofs.ShardBack.{ShardBack, shard_back}
use Rattle.layout.proofs.Unique.{shard_one}
use Rattle.layout.proofs.Rows.{run_rows}

found_same : {r r' : List Record} {v v' : Verdict} → r ≡ r' → v ≡ v' → ◌≡◌ {A = Found} (record { records = r; verdict = v }) (record { records = r'; verdict = v' })
found_same p q = rw (p, q)

accepted_same : {x y : ℕ} {t u : Totals} {b c : Bool} → x ≡ y → t ≡ u → b ≡ c
    → ◌≡◌ {A = Verdict} (Ok (record { length = x; totals = t; footer = b })) (Ok (record { length = y; totals = u; footer = c }))
accepted_same p q r = rw (p, q, r)

-- where a footer is due, its bytes give its record, and the end behind it
foot_found : (four : Tag) (q : Place) (g : Foot) → q.due ≡ Footer → q.offset.0 < 2 ^ 64 → q.at.0 < 2 ^ 64 → SoundFoot g
    → found_of (run (format four) (at q []) (spell_foot q.offset.0 q.at.0 g))
    ≡ record { records = foot_record q.offset.0 q.at.0 g ∷ []; verdict = Ok (record { length = q.at.0 + 200; totals = plus q.totals nothing; footer = q.footer }) }
unfolding verdict_at next_of kind_of
foot_found four q g d lx lh ok =
    let w : Words = foot_words g in
    ap found_of (foot_run four q w d lx lh (whole_foot g ok))
    ∙ found_same (ap (λ (r : Record). r ∷ []) (foot_record_lem q w d ∙ rw d)) (ap (λ (e : Due). verdict_by (due_by e q w) (next_by e q w)) d)

-- what follows the second bookend: nothing, or the footer
ending : (four : Tag) (q : Place) (x h : ℕ) (o : Option Foot) → q.at.0 ≡ h → q.offset.0 ≡ x → q.due ≡ pick (has o) Footer End → q.footer ≡ has o
    → h ≤ limit → x ≤ limit → Each SoundFoot (if_any o)
    → found_of (run (format four) (at q []) (joined (spell_foot x h) (if_any o)))
    ≡ record { records = map (foot_record x h) (if_any o); verdict = Ok (record { length = h + pick (has o) 200 0; totals = q.totals; footer = has o }) }
unfolding verdict_at
ending four q x h none eh ex d f lh lx ok =
    ap found_of (run_nil (format four) (at q []))
    ∙ found_same refl (ap (λ (e : Due). verdict_by e q) d ∙ accepted_same (omega arith) refl f)
ending four q x h (some g) eh ex d f lh lx ok =
    ap (λ (l : List ℕ). found_of (run (format four) (at q []) l)) (append-nil (spell_foot x h g))
    ∙ rw (← ex, ← eh) (foot_found four q g d (omega arith) (omega arith) ok.0 ∙ found_same refl (accepted_same refl (plus_nothing q.totals) f))

xorb_le : (s : Shard) → xorb_offset s ≤ footer_offset s
unfolding footer_offset
xorb_le s = omega arith

-- ## Header and length

header_tail : (h : List ℕ) (b : Bool) → h ++ spell 4 2 ++ spell 4 0 ++ spell 4 (pick b 200 0) ++ spell 4 0 ≡ h ++ spell 8 2 ++ spell 8 (pick b 200 0)
unfolding spell
header_tail h true = simp append_assoc
header_tail h false = simp append_assoc

header_bytes : (tag : List ℕ) (s : Shard) → length tag ≡ 32 → Bytes tag → spell_words (header_row tag s).words ≡ tag ++ spell 8 2 ++ spell 8 (footer_size s)
unfolding spell_words
header_bytes tag s n b =
    let e : spell_hash (hash_at tag 0) ≡ tag = spell_hash_at tag 0 (omega arith) b ∙ take_all 32 tag (omega arith) in
    ap (λ (h : List ℕ). h ++ spell 4 2 ++ spell 4 0 ++ spell 4 (footer_size s) ++ spell 4 0) e ∙ header_tail tag (has s.footer)

begins : (tag : List ℕ) (s : Shard) → length tag ≡ 32 → Bytes tag → take 48 (bytes_of tag s) ≡ tag ++ spell 8 2 ++ spell 8 (footer_size s)
unfolding bytes_of rows_of
begins tag s n b =
    ap (take 48) (append_assoc (spell_words (header_row tag s).words) (spell_rows (file_section s ++ xorb_section s)) (joined (spell_foot (xorb_offset s) (footer_offset s)) (if_any s.footer)))
    ∙ take_at (spell_words (header_row tag s).words) _ 48 (length_words (header_row tag s).words) ∙ header_bytes tag s n b

pub length_rows : (rs : List Row) → length (spell_rows rs) ≡ 48 * length rs
length_rows [] = refl
length_rows (r ∷ rs) = length-append (spell_words r.words) (spell_rows rs) ∙ (let e : length (spell_rows rs) ≡ 48 * length rs = length_rows rs in omega (arith, length_words r.words))

length_end : (x h : ℕ) (o : Option Foot) → length (joined (spell_foot x h) (if_any o)) ≡ pick (has o) 200 0
length_end x h none = refl
length_end x h (some f) = ap length (append-nil (spell_foot x h f)) ∙ length_footer x h (foot_words f)

long : (tag : List ℕ) (s : Shard) → length (bytes_of tag s) ≡ length_of s
unfolding bytes_of rows_of length_of footer_offset xorb_offset
long tag s =
    length-append (spell_rows (header_row tag s ∷ (file_section s ++ xorb_section s))) (joined (spell_foot (xorb_offset s) (footer_offset s)) (if_any s.footer))
    ∙ omega (arith, length_rows (header_row tag s ∷ (file_section s ++ xorb_section s)), length-append (file_section s) (xorb_section s), length_end (xorb_offset s) (footer_offset s) s.footer)

module _ (tag : List ℕ) (tag_size : length tag ≡ 32) (tag-bytes : Bytes tag) where
  -- ONE: the bytes of a sound shard are accepted, and what is found in them is the shard's own
  written : (s : Shard) → Sound s → found_in tag (bytes_of tag s) ≡ meaning_of tag s
  unfolding found_in bytes_of records_of length_of
  written s ok =
      let four : Tag = tag_at tag in
      let x : ℕ = xorb_offset s in
      let h : ℕ = footer_offset s in
      let o : ShardGo tag s = shard_go tag s tag-bytes ok in
      let lx : x ≤ h = xorb_le s in
      let r : run (format four) (at start []) (spell_rows (rows_of tag s) ++ joined (spell_foot x h) (if_any s.footer))
      ≡ then_run (placed 0 (rows_of tag s)) (run (format four) (at o.last []) (joined (spell_foot x h) (if_any s.footer)))
      = run_rows four start o.last (rows_of tag s) (joined (spell_foot x h) (if_any s.footer)) o.goes in
      let e = ending four o.last x h s.footer o.at o.offset o.due o.footer (omega arith) (omega arith) ok.footer in
      ap found_of (scan_starts tag tag_size (spell_rows (rows_of tag s) ++ joined (spell_foot x h) (if_any s.footer)) ∙ r)
      ∙ found_same (ap (λ (f : Found). placed 0 (rows_of tag s) ++ f.records) e) (ap (λ (f : Found). f.verdict) e ∙ accepted_same refl o.totals refl)

  -- TWO: accepted bytes are those of a sound shard
  read : (bytes : List ℕ) → Bytes bytes → IsAccepted (found_in tag bytes).verdict → (s : Shard) × Sound s × (bytes_of tag s ≡ bytes)
  unfolding bytes_of
  read bytes b a =
      let four : Tag = tag_at tag in
      let o : Out four start bytes = out tag bytes (refusals tag tag_size bytes) b a in
      let s : ShardBack tag o.rows o.rest = shard_back tag o.last o.rows o.rest (hash_is tag 0 tag-bytes) o.goes o.tail in
      (s.shard, s.sound, ap₂ (λ (x : List Row) (y : List ℕ). spell_rows x ++ y) s.rows_are s.rest_is ∙ sym o.bytes)

  -- THREE: no two sound shards have the same bytes
  only : (s t : Shard) → Sound s → Sound t → bytes_of tag s ≡ bytes_of tag t → s ≡ t
  only s t hs ht e =
      shard_one tag s t hs ht (ap (λ (f : Found). f.records) (sym (written s hs) ∙ ap (found_in tag) e ∙ written t ht))

-- the three together
pub layout : (tag : List ℕ) → length tag ≡ 32 → Bytes tag → LayoutClaim tag
layout tag n b = record {
  begins = λ s. begins tag s n b;
  long = λ s. long tag s;
  accepted = λ bytes h. (
    (λ a. let (s, ok, e) = read tag n b bytes h a in (s, record { sound = ok; spelled = e })),
    (λ x. subst (λ (f : Found). IsAccepted f.verdict) (sym (found bytes x.0 x.1)) tt),
  );
  found = found;
  only = λ bytes s t x y. only tag n b s t x.sound y.sound (x.spelled ∙ sym y.spelled);
}
  where
    found : (bytes : List ℕ) (s : Shard) → Spells tag s bytes → found_in tag bytes ≡ meaning_of tag s
    found bytes s x = ap (found_in tag) (sym x.spelled) ∙ written tag n b s x.sound
