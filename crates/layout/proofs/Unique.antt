-- No two sound shards have the same records, because each head says how many rows are its own, so that equal rows are cut alike. Assumes nothing.
use mathlib.Core.Path.{◌≡◌, refl, sym, ap, ap₂, ◌∙◌, subst}
use mathlib.Core.Option.{Option, none, some}
use mathlib.Core.Bool.{true≢false, false≢true}
use mathlib.Core.List.{List, [], ◌∷◌, ◌++◌, map, append_assoc}
use Prim.Native.Nat.{ℕ, ◌+◌, ◌*◌}
use native.Mathlib.Omega.{arith}
use lib.ListN.{length, length-map}
use Rattle.rules.specs.Rules.{bit31, bit30}
use Rattle.rules.specs.declared.Record.{Record}
use Rattle.rules.specs.declared.Kind.TheVariants as kind
use Rattle.layout.specs.Layout.{joined, Hash, FileBlock, XorbBlock, Foot, Shard, has, if_any, members, Each, Row, header_row, flags_of, file_head_row, segment_row, verification_row, metadata_row, file_rows, xorb_head_row, chunk_rows, xorb_rows, bookend, file_section, xorb_section, rows_of, xorb_offset, footer_offset, placed, foot_words, foot_record, records_of, Matched, SoundFile, SoundXorb, Sound}
use Rattle.layout.specs.Layout as tree
use Rattle.layout.proofs.XorbsForth.{length_chunks}
use Rattle.layout.proofs.Flags.{flags_31, flags_30}

-- ## Lists

module _ {A : Type 0} where
  cons_head : (x y : A) (xs ys : List A) → x ∷ xs ≡ y ∷ ys → x ≡ y
  cons_head x y xs ys e = cc

  cons_tail : (x y : A) (xs ys : List A) → x ∷ xs ≡ y ∷ ys → xs ≡ ys
  cons_tail x y xs ys e = cc

  -- where the first parts are equally long, both parts are equal
  split_same : (a b x y : List A) → length a ≡ length b → a ++ x ≡ b ++ y → (a ≡ b) × (x ≡ y)
  split_same [] [] x y l e = (refl, e)
  split_same [] (q ∷ b) x y l e = absurd (omega arith)
  split_same (p ∷ a) [] x y l e = absurd (omega arith)
  split_same (p ∷ a) (q ∷ b) x y l e =
      let (s, t) = split_same a b x y (omega arith) (cons_tail p q (a ++ x) (b ++ y) e) in
      (ap₂ (λ (u : A) (v : List A). u ∷ v) (cons_head p q (a ++ x) (b ++ y) e) s, t)

  map_back : {B : Type 0} (f : A → B) (g : B → A) → ((a : A) → g (f a) ≡ a) → (l : List A) → map g (map f l) ≡ l
  map_back f g h [] = refl
  map_back f g h (a ∷ l) = ap₂ (λ (u : A) (v : List A). u ∷ v) (h a) (map_back f g h l)

  map_same : {B : Type 0} (f : A → B) (g : B → A) → ((a : A) → g (f a) ≡ a) → (l m : List A) → map f l ≡ map f m → l ≡ m
  map_same f g h l m e = sym (map_back f g h l) ∙ ap (map g) e ∙ map_back f g h m

-- ## Blocks up to their bookend

-- if each block is cut alike, and none begins with a bookend, all are
blocks_one : {A : Type 0} (P : A → Type 0) (rows : A → List Row) → ((f g : A) (x y : List Row) → P f → P g → rows f ++ x ≡ rows g ++ y → (f ≡ g) × (x ≡ y))
    → ((f : A) (x y : List Row) → bookend ∷ x ≡ rows f ++ y → ⊥) → (fs gs : List A) (x y : List Row) → Each P fs → Each P gs
    → joined rows fs ++ (bookend ∷ x) ≡ joined rows gs ++ (bookend ∷ y) → (fs ≡ gs) × (x ≡ y)
blocks_one P rows one no_head [] [] x y hs ks e = (refl, cons_tail bookend bookend x y e)
blocks_one P rows one no_head [] (g ∷ gs) x y hs ks e = absurd (no_head g x _ (e ∙ append_assoc (rows g) (joined rows gs) (bookend ∷ y)))
blocks_one P rows one no_head (f ∷ fs) [] x y hs ks e = absurd (no_head f y _ (sym e ∙ append_assoc (rows f) (joined rows fs) (bookend ∷ x)))
blocks_one {A} P rows one no_head (f ∷ fs) (g ∷ gs) x y (h, hs) (k, ks) e =
    let (a, t) = one f g (joined rows fs ++ (bookend ∷ x)) (joined rows gs ++ (bookend ∷ y)) h k
    (sym (append_assoc (rows f) (joined rows fs) (bookend ∷ x)) ∙ e ∙ append_assoc (rows g) (joined rows gs) (bookend ∷ y)) in
    let (b, r) = blocks_one P rows one no_head fs gs x y hs ks t in
    (ap₂ (λ (u : A) (v : List A). u ∷ v) a b, r)

-- ## What a row says

abbrev segment_in : Row → tree.Segment
segment_in r = record { xorb = r.words.hash; bytes = r.words.b; start = r.words.c; end = r.words.d }

abbrev hash_in : Row → Hash
hash_in r = r.words.hash

abbrev chunk_in : Row → tree.Chunk
chunk_in r = record { hash = r.words.hash; bytes = r.words.b }

chunks_back : (sum : ℕ) (cs : List tree.Chunk) → map chunk_in (chunk_rows sum cs) ≡ cs
chunks_back sum [] = refl
chunks_back sum (c ∷ cs) = ap (λ (l : List tree.Chunk). c ∷ l) (chunks_back (sum + c.bytes) cs)

file_same : {h h' : Hash} {s s' : List tree.Segment} {v v' : Option (List Hash)} {m m' : Option Hash} → h ≡ h' → s ≡ s' → v ≡ v' → m ≡ m'
    → ◌≡◌ {A = FileBlock} (record { hash = h; segments = s; verifications = v; metadata = m }) (record { hash = h'; segments = s'; verifications = v'; metadata = m' })
file_same p q r s = rw (p, q, r, s)

-- options that are there together
members_length : (v w : Option (List Hash)) (n : ℕ) → has v ≡ has w → Matched v n → Matched w n → length (members v) ≡ length (members w)
members_length none none n e p q = refl
members_length none (some w) n e p q = absurd (false≢true e)
members_length (some v) none n e p q = absurd (true≢false e)
members_length (some v) (some w) n e p q = p ∙ sym q

members_same : (v w : Option (List Hash)) → has v ≡ has w → members v ≡ members w → v ≡ w
members_same none none e p = refl
members_same none (some w) e p = absurd (false≢true e)
members_same (some v) none e p = absurd (true≢false e)
members_same (some v) (some w) e p = ap some p

any_length : {A : Type 0} (v w : Option A) → has v ≡ has w → length (if_any v) ≡ length (if_any w)
any_length none none e = refl
any_length none (some w) e = absurd (false≢true e)
any_length (some v) none e = absurd (true≢false e)
any_length (some v) (some w) e = refl

any_same : {A : Type 0} (v w : Option A) → if_any v ≡ if_any w → v ≡ w
any_same none none e = refl
any_same none (some w) e = let z : ◌≡◌ {A = ℕ} 0 1 = ap length e in absurd (omega arith)
any_same (some v) none e = let z : ◌≡◌ {A = ℕ} 1 0 = ap length e in absurd (omega arith)
any_same (some v) (some w) e = ap some (cons_head v w [] [] e)

-- ## Files

file_one : (f g : FileBlock) (x y : List Row) → SoundFile f → SoundFile g → file_rows f ++ x ≡ file_rows g ++ y → (f ≡ g) × (x ≡ y)
unfolding file_rows
file_one f g x y hf hg e =
    let sf : List Row = map segment_row f.segments in
    let sg : List Row = map segment_row g.segments in
    let vf : List Row = map verification_row (members f.verifications) in
    let vg : List Row = map verification_row (members g.verifications) in
    let mf : List Row = map metadata_row (if_any f.metadata) in
    let mg : List Row = map metadata_row (if_any g.metadata) in
    let head : file_head_row f ≡ file_head_row g = cons_head (file_head_row f) (file_head_row g) ((sf ++ (vf ++ mf)) ++ x) ((sg ++ (vg ++ mg)) ++ y) e in
    let fl : flags_of f ≡ flags_of g = ap (λ (r : Row). r.words.a) head in
    let n : length f.segments ≡ length g.segments = ap (λ (r : Row). r.words.b) head in
    let hv : has f.verifications ≡ has g.verifications = sym (flags_31 (has f.verifications) (has f.metadata)) ∙ ap bit31 fl ∙ flags_31 (has g.verifications) (has g.metadata) in
    let hm : has f.metadata ≡ has g.metadata = sym (flags_30 (has f.verifications) (has f.metadata)) ∙ ap bit30 fl ∙ flags_30 (has g.verifications) (has g.metadata) in
    let e0 : (sf ++ (vf ++ mf)) ++ x ≡ (sg ++ (vg ++ mg)) ++ y = cons_tail (file_head_row f) (file_head_row g) ((sf ++ (vf ++ mf)) ++ x) ((sg ++ (vg ++ mg)) ++ y) e in
    let e1 : sf ++ (vf ++ (mf ++ x)) ≡ sg ++ (vg ++ (mg ++ y)) =
    ap (λ (l : List Row). sf ++ l) (sym (append_assoc vf mf x)) ∙ sym (append_assoc sf (vf ++ mf) x) ∙ e0 ∙ append_assoc sg (vg ++ mg) y ∙ ap (λ (l : List Row). sg ++ l) (append_assoc vg mg y) in
    let (es, e2) = split_same sf sg (vf ++ (mf ++ x)) (vg ++ (mg ++ y)) (length-map f.segments segment_row ∙ n ∙ sym (length-map g.segments segment_row)) e1 in
    let lv : length (members f.verifications) ≡ length (members g.verifications)
    = members_length f.verifications g.verifications (length f.segments) hv hf.matched (subst (Matched g.verifications) (sym n) hg.matched) in
    let (ev, e3) = split_same vf vg (mf ++ x) (mg ++ y) (length-map (members f.verifications) verification_row ∙ lv ∙ sym (length-map (members g.verifications) verification_row)) e2 in
    let (em, e4) = split_same mf mg x y (length-map (if_any f.metadata) metadata_row ∙ any_length f.metadata g.metadata hm ∙ sym (length-map (if_any g.metadata) metadata_row)) e3 in (
      file_same (ap (λ (r : Row). r.words.hash) head)
          (map_same segment_row segment_in (λ a. refl) f.segments g.segments es)
          (members_same f.verifications g.verifications hv (map_same verification_row hash_in (λ a. refl) (members f.verifications) (members g.verifications) ev))
          (any_same f.metadata g.metadata (map_same metadata_row hash_in (λ a. refl) (if_any f.metadata) (if_any g.metadata) em)),
      e4,
    )

-- a head is no bookend
file_head_not : (f : FileBlock) (x y : List Row) → bookend ∷ x ≡ file_rows f ++ y → ⊥
unfolding file_rows
file_head_not f x y e =
    let k : kind.Bookend ≡ kind.FileHead = ap (λ (r : Row). r.kind) (cons_head bookend (file_head_row f) x _ e) in
    let z : ◌≡◌ {A = ℕ} 0 1 = cc in
    omega arith

-- ## Xorbs

xorb_same : {h h' : Hash} {d d' : ℕ} {c c' : List tree.Chunk} → h ≡ h' → d ≡ d' → c ≡ c'
    → ◌≡◌ {A = XorbBlock} (record { hash = h; disk = d; chunks = c }) (record { hash = h'; disk = d'; chunks = c' })
xorb_same p q r = rw (p, q, r)

xorb_one : (f g : XorbBlock) (x y : List Row) → SoundXorb f → SoundXorb g → xorb_rows f ++ x ≡ xorb_rows g ++ y → (f ≡ g) × (x ≡ y)
unfolding xorb_rows
xorb_one f g x y hf hg e =
    let cf : List Row = chunk_rows 0 f.chunks in
    let cg : List Row = chunk_rows 0 g.chunks in
    let head : xorb_head_row f ≡ xorb_head_row g = cons_head (xorb_head_row f) (xorb_head_row g) (cf ++ x) (cg ++ y) e in
    let n : length f.chunks ≡ length g.chunks = ap (λ (r : Row). r.words.b) head in
    let (ec, e1) = split_same cf cg x y (length_chunks 0 f.chunks ∙ n ∙ sym (length_chunks 0 g.chunks)) (cons_tail (xorb_head_row f) (xorb_head_row g) (cf ++ x) (cg ++ y) e) in (
      xorb_same (ap (λ (r : Row). r.words.hash) head) (ap (λ (r : Row). r.words.d) head) (sym (chunks_back 0 f.chunks) ∙ ap (map chunk_in) ec ∙ chunks_back 0 g.chunks),
      e1,
    )

xorb_head_not : (f : XorbBlock) (x y : List Row) → bookend ∷ x ≡ xorb_rows f ++ y → ⊥
unfolding xorb_rows
xorb_head_not f x y e =
    let k : kind.Bookend ≡ kind.XorbHead = ap (λ (r : Row). r.kind) (cons_head bookend (xorb_head_row f) x _ e) in
    let z : ◌≡◌ {A = ℕ} 0 1 = cc in
    omega arith

-- ## The shard

abbrev foot_row : Foot → Row
foot_row f = record { kind = kind.Footer; words = foot_words f }

abbrev foot_in : Row → Foot
foot_in r = record { key = r.words.hash; created = r.words.a + 4294967296 * r.words.b; expiry = r.words.c + 4294967296 * r.words.d }

foot_same : {k : Hash} {a b a' b' : ℕ} → a ≡ a' → b ≡ b' → ◌≡◌ {A = Foot} (record { key = k; created = a; expiry = b }) (record { key = k; created = a'; expiry = b' })
foot_same p q = rw (p, q)

foot_in_lem : (f : Foot) → foot_in (foot_row f) ≡ f
foot_in_lem f = foot_same (omega arith) (omega arith)

-- records without their positions
abbrev rows_in : List Record → List Row
rows_in [] = []
rows_in (r ∷ rs) = record { kind = r.kind; words = r.words } ∷ rows_in rs

rows_in_lem : (at : ℕ) (rs : List Row) (more : List Record) → rows_in (placed at rs ++ more) ≡ rs ++ rows_in more
rows_in_lem at [] more = refl
rows_in_lem at (r ∷ rs) more = ap (λ (l : List Row). r ∷ l) (rows_in_lem (at + 48) rs more)

foot_rows : (x h : ℕ) (o : Option Foot) → rows_in (map (foot_record x h) (if_any o)) ≡ map foot_row (if_any o)
foot_rows x h none = refl
foot_rows x h (some f) = refl

all_rows : (tag : List ℕ) (s : Shard) → rows_in (records_of tag s) ≡ rows_of tag s ++ map foot_row (if_any s.footer)
unfolding records_of
all_rows tag s = rows_in_lem 0 (rows_of tag s) (map (foot_record (xorb_offset s) (footer_offset s)) (if_any s.footer))
    ∙ ap (λ (l : List Row). rows_of tag s ++ l) (foot_rows (xorb_offset s) (footer_offset s) s.footer)

regroup : (a c f : List Row) (b d : Row) → ((a ++ (b ∷ [])) ++ (c ++ (d ∷ []))) ++ f ≡ a ++ (b ∷ (c ++ (d ∷ f)))
regroup a c f b d = simp append_assoc

shard_same : {f f' : List FileBlock} {x x' : List XorbBlock} {o o' : Option Foot} → f ≡ f' → x ≡ x' → o ≡ o'
    → ◌≡◌ {A = Shard} (record { files = f; xorbs = x; footer = o }) (record { files = f'; xorbs = x'; footer = o' })
shard_same p q r = rw (p, q, r)

pub shard_one : (tag : List ℕ) (s t : Shard) → Sound s → Sound t → records_of tag s ≡ records_of tag t → s ≡ t
unfolding rows_of file_section xorb_section
shard_one tag s t hs ht e =
    let fs : List Row = joined file_rows s.files in
    let ft : List Row = joined file_rows t.files in
    let xs : List Row = joined xorb_rows s.xorbs in
    let xt : List Row = joined xorb_rows t.xorbs in
    let os : List Row = map foot_row (if_any s.footer) in
    let ot : List Row = map foot_row (if_any t.footer) in
    let e0 : rows_of tag s ++ os ≡ rows_of tag t ++ ot = sym (all_rows tag s) ∙ ap rows_in e ∙ all_rows tag t in
    let e1 : ((fs ++ (bookend ∷ [])) ++ (xs ++ (bookend ∷ []))) ++ os ≡ ((ft ++ (bookend ∷ [])) ++ (xt ++ (bookend ∷ []))) ++ ot
    = cons_tail (header_row tag s) (header_row tag t) _ _ e0 in
    let (a, e2) = blocks_one SoundFile file_rows file_one file_head_not s.files t.files (xs ++ (bookend ∷ os)) (xt ++ (bookend ∷ ot)) hs.files ht.files (sym (regroup fs xs os bookend bookend) ∙ e1 ∙ regroup ft xt ot bookend bookend) in
    let (b, e3) = blocks_one SoundXorb xorb_rows xorb_one xorb_head_not s.xorbs t.xorbs os ot hs.xorbs ht.xorbs e2 in
    shard_same a b (any_same s.footer t.footer (map_same foot_row foot_in foot_in_lem (if_any s.footer) (if_any t.footer) e3))
