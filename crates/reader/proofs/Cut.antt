-- THE CUT THEOREM of the reader: it is that of the states (crate cut), since each call is a call on the state that the reader stands for. Assumes nothing.
use mathlib.Core.Path.{◌≡◌, refl, sym, ap, ◌∙◌, subst}
use mathlib.Core.List.{List, [], ◌∷◌, append-nil}
use Prim.Native.Nat.{ℕ, zero, suc, ◌+◌, ◌<◌}
use native.Mathlib.Omega.{arith}
use lib.ListN.{length, drop}
use lib.Seq.{get_or-drop}
use Rattle.words.specs.Le.{Bytes}
use Rattle.words.specs.Record.{tag_at}
use Rattle.words.specs.declared.Tag.{Tag}
use Rattle.cut.specs.Format.{Judged, State, at, stopped, settle, fill, run}
use Rattle.cut.specs.Calls.{joined, step, feed, offered, looked, looked_all}
use Rattle.words.proofs.Numbers.{bytes_none, bytes_append}
use Rattle.cut.proofs.Runs.{run_nil, run_append}
use Rattle.cut.proofs.Cut.{feed_run}
use Rattle.rules.specs.Rules.{nothing}
use Rattle.rules.specs.declared.Place.{Place}
use Rattle.rules.specs.declared.Record.{Record}
use Rattle.layout.specs.Scan.{judged, format, begin, scan, found_in}
use Rattle.layout.specs.Scan as scan
use Rattle.layout.specs.Reach.{place_of, last_place, totals_with}
use Rattle.layout.proofs.Judged.{bytes_left, bytes_right}
use Rattle.layout.proofs.States.{states, calls}
use Rattle.reader.specs.Stream.{tag_in, fresh, verdict_of}
use Rattle.reader.specs.Readings.{handed_out, Seen, offers, fed, called, reader_of, seen_of, looked_at, CutClaim, CallsClaim}
use Rattle.reader.proofs.Bridge.{out_of}
use Rattle.reader.proofs.Reached.{looked_bytes, Standing, standing_begin, fits, standing_run, standing_step, reader_step, fresh_begin}

-- ## A call hands out the records of its step

handed_settle : (tag : Tag) (taken : ℕ) (j : Judged Place Record Place) → handed_out (out_of tag (record { taken = taken; out = settle j })) ≡ (settle j).recs
handed_settle tag taken j = grind arith

handed_step : (tag four : Tag) (s : State Place Place) (piece : List ℕ) → handed_out (out_of tag (step (format four) s piece)) ≡ (step (format four) s piece).out.recs
unfolding step fill
handed_step tag four s piece = grind (arith, handed_settle)

-- ## Calls for one piece, pieces, and any calls

module _ (tag : List ℕ) where
  offers_out : (n : ℕ) (s : State Place Place) (piece : List ℕ) → Standing tag s → Bytes piece → offers n (reader_of (tag_in tag) s) piece ≡ seen_of (tag_in tag) (feed (format (tag_at tag)) n s piece)
  unfolding offers feed
  offers_out zero s piece w b = refl
  offers_out (suc n) s piece w b =
      let o = step (format (tag_at tag)) s piece in
      rw (reader_step tag s piece w b, handed_step (tag_in tag) (tag_at tag) s piece, offers_out n o.out.state (drop o.taken piece) (standing_step tag s w piece b) (λ i. rw get_or-drop (b (o.taken + i))))

  -- more calls than a piece has bytes use it up, or refuse it
  pub offers_run : (n : ℕ) (s : State Place Place) (piece : List ℕ) → Standing tag s → Bytes piece → length piece < n
      → offers n (reader_of (tag_in tag) s) piece ≡ seen_of (tag_in tag) (run (format (tag_at tag)) s piece)
  offers_run n s piece w b l = offers_out n s piece w b ∙ ap (seen_of (tag_in tag)) (feed_run (format (tag_at tag)) n s piece (fits tag s w) l)

  fed_run : (s : State Place Place) (ps : List (List ℕ)) → Standing tag s → Bytes (joined ps) → fed (reader_of (tag_in tag) s) ps ≡ seen_of (tag_in tag) (run (format (tag_at tag)) s (joined ps))
  unfolding fed
  fed_run s [] w b = rw (run_nil (format (tag_at tag)) s)
  fed_run s (p ∷ ps) w b =
      let y : Bytes p = bytes_left p (joined ps) b in
      rw (
        offers_run (suc (length p)) s p w y (omega arith),
        fed_run (run (format (tag_at tag)) s p).state ps (standing_run tag s w p y) (bytes_right p (joined ps) b),
        run_append (format (tag_at tag)) s p (joined ps),
      )

  called_out : (s : State Place Place) (ps : List (List ℕ)) → Standing tag s → Bytes (joined ps) → called (reader_of (tag_in tag) s) ps ≡ seen_of (tag_in tag) (offered (format (tag_at tag)) s ps)
  unfolding called offered
  called_out s [] w b = refl
  called_out s (p ∷ ps) w b =
      let y : Bytes p = bytes_left p (joined ps) b in
      rw (
        reader_step tag s p w y,
        handed_step (tag_in tag) (tag_at tag) s p,
        called_out (step (format (tag_at tag)) s p).out.state ps (standing_step tag s w p y) (bytes_right p (joined ps) b),
      )

  -- ## From a fresh reader

  fed_scan : (ps : List (List ℕ)) → Bytes (joined ps) → fed (fresh tag) ps ≡ seen_of (tag_in tag) (scan tag (joined ps))
  unfolding scan
  fed_scan ps b = rw (fresh_begin tag) (fed_run (begin tag) ps (standing_begin tag) b)

  one_scan : (bytes : List ℕ) → Bytes bytes → fed (fresh tag) (bytes ∷ []) ≡ seen_of (tag_in tag) (scan tag bytes)
  one_scan bytes b = subst (λ (x : List ℕ). Bytes x → fed (fresh tag) (bytes ∷ []) ≡ seen_of (tag_in tag) (scan tag x)) (append-nil bytes) (fed_scan (bytes ∷ [])) b

  called_scan : (ps : List (List ℕ)) → Bytes (joined ps) → called (fresh tag) ps ≡ seen_of (tag_in tag) (scan tag (looked_at tag ps))
  called_scan ps b = rw (fresh_begin tag) (called_out (begin tag) ps (standing_begin tag) b ∙ ap (seen_of (tag_in tag)) (calls tag ps))

  -- what a scan gives
  scan_verdict : (s : State Place Place) → verdict_of (reader_of (tag_in tag) s) ≡ scan.verdict_of s
  unfolding verdict_of
  scan_verdict (at p h) = refl
  scan_verdict (stopped p) = refl

  scan_place : (s : State Place Place) → (reader_of (tag_in tag) s).stand.place ≡ place_of s
  scan_place (at p h) = refl
  scan_place (stopped p) = refl

  module _ (bytes : List ℕ) (b : Bytes bytes) {o : Seen} (e : o ≡ seen_of (tag_in tag) (scan tag bytes)) where
    seen_records : o.records ≡ (found_in tag bytes).records
    unfolding found_in
    seen_records = ap (λ (x : Seen). x.records) e

    seen_verdict : verdict_of o.reader ≡ (found_in tag bytes).verdict
    unfolding found_in
    seen_verdict = ap (λ (x : Seen). verdict_of x.reader) e ∙ scan_verdict (scan tag bytes).state

    seen_whole : o ≡ fed (fresh tag) (bytes ∷ [])
    seen_whole = e ∙ sym (one_scan bytes b)

    seen_totals : o.reader.stand.place.totals ≡ totals_with nothing o.records
    unfolding last_place
    seen_totals = rw (e, scan_place (scan tag bytes).state) (states tag bytes b).totals

  looked_all_lem : (s : State Place Place) (ps : List (List ℕ)) → Bytes (joined ps) → Bytes (looked_all (format (tag_at tag)) s ps)
  unfolding looked_all
  looked_all_lem s [] b = bytes_none
  looked_all_lem s (p ∷ ps) b =
      bytes_append (looked (format (tag_at tag)) s p) (looked_all (format (tag_at tag)) (step (format (tag_at tag)) s p).out.state ps)
      (looked_bytes (tag_at tag) s p (bytes_left p (joined ps) b)) (looked_all_lem (step (format (tag_at tag)) s p).out.state ps (bytes_right p (joined ps) b))

  pub cut : (pieces : List (List ℕ)) → Bytes (joined pieces) → CutClaim tag pieces
  cut pieces b =
      let e = fed_scan pieces b in
      let bs = joined pieces in
      record { records = seen_records bs b e; verdict = seen_verdict bs b e; same = e; whole = seen_whole bs b e; totals = seen_totals bs b e }

  pub any_calls : (pieces : List (List ℕ)) → Bytes (joined pieces) → CallsClaim tag pieces
  any_calls pieces b =
      let e = called_scan pieces b in
      let bs = looked_at tag pieces in
      let y = looked_all_lem (begin tag) pieces b in
      record { records = seen_records bs y e; verdict = seen_verdict bs y e; same = e; whole = seen_whole bs y e; totals = seen_totals bs y e }
