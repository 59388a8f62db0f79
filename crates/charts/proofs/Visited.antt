-- What is known of the rows of a set that is printed: each fits its columns, and shows bytes and a deadline of 16 bits. Assumes nothing.
use mathlib.Core.Bool.{Bool, true, false, cond}
use mathlib.Core.List.{List, [], ◌∷◌, map}
use mathlib.Core.Path.{◌≡◌, refl, ap}
use Prim.Native.Nat.{ℕ, zero, suc, ◌+◌, ◌*◌, ◌≤◌, ◌<◌}
use native.Mathlib.Omega.{arith}
use lib.Dec.{leb}
use lib.ListN.{length, get_or}
use Rattle.std.specs.Prelude.{Option, Some, None}
use Rattle.hash_parts.specs.declared.setting.SegmentExpiry.{SegmentExpiry}
use Rattle.hash_parts.specs.declared.setting.SegmentExpiry.TheVariants as setting
use Rattle.hash_parts.proofs.Bytes.{Bytes, no_bytes, one_byte, bytes_drop, bytes_take}
use Rattle.records.specs.Area.{part, spanned}
use Rattle.records.specs.Record.{deadline_in, record_at}
use Rattle.records.specs.declared.record.RecordRef.{RecordRef}
use Rattle.records.specs.declared.record.Span.{Span}
use Rattle.records.proofs.Stored.{read_by}
use Rattle.index.specs.Find.{slot_at}
use Rattle.index.specs.View.{record_in}
use Rattle.index.specs.Slot.{IndexSlot}
use Rattle.index.specs.declared.view.SegmentView.{SegmentView}
use Rattle.index.proofs.Views.{read_in}
use Rattle.sets.specs.Lookup.{entry_at, named_by}
use Rattle.sets.specs.Walk.{entries_from, entries_in, entry_then}
use Rattle.texts.specs.Output.{decimal_text}
use Rattle.texts.proofs.Spelling.{decimal_short}
use Rattle.charts.specs.Line.{Row, deadline_text}
use Rattle.charts.specs.Sheet.{row_of, rows_fit, rows_in}
use Rattle.charts.proofs.Columns.{deadline_short}
use Rattle.charts.proofs.Rows.{fit_next, fits_parts}

-- ---- a record that was read has a deadline of 16 bits

byte_at : {l : List ℕ} (i : ℕ) → Bytes l → get_or l i 0 < 256
byte_at i no_bytes = omega arith
byte_at zero (one_byte h p) = h
byte_at (suc i) (one_byte h p) = byte_at i p

deadline_in_law : (e : SegmentExpiry) (s : List ℕ) (q : ℕ) → Bytes s → deadline_in e s q < 65536
deadline_in_law setting.None s q b = omega arith
deadline_in_law (setting.Relative16 tick) s q b = omega (arith, byte_at q b, byte_at (q + 1) b)

at_deadline : (e : SegmentExpiry) (s : List ℕ) (at : ℕ) (r : RecordRef) → Bytes s → record_at e s at ≡ Some r → r.expires_at < 65536
at_deadline e s at r b f =
    let p = read_by e s at r f in
    let d : deadline_in e s p.q ≡ r.expires_at = ap (λ (y : RecordRef). y.expires_at) p.is in
    omega (arith, d, deadline_in_law e s p.q b)

says_nothing : {A : Type 0} {r : RecordRef} → None ≡ Some r → A
says_nothing e = absurd (cc)

module _ (view : SegmentView) (arena starts lengths : List ℕ) (bytes : Bytes arena) where
  in_deadline : (stored : ℕ) (r : RecordRef) → record_in view arena starts lengths stored ≡ Some r → r.expires_at < 65536
  unfolding record_in
  in_deadline zero r f = says_nothing f
  in_deadline (suc location) r f =
      let p = read_in view arena starts lengths location r f in
      let d : p.r.expires_at ≡ r.expires_at = ap (λ (y : RecordRef). y.expires_at) p.is in
      omega (arith, d, at_deadline view.expiry _ _ p.r (bytes_take p.len (bytes_drop p.start (bytes_take view.filled bytes))) p.read)

  entry_deadline : (packed : Bool) (buckets : ℕ) (index : List ℕ) (slot : ℕ) (r : RecordRef)
      → entry_at (record_in view arena starts lengths) packed buckets index slot ≡ Some r → r.expires_at < 65536
  unfolding entry_at
  entry_deadline packed buckets index slot r f = go (slot_at packed buckets index slot) f
    where
      go : (s : IndexSlot) → named_by (record_in view arena starts lengths) s ≡ Some r → r.expires_at < 65536
      go None g = says_nothing g
      go (Some used) g = in_deadline used.1 r g

-- ---- rows that a sheet shows whole

pub record Fits (r : Row) : Type 0 where
  pub slot_fits : length (decimal_text r.slot) ≤ 8
  pub key_fits : length r.key ≤ 12
  pub value_fits : length r.value ≤ 12
  pub deadline_fits : length (deadline_text r.deadline) ≤ 5
  pub key_bytes : Bytes r.key
  pub value_bytes : Bytes r.value

pub data Every : List Row → Type 0 where
  every_none : Every []
  every_more : {r : Row} {rows : List Row} → Fits r → Every rows → Every (r ∷ rows)

span_bytes : (arena : List ℕ) (span : Span) → Bytes arena → Bytes (spanned arena span)
unfolding spanned
span_bytes arena span b = go (leb (span.at + span.len) (length arena))
  where
    go : (t : Bool) → Bytes (cond t (part span.at span.len arena) [])
    go true = bytes_take span.len (bytes_drop span.at b)
    go false = no_bytes

module _ (at : ℕ → Option RecordRef) (arena : List ℕ) (bytes : Bytes arena) (small : (slot : ℕ) (r : RecordRef) → at slot ≡ Some r → r.expires_at < 65536) where
  every_from : (n slot : ℕ) → slot + n ≤ 100000000 → rows_fit (map (row_of arena) (entries_from at slot n)) ≡ true → Every (map (row_of arena) (entries_from at slot n))
  unfolding entries_from
  every_from zero slot h f = every_none
  every_from (suc n) slot h f = go (at slot) refl f (every_from n (suc slot) (omega arith))
    where
      rest : List Row
      rest = map (row_of arena) (entries_from at (suc slot) n)

      go : (x : Option RecordRef) → at slot ≡ x → rows_fit (map (row_of arena) (entry_then slot x (entries_from at (suc slot) n))) ≡ true
          → (rows_fit (map (row_of arena) (entries_from at (suc slot) n)) ≡ true → Every (map (row_of arena) (entries_from at (suc slot) n)))
          → Every (map (row_of arena) (entry_then slot x (entries_from at (suc slot) n)))
      go None e g more = more g
      go (Some r) e g more =
          let row : Row = row_of arena (record { slot = slot; entry = r }) in
          let both = fit_next row (map (row_of arena) (entries_from at (suc slot) n)) g in
          let parts = fits_parts row both.0 in
          let fits : Fits row = record {
            slot_fits = decimal_short 7 slot (omega arith);
            key_fits = parts.0;
            value_fits = parts.1;
            deadline_fits = deadline_short r.expires_at (small slot r e);
            key_bytes = span_bytes arena r.key bytes;
            value_bytes = span_bytes arena r.value bytes;
          } in
          every_more {r = row} fits (more both.1)

pub every_row : (view : SegmentView) (arena starts lengths : List ℕ) (packed : Bool) (buckets : ℕ) (index : List ℕ) → Bytes arena → 8 * buckets ≤ 100000000
    → rows_fit (rows_in (record_in view arena starts lengths) packed buckets index arena) ≡ true
    → Every (rows_in (record_in view arena starts lengths) packed buckets index arena)
unfolding entries_in
every_row view arena starts lengths packed buckets index bytes h f =
    every_from (entry_at (record_in view arena starts lengths) packed buckets index) arena bytes
    (entry_deadline view arena starts lengths bytes packed buckets index) (8 * buckets) 0 (omega arith) f
