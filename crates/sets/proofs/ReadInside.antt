-- What is read in a set or a rebuild lies in the filled bytes and ends in its segment; and what a reused push was shown. Assumes nothing.
use Rattle.std.proofs.Common.{◌≡◌, ℕ, zero, suc, ◌+◌, ◌-◌, ◌/◌, ◌%◌, ◌^◌, ◌<◌, ◌≤◌, Bool, true, false, cond, eqb, ltb, leb, List, [], length, get_or, take, refl, ap, arith, length-take, ltb-true, eqb-true, Option, Some, None}
use Rattle.records.specs.Area.{part, same_bytes, spanned}
use Rattle.records.specs.declared.record.RecordRef.{RecordRef}
use Rattle.records.specs.declared.record.Span.{Span}
use Rattle.records.proofs.Area.{same_true}
use Rattle.records.proofs.Stored.{record_inside}
use Rattle.index.specs.View.{in_segment, record_in}
use Rattle.index.specs.declared.view.SegmentView.{SegmentView}
use Rattle.index.proofs.Views.{read_in}
use Rattle.sets.specs.Rebuild.{holds_record}
use Rattle.sets.proofs.Counts.{both}

-- a record whose key and value lie in the first n bytes, and whose header, key and value are no more bytes
pub record Inside (n : ℕ) (x : RecordRef) : Type 0 where
  pub key_inside : x.key.at + x.key.len ≤ n
  pub value_inside : x.value.at + x.value.len ≤ n
  pub whole_inside : x.key_offset + x.key.len + x.value.len ≤ n

module _ (view : SegmentView) (arena starts lengths : List ℕ) where
  abbrev bytes : List ℕ
  bytes = take view.filled arena

  -- what is read lies in the filled bytes
  pub read_inside : (l : ℕ) (x : RecordRef) → record_in view arena starts lengths l ≡ Some x → Inside (length bytes) x
  unfolding record_in
  read_inside zero x f = absurd (let z : ◌≡◌ {A = ℕ} 0 1 = cc in omega arith)
  read_inside (suc location) x f =
      let w = read_in view arena starts lengths location x f in
      let i = record_inside view.expiry (part w.start w.len bytes) (location % 2 ^ 32) w.r w.read in
      rw (← w.is) (record { key_inside = omega (arith, w.inside, w.short); value_inside = omega (arith, w.inside, w.short); whole_inside = omega (arith, w.inside, w.short) })

  -- it is read in a segment that the view counts
  read_known : (location : ℕ) (x : RecordRef) → record_in view arena starts lengths (suc location) ≡ Some x → location / 2 ^ 32 < view.segments
  unfolding record_in
  read_known location x f = go (ltb segment view.segments) refl f
    where
      segment : ℕ
      segment = location / 2 ^ 32

      go : (b : Bool) → ltb segment view.segments ≡ b
          → cond (cond b (cond (ltb segment (length starts)) (ltb segment (length lengths)) false) false)
          (in_segment view.expiry bytes (get_or starts segment 0) (get_or lengths segment 0) location)
          None
          ≡ Some x
          → segment < view.segments
      go true h e = ltb-true _ _ h
      go false h e = absurd (let z : ◌≡◌ {A = ℕ} 0 1 = cc in omega arith)

  -- Where it ends is "counted as its own is". By question 1 a set has at most 256 segments and its arena at most 2^30 bytes: then the
  -- sum does not wrap, and the end has the segment of the location.
  pub read_end : (location : ℕ) (x : RecordRef) → record_in view arena starts lengths (suc location) ≡ Some x → view.segments ≤ 256 → length arena ≤ 2 ^ 30
      → (x.end ≡ location + x.key_offset + x.key.len + x.value.len) × (x.end / 2 ^ 32 ≡ location / 2 ^ 32)
  read_end location x f few short =
      let low : location < 2 ^ 40 = omega (arith, read_known location x f) in
      let w = read_in view arena starts lengths location x f in
      let i = record_inside view.expiry (part w.start w.len bytes) (location % 2 ^ 32) w.r w.read in
      let b : length bytes ≤ length arena = rw length-take (omega arith) in
      let sum : (location + (w.r.end - w.r.location)) % 2 ^ 64 ≡ location + w.r.key_offset + w.r.key.len + w.r.value.len = omega (arith, w.inside, w.short) in
      rw (← w.is) (sum, rw sum (omega (arith, w.inside, w.short)))

-- ---- what a reused push was shown

-- a span is no more than its length
spanned_short : (arena : List ℕ) (span : Span) → length (spanned arena span) ≤ span.len
unfolding spanned
spanned_short arena span = go (leb (span.at + span.len) (length arena))
  where
    go : (b : Bool) → length (cond b (part span.at span.len arena) []) ≤ span.len
    go true = rw length-take (omega arith)
    go false = omega arith

-- the record that was read has this key, value and header length
pub record Shows (key value : List ℕ) (header : ℕ) (arena : List ℕ) (y : RecordRef) : Type 0 where
  pub header_is : y.key_offset ≡ header
  pub key_is : spanned arena y.key ≡ key
  pub value_is : spanned arena y.value ≡ value

module _ (key value : List ℕ) (header : ℕ) (arena : List ℕ) where
  pub holds_record_law : (a : Option RecordRef) → holds_record key value header arena a ≡ true → (y : RecordRef) × (a ≡ Some y) × Shows key value header arena y
  unfolding holds_record
  holds_record_law None e = absurd (let z : ◌≡◌ {A = ℕ} 0 1 = cc in omega arith)
  holds_record_law (Some y) e =
      let t = both (eqb y.key_offset header) _ e in
      let u = both (same_bytes (spanned arena y.key) key) _ t.1 in
      (y, refl, record { header_is = eqb-true _ _ t.0; key_is = same_true _ _ u.0; value_is = same_true _ _ u.1 })

  -- one that was read in a set or a rebuild: header, key and value are no more than the arena
  pub reused_record : (view : SegmentView) (starts lengths : List ℕ) (l : ℕ) → holds_record key value header arena (record_in view arena starts lengths l) ≡ true
      → (y : RecordRef) × (record_in view arena starts lengths l ≡ Some y) × Shows key value header arena y × (header + length key + length value ≤ length arena)
  reused_record view starts lengths l e =
      let h = holds_record_law (record_in view arena starts lengths l) e in
      let y : RecordRef = h.0 in
      let s = h.2 in
      let i = read_inside view arena starts lengths l y h.1 in
      let short : length (take view.filled arena) ≤ length arena = rw length-take (omega arith) in
      let k : length key ≤ y.key.len = omega (arith, ap length s.key_is, spanned_short arena y.key) in
      let v : length value ≤ y.value.len = omega (arith, ap length s.value_is, spanned_short arena y.value) in
      (y, h.1, s, omega (arith, s.header_is, i.whole_inside))
