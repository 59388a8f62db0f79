-- Reading in a set whose segments were moved: what a location reads is what it read before. Assumes nothing.
use mathlib.Core.Path.{◌≡◌, refl, sym, ap, ap₂, ◌∙◌}
use mathlib.Core.Bool.{true, false}
use mathlib.Core.List.{List}
use Prim.Native.Nat.{ℕ, zero, suc, ◌+◌, ◌-◌, ◌/◌, ◌%◌, ◌^◌, ◌≤◌, ◌<◌}
use native.Mathlib.Omega.{arith}
use native.Mathlib.Decide.{dec_lt}
use lib.ListN.{length, take, get_or, length-take}
use borrow.Author.Tests.{le-leb, lt-ltb, le-ltb}
use Rattle.std.specs.Prelude.{Option, Some, None}
use Rattle.hash_parts.specs.declared.setting.SegmentExpiry.{SegmentExpiry}
use Rattle.records.specs.Area.{part}
use Rattle.records.specs.Record.{record_at, contents, stored_at}
use Rattle.records.specs.declared.record.RecordRef.{RecordRef}
use Rattle.records.proofs.Stored.{record_inside}
use Rattle.records.specs.declared.record.Span.{Span}
use Rattle.index.specs.Word.{segment_part}
use Rattle.index.specs.View.{answer_moved, in_segment, is_segment, record_in}
use Rattle.index.proofs.Contents.{stored_in}
use Rattle.index.specs.declared.view.SegmentView.{SegmentView}
use Rattle.index.proofs.Views.{part_front, part_part}

-- ---- a record whose segment stands elsewhere: its location, its lengths, its deadline and its end stay, its spans move with the segment

abbrev pub span_moved : ℕ → ℕ → Span → Span
span_moved from to span = record { at = to + (span.at - from); len = span.len }

abbrev pub relocated : ℕ → ℕ → Option RecordRef → Option RecordRef
relocated from to (Some r) =
    Some record {
      location = r.location;
      key_offset = r.key_offset;
      key = span_moved from to r.key;
      value = span_moved from to r.value;
      end = r.end;
      expires_at = r.expires_at;
    }
relocated from to None = None

-- the segment of a stored location, which is the location plus 1
abbrev pub segment_at : ℕ → ℕ
segment_at stored = segment_part (stored - 1)

moved_again : (location from to : ℕ) (a : Option RecordRef) → answer_moved location to a ≡ relocated from to (answer_moved location from a)
moved_again location from to None = refl
moved_again location from to (Some r) =
    let k : from + r.key.at - from ≡ r.key.at = omega arith in
    let v : from + r.value.at - from ≡ r.value.at = omega arith in
    rw (k, v)

-- what a location of a segment reads is what the segment's bytes hold
module _ (view : SegmentView) (arena starts lengths : List ℕ) (location : ℕ) where
  abbrev g : ℕ
  g = location / 2 ^ 32

  abbrev start : ℕ
  start = get_or starts g 0

  abbrev len : ℕ
  len = get_or lengths g 0

  abbrev bytes : List ℕ
  bytes = take view.filled arena

  home : start + len ≤ length bytes → (at n : ℕ) → at + n ≤ len → part (start + at) n arena ≡ part at n (part start len bytes)
  home i at n h =
      let short : length bytes ≤ view.filled = rw length-take (omega arith) in
      sym (part_part start len at n bytes h ∙ part_front (start + at) n view.filled arena (omega arith))

  moved_contents : start + len ≤ length bytes → (a : Option RecordRef) → record_at view.expiry (part start len bytes) (location % 2 ^ 32) ≡ a
      → contents arena (answer_moved location start a) ≡ contents (part start len bytes) a
  moved_contents i None f = refl
  moved_contents i (Some r) f =
      let b = record_inside view.expiry (part start len bytes) (location % 2 ^ 32) r f in
      let t : length (part start len bytes) ≤ len = rw length-take (omega arith) in
      ap₂ (λ (k w : List ℕ). Some record { key = k; value = w; deadline = r.expires_at })
      (home i r.key.at r.key.len (omega arith))
      (home i r.value.at r.value.len (omega arith))

  stored_by_segment : is_segment view starts lengths g ≡ true → start + len ≤ length bytes
      → stored_in view arena starts lengths (suc location) ≡ stored_at view.expiry (part start len bytes) (location % 2 ^ 32)
  unfolding stored_in record_in in_segment stored_at
  stored_by_segment s i = rw (s, le-leb _ _ i) (moved_contents i (record_at view.expiry (part start len bytes) (location % 2 ^ 32)) refl)

  stored_outside : is_segment view starts lengths g ≡ false → stored_in view arena starts lengths (suc location) ≡ None
  unfolding stored_in record_in
  stored_outside s = rw s

  read_by_segment : is_segment view starts lengths g ≡ true → start + len ≤ length bytes
      → record_in view arena starts lengths (suc location) ≡ answer_moved location start (record_at view.expiry (part start len bytes) (location % 2 ^ 32))
  unfolding record_in in_segment
  read_by_segment s i = rw (s, le-leb _ _ i)

  read_outside : is_segment view starts lengths g ≡ false → record_in view arena starts lengths (suc location) ≡ None
  unfolding record_in
  read_outside s = rw s

-- two sets of the same expiry kind and as many segments, whose segments hold the same bytes
module _ (x : SegmentExpiry) (n filled filled' : ℕ) (arena starts lengths arena' starts' lengths' : List ℕ)
    (room : (n ≤ length starts) × (n ≤ length lengths) × (n ≤ length starts') × (n ≤ length lengths'))
    (inside : (g : ℕ) → g < n → get_or starts g 0 + get_or lengths g 0 ≤ length (take filled arena))
    (inside' : (g : ℕ) → g < n → get_or starts' g 0 + get_or lengths' g 0 ≤ length (take filled' arena'))
    (same : (g : ℕ) → g < n → part (get_or starts' g 0) (get_or lengths' g 0) (take filled' arena') ≡ part (get_or starts g 0) (get_or lengths g 0) (take filled arena)) where
  abbrev view : SegmentView
  view = record { expiry = x; filled = filled; segments = n }

  abbrev view' : SegmentView
  view' = record { expiry = x; filled = filled'; segments = n }

  pub stored_moved : (m : ℕ) → stored_in view' arena' starts' lengths' m ≡ stored_in view arena starts lengths m
  unfolding stored_in record_in
  stored_moved zero = refl
  stored_moved (suc location) = go (dec_lt (location / 2 ^ 32) n)
    where
      g : ℕ
      g = location / 2 ^ 32

      is_in : (v : SegmentView) (ss ls : List ℕ) → v.segments ≡ n → g < n → n ≤ length ss → n ≤ length ls → is_segment v ss ls g ≡ true
      is_in v ss ls e h a b = rw (e, lt-ltb g n h, lt-ltb g (length ss) (omega arith), lt-ltb g (length ls) (omega arith))

      go : Dec (g < n) → stored_in view' arena' starts' lengths' (suc location) ≡ stored_in view arena starts lengths (suc location)
      go (yes h) =
          stored_by_segment view' arena' starts' lengths' location (is_in view' starts' lengths' refl h room.2 room.3) (inside' g h)
          ∙ ap (λ (b : List ℕ). stored_at x b (location % 2 ^ 32)) (same g h)
          ∙ sym (stored_by_segment view arena starts lengths location (is_in view starts lengths refl h room.0 room.1) (inside g h))
      go (no h) =
          let out : n ≤ g = omega arith in
          stored_outside view' arena' starts' lengths' location (rw (le-ltb g n out)) ∙ sym (stored_outside view arena starts lengths location (rw (le-ltb g n out)))

  -- the record under a location, with its spans where the segment stands now
  pub record_moved : (m : ℕ)
      → record_in view' arena' starts' lengths' m ≡ relocated (get_or starts (segment_at m) 0) (get_or starts' (segment_at m) 0) (record_in view arena starts lengths m)
  unfolding record_in
  record_moved zero = refl
  record_moved (suc location) = rw first (go (dec_lt (location / 2 ^ 32) n))
    where
      first : suc location - 1 ≡ location
      first = omega arith

      g : ℕ
      g = location / 2 ^ 32

      is_in : (v : SegmentView) (ss ls : List ℕ) → v.segments ≡ n → g < n → n ≤ length ss → n ≤ length ls → is_segment v ss ls g ≡ true
      is_in v ss ls e h a b = rw (e, lt-ltb g n h, lt-ltb g (length ss) (omega arith), lt-ltb g (length ls) (omega arith))

      go : Dec (g < n) → record_in view' arena' starts' lengths' (suc location) ≡ relocated (get_or starts g 0) (get_or starts' g 0) (record_in view arena starts lengths (suc location))
      go (yes h) =
          read_by_segment view' arena' starts' lengths' location (is_in view' starts' lengths' refl h room.2 room.3) (inside' g h)
          ∙ ap (λ (b : List ℕ). answer_moved location (get_or starts' g 0) (record_at x b (location % 2 ^ 32))) (same g h)
          ∙ moved_again location (get_or starts g 0) (get_or starts' g 0) (record_at x (part (get_or starts g 0) (get_or lengths g 0) (take filled arena)) (location % 2 ^ 32))
          ∙ ap (relocated (get_or starts g 0) (get_or starts' g 0))
          (sym (read_by_segment view arena starts lengths location (is_in view starts lengths refl h room.0 room.1) (inside g h)))
      go (no h) =
          let out : n ≤ g = omega arith in
          read_outside view' arena' starts' lengths' location (rw (le-ltb g n out))
          ∙ ap (relocated (get_or starts g 0) (get_or starts' g 0)) (sym (read_outside view arena starts lengths location (rw (le-ltb g n out))))
