-- The record under a stored location of a finished set. "Location becomes segment × 2^32 + offset. Start and length stand in two
-- 256-word areas"; "A segment not inside the filled arena holds no readable record."
-- Assumes nothing.
use Rattle.std.specs.Prelude.{ℕ, zero, suc, ◌+◌, ◌-◌, ◌%◌, ◌^◌, Bool, false, cond, List, length, take, nat_le, nat_lt, slice_index, Option, Some, None}
use Rattle.hash_parts.specs.declared.setting.SegmentExpiry.{SegmentExpiry}
use Rattle.records.specs.Area.{part}
use Rattle.records.specs.Record.{record_at}
use Rattle.records.specs.declared.record.RecordRef.{RecordRef}
use Rattle.index.specs.Word.{offset_part, segment_part}
use Rattle.index.specs.declared.view.SegmentView.{SegmentView}

-- a record of a segment that starts at `begin`, with its location in the set and its spans in the arena. The end is "counted as
-- its own is", so by segment and offset; a number of 64 bits, which no location of a set makes wrap (`read_end` of sets' proofs)
abbrev pub ref_moved : RecordRef → ℕ → ℕ → RecordRef
ref_moved r location begin =
    record {
      location = location;
      key_offset = r.key_offset;
      key = record { at = begin + r.key.at; len = r.key.len };
      value = record { at = begin + r.value.at; len = r.value.len };
      end = (location + (r.end - r.location)) % 2 ^ 64;
      expires_at = r.expires_at;
    }

abbrev pub answer_moved : ℕ → ℕ → Option RecordRef → Option RecordRef
answer_moved location begin (Some r) = Some (ref_moved r location begin)
answer_moved location begin None = None

-- a location in its segment; `bytes` are the filled bytes
unfoldable pub in_segment : SegmentExpiry → List ℕ → ℕ → ℕ → ℕ → Option RecordRef
in_segment e bytes start len location =
    cond (nat_le (start + len) (length bytes)) (answer_moved location start (record_at e (part start len bytes) (offset_part location))) None

-- whether a segment is one of the set's
abbrev pub is_segment : SegmentView → List ℕ → List ℕ → ℕ → Bool
is_segment view starts lengths g = cond (nat_lt g view.segments) (cond (nat_lt g (length starts)) (nat_lt g (length lengths)) false) false

-- the record under a stored location: the location plus 1, or 0 for none
unfoldable pub record_in : SegmentView → List ℕ → List ℕ → List ℕ → ℕ → Option RecordRef
record_in view arena starts lengths zero = None
record_in view arena starts lengths (suc location) =
    cond (is_segment view starts lengths (segment_part location))
    (in_segment view.expiry (take view.filled arena) (slice_index starts (segment_part location)) (slice_index lengths (segment_part location)) location)
    None
