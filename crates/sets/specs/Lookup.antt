-- The calls on a finished set: lookup, peek, mark clearing, probe, the step of the walk, statistics. Each by the questions that it asks, in
-- their order, and by what it leaves. Assumes nothing.
use Rattle.std.specs.Prelude.{ℕ, zero, suc, ◌-◌, ◌*◌, ◌/◌, ◌%◌, ◌^◌, Bool, Option, Some, None, Result, false, cond, List, [], ◌∷◌, length, nat_le, slice_index, slice_set}
use Rattle.hash_parts.specs.Duration.{lives_at, remaining}
use Rattle.hash_parts.specs.ZeroBytes.{bytes_of}
use Rattle.hash_parts.specs.declared.error.SegmentCacheBuildError.{SegmentCacheBuildError}
use Rattle.hash_parts.specs.declared.setting.SegmentCacheConfig.{SegmentCacheConfig}
use Rattle.records.specs.declared.record.RecordRef.{RecordRef}
use Rattle.records.specs.declared.record.Span.{Span}
use Rattle.index.specs.Find.{find_in, slot_at}
use Rattle.index.specs.Packed.{marked_byte, unmarked_byte, with_byte}
use Rattle.index.specs.Segments.{most_segments}
use Rattle.index.specs.View.{record_in}
use Rattle.index.specs.Word.{marked, unmarked}
use Rattle.index.specs.declared.find.FoundRecord.{FoundRecord}
use Rattle.index.specs.Slot.{IndexSlot}
use Rattle.index.specs.declared.view.SegmentView.{SegmentView}
use Rattle.sets.specs.Answers.{Reply, accept, refuse, get_reply, take_reply}
use Rattle.sets.specs.Questions.{all, arena_holds, bytes_fit, counts_fit, decided, first_no, segment_areas_hold}
use Rattle.sets.specs.Stats.{stats_of}
use Rattle.sets.specs.declared.cache.FrozenSegmentCache.{FrozenSegmentCache}
use Rattle.sets.specs.declared.cache.SegmentBaseRecord.{SegmentBaseRecord}
use Rattle.sets.specs.declared.stats.SegmentCacheStats.{SegmentCacheStats}

-- ---- question 1 of a finished set

-- its numbers: "a finished set's segments 1 to 256"
unfoldable pub set_fits : FrozenSegmentCache → Bool
set_fits s =
    all
    (counts_fit s.config s.entries s.buckets s.filter_words
    ∷ nat_le 1 s.segments
    ∷ nat_le s.segments most_segments
    ∷ bytes_fit s.entries s.logical_key_bytes
    ∷ bytes_fit s.entries s.logical_value_bytes
    ∷ bytes_fit s.entries s.record_header_bytes
    ∷ [])

-- and its index, segment areas and arena, by their lengths
unfoldable pub areas_hold_set : FrozenSegmentCache → ℕ → ℕ → ℕ → ℕ → Bool
areas_hold_set s index starts lengths arena =
    all (set_fits s ∷ nat_le (8 * s.buckets) index ∷ segment_areas_hold starts lengths ∷ arena_holds s.filled arena ∷ [])

-- and for a find its filter too
unfoldable pub areas_hold_lookup : FrozenSegmentCache → ℕ → ℕ → ℕ → ℕ → ℕ → Bool
areas_hold_lookup s index filter starts lengths arena = all (areas_hold_set s index starts lengths arena ∷ nat_le s.filter_words filter ∷ [])

-- ---- what the calls ask: "Any no: 11 (every call but open ..)", and no other question

-- lookup, peek, mark clearing and probe; all areas by their lengths
unfoldable pub ask_lookup : FrozenSegmentCache → ℕ → ℕ → ℕ → ℕ → ℕ → List (Bool × ℕ)
ask_lookup s index filter starts lengths arena = (areas_hold_lookup s index filter starts lengths arena, 11) ∷ []

-- the step of the walk, which has no use for the filter
unfoldable pub ask_walk : FrozenSegmentCache → ℕ → ℕ → ℕ → ℕ → List (Bool × ℕ)
ask_walk s index starts lengths arena = (areas_hold_set s index starts lengths arena, 11) ∷ []

-- statistics, to which no area is lent
unfoldable pub ask_stats : FrozenSegmentCache → List (Bool × ℕ)
ask_stats s = (set_fits s, 11) ∷ []

-- ---- finding

abbrev pub view_of : FrozenSegmentCache → SegmentView
view_of s = record { expiry = s.config.expiry; filled = s.filled; segments = s.segments }

-- the record of a key, by the find of crates/index
abbrev pub find_of : FrozenSegmentCache → ℕ → List ℕ → List ℕ → List ℕ → List ℕ → List ℕ → List ℕ → Option FoundRecord
find_of s h key index filter starts lengths arena =
    find_in (view_of s) s.config.packed_bucket_index index s.buckets filter s.filter_words starts lengths arena key h

-- ---- marks: bit 63 of a slot's word, or the top bit of its control byte

unfoldable pub slot_marked : Bool → List ℕ → ℕ → List ℕ
slot_marked packed index slot =
    cond packed (slice_set index (slot / 8) (with_byte marked_byte (slot % 8) (slice_index index (slot / 8)))) (slice_set index slot (marked (slice_index index slot)))

unfoldable pub slot_cleared : Bool → List ℕ → ℕ → List ℕ
slot_cleared packed index slot =
    cond packed (slice_set index (slot / 8) (with_byte unmarked_byte (slot % 8) (slice_index index (slot / 8)))) (slice_set index slot (unmarked (slice_index index slot)))

unfoldable pub slot_accessed : Bool → List ℕ → ℕ → Bool
slot_accessed packed index slot = cond packed (nat_le 128 (slice_index (bytes_of 8 (slice_index index (slot / 8))) (slot % 8))) (nat_le (2 ^ 63) (slice_index index slot))

-- ---- lookup: "A live hit sets its mark"

unfoldable pub live_value : ℕ → FoundRecord → Reply (Option Span) (Unit {0})
live_value tick y = cond (lives_at y.entry.expires_at tick) (accept (Some y.entry.value)) (accept None)

unfoldable pub live_marked : ℕ → Bool → List ℕ → FoundRecord → List ℕ
live_marked tick packed index y = cond (lives_at y.entry.expires_at tick) (slot_marked packed index y.slot) index

-- what a lookup leaves: its answer and the index
pub record Got : Type 0 where
  pub answer : Reply (Option Span) (Unit {0})
  pub index : List ℕ

abbrev pub get_result : Result (Option Span) SegmentCacheBuildError → List ℕ → Got
get_result r index = record { answer = get_reply r; index = index }

abbrev pub gotten : ℕ → Bool → List ℕ → Option FoundRecord → Got
gotten tick packed index (Some y) = record { answer = live_value tick y; index = live_marked tick packed index y }
gotten tick packed index None = record { answer = accept None; index = index }

abbrev pub got_refused : List ℕ → ℕ → Got
got_refused index n = record { answer = refuse n tt; index = index }

unfoldable pub after_get : FrozenSegmentCache → ℕ → List ℕ → ℕ → List ℕ → List ℕ → List ℕ → List ℕ → List ℕ → Got
after_get s h key tick index filter starts lengths arena =
    decided (first_no (ask_lookup s (length index) (length filter) (length starts) (length lengths) (length arena)))
    (gotten tick s.config.packed_bucket_index index (find_of s h key index filter starts lengths arena))
    (got_refused index)

-- ---- peek: the same questions and the same answer, and no mark

unfoldable pub after_peek : FrozenSegmentCache → ℕ → List ℕ → ℕ → List ℕ → List ℕ → List ℕ → List ℕ → List ℕ → Got
after_peek s h key tick index filter starts lengths arena =
    record { answer = (after_get s h key tick index filter starts lengths arena).answer; index = index }

-- ---- mark clearing: "mark clearing also finds lapsed records"

pub record Taken : Type 0 where
  pub answer : Reply Bool (Unit {0})
  pub index : List ℕ

abbrev pub take_result : Result Bool SegmentCacheBuildError → List ℕ → Taken
take_result r index = record { answer = take_reply r; index = index }

abbrev pub taken_of : Bool → List ℕ → Option FoundRecord → Taken
taken_of packed index (Some y) = record { answer = accept (slot_accessed packed index y.slot); index = slot_cleared packed index y.slot }
taken_of packed index None = record { answer = accept false; index = index }

abbrev pub take_refused : List ℕ → ℕ → Taken
take_refused index n = record { answer = refuse n tt; index = index }

unfoldable pub after_take : FrozenSegmentCache → ℕ → List ℕ → List ℕ → List ℕ → List ℕ → List ℕ → List ℕ → Taken
after_take s h key index filter starts lengths arena =
    decided (first_no (ask_lookup s (length index) (length filter) (length starts) (length lengths) (length arena)))
    (taken_of s.config.packed_bucket_index index (find_of s h key index filter starts lengths arena))
    (take_refused index)

-- ---- probe and walk: "Probe and walk (slots ascending) tell the remaining time"

abbrev pub base_record : SegmentCacheConfig → ℕ → FoundRecord → SegmentBaseRecord
base_record c tick y =
    record {
      slot = y.slot;
      location = y.entry.location;
      key_offset = y.entry.key_offset;
      key = y.entry.key;
      value = y.entry.value;
      end = y.entry.end;
      remaining_ttl = remaining c.expiry y.entry.expires_at tick;
    }

-- both tell of a find the record that it found
abbrev pub tell_found : SegmentCacheConfig → ℕ → Option FoundRecord → Option SegmentBaseRecord
tell_found c tick (Some y) = Some (base_record c tick y)
tell_found c tick None = None

unfoldable pub probe_answer : FrozenSegmentCache → ℕ → List ℕ → ℕ → List ℕ → List ℕ → List ℕ → List ℕ → List ℕ → Reply (Option SegmentBaseRecord) (Unit {0})
probe_answer s h key tick index filter starts lengths arena =
    decided (first_no (ask_lookup s (length index) (length filter) (length starts) (length lengths) (length arena)))
    (accept (tell_found s.config tick (find_of s h key index filter starts lengths arena)))
    (λ n. refuse n tt)

-- ---- the walk: the first slot from one on that names a readable record; no tag is compared

abbrev pub named_by : (ℕ → Option RecordRef) → IndexSlot → Option RecordRef
named_by read None = None
named_by read (Some (tag, stored)) = read stored

unfoldable pub entry_at : (ℕ → Option RecordRef) → Bool → ℕ → List ℕ → ℕ → Option RecordRef
entry_at read packed buckets index slot = named_by read (slot_at packed buckets index slot)

-- a record that can't be read is skipped
abbrev pub found_or : ℕ → Option RecordRef → Option FoundRecord → Option FoundRecord
found_or slot (Some r) after = Some (record { slot = slot; entry = r })
found_or slot None after = after

-- of so many slots from one on
unfoldable pub first_entry : (ℕ → Option RecordRef) → ℕ → ℕ → Option FoundRecord
first_entry at slot zero = None
first_entry at slot (suc n) = found_or slot (at slot) (first_entry at (suc slot) n)

unfoldable pub next_entry : (ℕ → Option RecordRef) → Bool → ℕ → List ℕ → ℕ → Option FoundRecord
next_entry read packed buckets index from = first_entry (entry_at read packed buckets index) from (8 * buckets - from)

unfoldable pub walk_answer : FrozenSegmentCache → ℕ → ℕ → List ℕ → List ℕ → List ℕ → List ℕ → Reply (Option SegmentBaseRecord) (Unit {0})
walk_answer s from tick index starts lengths arena =
    decided (first_no (ask_walk s (length index) (length starts) (length lengths) (length arena)))
    (accept (tell_found s.config tick (next_entry (record_in (view_of s) arena starts lengths) s.config.packed_bucket_index s.buckets index from)))
    (λ n. refuse n tt)

-- ---- statistics

unfoldable pub stats_answer : FrozenSegmentCache → Reply SegmentCacheStats (Unit {0})
stats_answer s = decided (first_no (ask_stats s)) (accept (stats_of s)) (λ n. refuse n tt)
