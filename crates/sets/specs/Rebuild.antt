-- Rebuilding a set: rebuild open, reused push, copied push, rebuild finish. Each call by the questions that it asks, in their order, and by what it
-- leaves. Rebuilt set: "Keeps chosen segments unmoved, appends copied records as one last segment after the filled arena (the rebuilt set's filled bytes are
-- the source's plus the copied, whatever was dropped)".
-- Assumes nothing.
use Rattle.std.specs.Prelude.{ℕ, zero, suc, ◌+◌, ◌-◌, ◌*◌, ◌%◌, ◌^◌, Bool, true, false, Result, cond, List, [], ◌∷◌, length, ◌==◌, nat_le, nat_lt, slice_index, slice_set, Option, Some, None}
use Rattle.hash_parts.specs.Duration.{encoded_expiry}
use Rattle.hash_parts.specs.Hash.{tag_of}
use Rattle.hash_parts.specs.Outcome.{Outcome}
use Rattle.hash_parts.specs.declared.duration.Duration.{Duration}
use Rattle.hash_parts.specs.declared.error.SegmentCacheBuildError.{SegmentCacheBuildError}
use Rattle.records.specs.Area.{pasted, same_bytes, spanned, over}
use Rattle.records.specs.Record.{record_bytes, record_size}
use Rattle.records.specs.declared.record.RecordRef.{RecordRef}
use Rattle.index.specs.Build.{cleared, empty_slot}
use Rattle.index.specs.Filter.{displaced_marked}
use Rattle.index.specs.Packed.{packed_index, packed_scratch}
use Rattle.index.specs.Segments.{most_segments, padded}
use Rattle.index.specs.View.{record_in}
use Rattle.index.specs.Word.{location_in, offset_part, segment_part, word_of}
use Rattle.index.specs.declared.view.SegmentView.{SegmentView}
use Rattle.sets.specs.Answers.{Reply, accept, refuse, RebuildPlaced, rebuild_open_reply, rebuild_push_reply, rebuild_finish_reply}
use Rattle.sets.specs.Kept.{chosen, is_kept, kept_count, kept_of, new_number, retained}
use Rattle.sets.specs.Lookup.{set_fits}
use Rattle.sets.specs.Questions.{all, arena_holds, buckets_in, bytes_fit, counts_fit, decided, filter_words_in, first_no, lifetime_fits, most_records, open_areas_hold, scratch_holds, segment_areas_hold}
use Rattle.sets.specs.declared.builder.PushedRecord.{PushedRecord}
use Rattle.sets.specs.declared.cache.FrozenSegmentCache.{FrozenSegmentCache}
use Rattle.sets.specs.declared.rebuild.SegmentRecordLocation.{SegmentRecordLocation}
use Rattle.sets.specs.declared.rebuild.SharedSegmentCacheBuild.{SharedSegmentCacheBuild}
use Rattle.sets.specs.declared.rebuild.SharedSegmentCacheBuilder.{SharedSegmentCacheBuilder}

-- ---- question 1

-- "In rebuild calls, does each segment lie in the filled arena?" The first so many segments of two areas
unfoldable pub segments_inside : ℕ → ℕ → List ℕ → List ℕ → Bool
segments_inside zero filled starts lengths = true
segments_inside (suc n) filled starts lengths = cond (segments_inside n filled starts lengths) (nat_le (slice_index starts n + slice_index lengths n) filled) false

-- of a source, with its segment areas and arena
unfoldable pub areas_hold_source : FrozenSegmentCache → List ℕ → List ℕ → ℕ → Bool
areas_hold_source s starts lengths arena =
    all
    (set_fits s
    ∷ segment_areas_hold (length starts) (length lengths)
    ∷ arena_holds s.filled arena
    ∷ segments_inside s.segments s.filled starts lengths
    ∷ [])

-- "the rebuilt set's filled bytes are the source's plus the copied"
abbrev pub rebuild_filled : SharedSegmentCacheBuilder → ℕ
rebuild_filled r = r.source_filled + r.copied_bytes

-- one segment for some bytes, none for no bytes
abbrev pub segment_for : ℕ → ℕ
segment_for bytes = cond (bytes == 0) 0 1

-- of a rebuild: "a rebuild's kept ones, plus one if copied bytes stand, at most 256"
unfoldable pub rebuild_fits : SharedSegmentCacheBuilder → Bool
rebuild_fits r =
    all
    (counts_fit r.config r.expected_entries r.bucket_count r.filter_words
    ∷ nat_le r.inserted_entries r.expected_entries
    ∷ nat_le (retained r.kept + segment_for r.copied_bytes) most_segments
    ∷ bytes_fit r.inserted_entries r.logical_key_bytes
    ∷ bytes_fit r.inserted_entries r.logical_value_bytes
    ∷ bytes_fit r.inserted_entries r.record_header_bytes
    ∷ [])

-- and its index, segment areas and arena, index and arena by their lengths; the copied segment is not written before finish
unfoldable pub areas_hold_rebuild : SharedSegmentCacheBuilder → ℕ → List ℕ → List ℕ → ℕ → Bool
areas_hold_rebuild r index starts lengths arena =
    all
    (rebuild_fits r
    ∷ nat_le (8 * r.bucket_count) index
    ∷ segment_areas_hold (length starts) (length lengths)
    ∷ arena_holds (rebuild_filled r) arena
    ∷ segments_inside (retained r.kept) (rebuild_filled r) starts lengths
    ∷ [])

-- ---- rebuild open

-- questions 1 and 6; the new areas by their lengths
unfoldable pub ask_rebuild_open : FrozenSegmentCache → List ℕ → List ℕ → ℕ → ℕ → ℕ → List ℕ → ℕ → ℕ → ℕ → ℕ → List (Bool × ℕ)
ask_rebuild_open s source_starts source_lengths arena records copied flags index filter starts lengths =
    (areas_hold_source s source_starts source_lengths arena, 11)
    ∷ ((length flags == s.segments), 3)
    ∷ (nat_le records most_records, 3)
    ∷ (nat_le (kept_count flags + segment_for copied) most_segments, 7)
    ∷ (open_areas_hold s.config records index filter, 10)
    ∷ (segment_areas_hold starts lengths, 10)
    ∷ []

abbrev pub rebuild_opened : FrozenSegmentCache → ℕ → List ℕ → ℕ → SharedSegmentCacheBuilder
rebuild_opened s records flags tick =
    record {
      config = s.config;
      expected_entries = records;
      inserted_entries = 0;
      bucket_count = buckets_in s.config records;
      filter_words = filter_words_in s.config records;
      kept = kept_of flags;
      source_filled = s.filled;
      copied_bytes = 0;
      logical_key_bytes = 0;
      logical_value_bytes = 0;
      record_header_bytes = 0;
      reused_entries = 0;
      reused_record_bytes = 0;
      source_now_tick = tick;
    }

-- what rebuild open leaves: its answer, and the new areas
pub record RebuildOpened : Type 0 where
  pub answer : Reply SharedSegmentCacheBuilder FrozenSegmentCache
  pub index : List ℕ
  pub filter : List ℕ
  pub starts : List ℕ
  pub lengths : List ℕ

abbrev pub rebuild_open_result : Result SharedSegmentCacheBuilder SegmentCacheBuildError → FrozenSegmentCache → List ℕ → List ℕ → List ℕ → List ℕ → RebuildOpened
rebuild_open_result r source index filter starts lengths =
    record { answer = rebuild_open_reply source r; index = index; filter = filter; starts = starts; lengths = lengths }

-- "Rebuild open writes the kept segments' starts and lengths, numbered anew in order, and 0 in the rest"
unfoldable pub after_rebuild_open : FrozenSegmentCache → List ℕ → List ℕ → List ℕ → ℕ → ℕ → List ℕ → ℕ → List ℕ → List ℕ → List ℕ → List ℕ → RebuildOpened
after_rebuild_open s source_starts source_lengths arena records copied flags tick index filter starts lengths =
    decided
    (first_no (ask_rebuild_open s source_starts source_lengths (length arena) records copied flags (length index) (length filter) (length starts) (length lengths)))
    (record {
      answer = accept (rebuild_opened s records flags tick);
      index = cleared index (8 * buckets_in s.config records);
      filter = cleared filter (filter_words_in s.config records);
      starts = over (padded (chosen flags source_starts)) starts;
      lengths = over (padded (chosen flags source_lengths)) lengths;
    })
    (λ n. record { answer = refuse n s; index = index; filter = filter; starts = starts; lengths = lengths })

-- ---- reused push

-- a reader of the kept segments
abbrev pub kept_view : SharedSegmentCacheBuilder → SegmentView
kept_view r = record { expiry = r.config.expiry; filled = rebuild_filled r; segments = retained r.kept }

-- a location of the source in the rebuild: its segment numbered anew
abbrev pub moved_location : SharedSegmentCacheBuilder → ℕ → ℕ
moved_location r location = location_in (new_number r.kept (segment_part location)) (offset_part location)

-- "Does the location hold this key, value and header length?"
unfoldable pub holds_record : List ℕ → List ℕ → ℕ → List ℕ → Option RecordRef → Bool
holds_record key value header arena None = false
holds_record key value header arena (Some y) =
    all ((y.key_offset == header) ∷ same_bytes (spanned arena y.key) key ∷ same_bytes (spanned arena y.value) value ∷ [])

-- questions 1 and 7; the filter by its length; "rebuild pushes walk after all their other questions"
unfoldable pub ask_reused : SharedSegmentCacheBuilder → ℕ → List ℕ → List ℕ → SegmentRecordLocation → List ℕ → ℕ → List ℕ → List ℕ → List ℕ → List (Bool × ℕ)
ask_reused r h key value source index filter starts lengths arena =
    (areas_hold_rebuild r (length index) starts lengths (length arena), 11)
    ∷ (nat_le r.filter_words filter, 11)
    ∷ (nat_lt r.inserted_entries r.expected_entries, 3)
    ∷ (is_kept r.kept (segment_part source.location), 3)
    ∷ (holds_record key value source.header_bytes arena (record_in (kept_view r) arena starts lengths (moved_location r source.location + 1)), 12)
    ∷ (((empty_slot index r.bucket_count h).number == 0), (empty_slot index r.bucket_count h).number)
    ∷ []

-- one record more: its header, key and value bytes, and then the copied bytes and the totals of reused records
abbrev pub accounted : SharedSegmentCacheBuilder → ℕ → ℕ → ℕ → ℕ → ℕ → ℕ → SharedSegmentCacheBuilder
accounted r header key value copied entries bytes =
    record {
      config = r.config;
      expected_entries = r.expected_entries;
      inserted_entries = r.inserted_entries + 1;
      bucket_count = r.bucket_count;
      filter_words = r.filter_words;
      kept = r.kept;
      source_filled = r.source_filled;
      copied_bytes = copied;
      logical_key_bytes = r.logical_key_bytes + key;
      logical_value_bytes = r.logical_value_bytes + value;
      record_header_bytes = r.record_header_bytes + header;
      reused_entries = entries;
      reused_record_bytes = bytes;
      source_now_tick = r.source_now_tick;
    }

-- the totals of reused records are free numbers: they wrap at 64 bits
abbrev pub reused_grown : SharedSegmentCacheBuilder → ℕ → ℕ → ℕ → SharedSegmentCacheBuilder
reused_grown r header key value =
    accounted r header key value r.copied_bytes ((r.reused_entries + 1) % 2 ^ 64) ((r.reused_record_bytes + (header + key + value)) % 2 ^ 64)

-- what a reused push leaves: its answer, and the index and filter
pub record Reused : Type 0 where
  pub answer : Reply RebuildPlaced SharedSegmentCacheBuilder
  pub index : List ℕ
  pub filter : List ℕ

abbrev pub reused_result : Result PushedRecord SegmentCacheBuildError → SharedSegmentCacheBuilder → List ℕ → List ℕ → Reused
reused_result a r index filter = record { answer = rebuild_push_reply r a; index = index; filter = filter }

abbrev pub reused_made : ℕ → SharedSegmentCacheBuilder → ℕ → ℕ → ℕ → SegmentRecordLocation → List ℕ → List ℕ → Reused
reused_made slot r h key value source index filter =
    record {
      answer =
          accept
          record {
            builder = reused_grown r source.header_bytes key value;
            slot = slot;
            location = moved_location r source.location;
          };
      index = slice_set index slot (word_of (tag_of h) (moved_location r source.location));
      filter = displaced_marked filter r.filter_words h slot r.bucket_count;
    }

unfoldable pub after_reused : SharedSegmentCacheBuilder → ℕ → List ℕ → List ℕ → SegmentRecordLocation → List ℕ → List ℕ → List ℕ → List ℕ → List ℕ → Reused
after_reused r h key value source index filter starts lengths arena =
    decided (first_no (ask_reused r h key value source index (length filter) starts lengths arena))
    (reused_made (empty_slot index r.bucket_count h).value r h (length key) (length value) source index filter)
    (λ n. record { answer = refuse n r; index = index; filter = filter })

-- ---- copied push

-- "copies have a tick given at rebuild open as base"
abbrev pub copied_deadline : SharedSegmentCacheBuilder → Option Duration → Outcome
copied_deadline r ttl = encoded_expiry r.config.expiry ttl r.source_now_tick

abbrev pub copied_size : SharedSegmentCacheBuilder → ℕ → ℕ → ℕ
copied_size r key value = record_size r.config.expiry key value

abbrev pub copied_grown : SharedSegmentCacheBuilder → ℕ → ℕ → ℕ → SharedSegmentCacheBuilder
copied_grown r size key value = accounted r (size - key - value) key value (r.copied_bytes + size) r.reused_entries r.reused_record_bytes

-- copied records stand in the segment after the kept ones
abbrev pub copied_location : SharedSegmentCacheBuilder → ℕ
copied_location r = location_in (retained r.kept) r.copied_bytes

-- questions 1, 2 and 7; key, value, filter and arena by their lengths
unfoldable pub ask_copied : SharedSegmentCacheBuilder → ℕ → ℕ → ℕ → Option Duration → List ℕ → ℕ → List ℕ → List ℕ → ℕ → List (Bool × ℕ)
ask_copied r h key value ttl index filter starts lengths arena =
    (areas_hold_rebuild r (length index) starts lengths arena, 11)
    ∷ (nat_le r.filter_words filter, 11)
    ∷ (lifetime_fits ttl, 9)
    ∷ (nat_lt r.inserted_entries r.expected_entries, 3)
    ∷ (((copied_deadline r ttl).number == 0), (copied_deadline r ttl).number)
    ∷ (nat_le (rebuild_filled r + copied_size r key value) arena, 10)
    ∷ (nat_lt (retained r.kept) most_segments, 7)
    ∷ (((empty_slot index r.bucket_count h).number == 0), (empty_slot index r.bucket_count h).number)
    ∷ []

-- what a copied push leaves: its answer, and the index, filter and arena
pub record Copied : Type 0 where
  pub answer : Reply RebuildPlaced SharedSegmentCacheBuilder
  pub index : List ℕ
  pub filter : List ℕ
  pub arena : List ℕ

abbrev pub copied_result : Result PushedRecord SegmentCacheBuildError → SharedSegmentCacheBuilder → List ℕ → List ℕ → List ℕ → Copied
copied_result a r index filter arena = record { answer = rebuild_push_reply r a; index = index; filter = filter; arena = arena }

abbrev pub copied_made : ℕ → ℕ → SharedSegmentCacheBuilder → ℕ → List ℕ → List ℕ → List ℕ → List ℕ → List ℕ → Copied
copied_made slot deadline r h key value index filter arena =
    record {
      answer =
          accept
          record {
            builder = copied_grown r (copied_size r (length key) (length value)) (length key) (length value);
            slot = slot;
            location = copied_location r;
          };
      index = slice_set index slot (word_of (tag_of h) (copied_location r));
      filter = displaced_marked filter r.filter_words h slot r.bucket_count;
      arena = pasted (rebuild_filled r) (record_bytes r.config.expiry key value deadline) arena;
    }

unfoldable pub after_copied : SharedSegmentCacheBuilder → ℕ → List ℕ → List ℕ → Option Duration → List ℕ → List ℕ → List ℕ → List ℕ → List ℕ → Copied
after_copied r h key value ttl index filter starts lengths arena =
    decided (first_no (ask_copied r h (length key) (length value) ttl index (length filter) starts lengths (length arena)))
    (copied_made (empty_slot index r.bucket_count h).value (copied_deadline r ttl).value r h key value index filter arena)
    (λ n. record { answer = refuse n r; index = index; filter = filter; arena = arena })

-- ---- rebuild finish

-- questions 1 and 8; index, scratch and arena by their lengths
unfoldable pub ask_rebuild_finish : SharedSegmentCacheBuilder → ℕ → List ℕ → List ℕ → ℕ → ℕ → List (Bool × ℕ)
ask_rebuild_finish r index starts lengths scratch arena =
    (areas_hold_rebuild r index starts lengths arena, 11)
    ∷ ((r.inserted_entries == r.expected_entries), 3)
    ∷ (scratch_holds r.config r.bucket_count scratch, 10)
    ∷ []

-- "No segment is added for zero copied bytes unless none is kept."
unfoldable pub adds_segment : SharedSegmentCacheBuilder → Bool
adds_segment r = cond (r.copied_bytes == 0) (retained r.kept == 0) true

-- the sum of the first so many words of an area
unfoldable pub sum_of : ℕ → List ℕ → ℕ
sum_of zero words = 0
sum_of (suc n) words = sum_of n words + slice_index words n

abbrev pub rebuilt_set : SharedSegmentCacheBuilder → List ℕ → FrozenSegmentCache
rebuilt_set r lengths =
    record {
      config = r.config;
      entries = r.expected_entries;
      buckets = r.bucket_count;
      filter_words = r.filter_words;
      segments = retained r.kept + cond (adds_segment r) 1 0;
      filled = rebuild_filled r;
      record_bytes = sum_of (retained r.kept) lengths + r.copied_bytes;
      logical_key_bytes = r.logical_key_bytes;
      logical_value_bytes = r.logical_value_bytes;
      record_header_bytes = r.record_header_bytes;
    }

abbrev pub build_of : SharedSegmentCacheBuilder → List ℕ → SharedSegmentCacheBuild
build_of r lengths =
    record {
      cache = rebuilt_set r lengths;
      reused_entries = r.reused_entries;
      reused_record_bytes = r.reused_record_bytes;
      copied_record_bytes = r.copied_bytes;
      newly_allocated_bytes = 64 * r.bucket_count + 8 * r.filter_words + r.copied_bytes;
    }

-- what rebuild finish leaves: its answer, and the index, segment areas and scratch
pub record RebuildFinished : Type 0 where
  pub answer : Reply SharedSegmentCacheBuild SharedSegmentCacheBuilder
  pub index : List ℕ
  pub starts : List ℕ
  pub lengths : List ℕ
  pub scratch : List ℕ

abbrev pub rebuild_finish_result : Result SharedSegmentCacheBuild SegmentCacheBuildError → SharedSegmentCacheBuilder → List ℕ → List ℕ → List ℕ → List ℕ → RebuildFinished
rebuild_finish_result a r index starts lengths scratch =
    record { answer = rebuild_finish_reply r a; index = index; starts = starts; lengths = lengths; scratch = scratch }

-- "its finish adds the last"
abbrev pub with_last : SharedSegmentCacheBuilder → List ℕ → ℕ → List ℕ
with_last r area word = cond (adds_segment r) (slice_set area (retained r.kept) word) area

abbrev pub rebuild_finish_made : SharedSegmentCacheBuilder → List ℕ → List ℕ → List ℕ → List ℕ → RebuildFinished
rebuild_finish_made r index starts lengths scratch =
    record {
      answer = accept (build_of r lengths);
      index = cond r.config.packed_bucket_index (packed_index r.bucket_count index scratch) index;
      starts = with_last r starts r.source_filled;
      lengths = with_last r lengths r.copied_bytes;
      scratch = cond r.config.packed_bucket_index (packed_scratch r.bucket_count index scratch) scratch;
    }

unfoldable pub after_rebuild_finish : SharedSegmentCacheBuilder → List ℕ → List ℕ → List ℕ → List ℕ → List ℕ → RebuildFinished
after_rebuild_finish r index starts lengths scratch arena =
    decided (first_no (ask_rebuild_finish r (length index) starts lengths (length scratch) (length arena)))
    (rebuild_finish_made r index starts lengths scratch)
    (λ n. record { answer = refuse n r; index = index; starts = starts; lengths = lengths; scratch = scratch })
