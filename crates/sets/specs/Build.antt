-- Building a set: open, push, finish. Each call by the questions that it asks, in their order, and by what it leaves.
-- Assumes nothing.
use Rattle.std.specs.Prelude.{ℕ, ◌+◌, ◌-◌, ◌*◌, Bool, Result, cond, List, [], ◌∷◌, length, take, ◌==◌, nat_le, nat_lt, slice_set, Option}
use Rattle.hash_parts.specs.Duration.{encoded_expiry}
use Rattle.hash_parts.specs.Hash.{tag_of}
use Rattle.hash_parts.specs.Outcome.{Outcome}
use Rattle.hash_parts.specs.declared.duration.Duration.{Duration}
use Rattle.hash_parts.specs.declared.error.SegmentCacheBuildError.{SegmentCacheBuildError}
use Rattle.hash_parts.specs.declared.setting.SegmentCacheConfig.{SegmentCacheConfig}
use Rattle.records.specs.Area.{pasted, over}
use Rattle.records.specs.Record.{record_bytes, record_size}
use Rattle.index.specs.Build.{build_slot, cleared}
use Rattle.index.specs.Filter.{displaced_marked}
use Rattle.index.specs.Packed.{packed_index, packed_scratch}
use Rattle.index.specs.Segments.{lengths_of, locations_inside, most_segments, padded, split_words, starts_of}
use Rattle.index.specs.Word.{word_of}
use Rattle.sets.specs.Answers.{Reply, accept, refuse, Placed, open_reply, push_reply, finish_reply}
use Rattle.sets.specs.Questions.{all, arena_holds, ask_open, buckets_in, bytes_fit, counts_fit, decided, filter_words_in, first_no, lifetime_fits, scratch_holds, segment_areas_hold, target_fits}
use Rattle.sets.specs.declared.builder.PushedRecord.{PushedRecord}
use Rattle.sets.specs.declared.builder.SegmentCacheBuilder.{SegmentCacheBuilder}
use Rattle.sets.specs.declared.cache.FrozenSegmentCache.{FrozenSegmentCache}

-- ---- question 1 of a builder

-- its numbers: "records in no more than announced", "in a build key and value bytes together no more than the filled bytes"; header bytes are what is
-- left of the filled bytes
unfoldable pub builder_fits : SegmentCacheBuilder → Bool
builder_fits b =
    all
    (counts_fit b.config b.expected_entries b.bucket_count b.filter_words
    ∷ nat_le b.inserted_entries b.expected_entries
    ∷ bytes_fit b.inserted_entries b.logical_key_bytes
    ∷ bytes_fit b.inserted_entries b.logical_value_bytes
    ∷ nat_le (b.logical_key_bytes + b.logical_value_bytes) b.filled
    ∷ bytes_fit b.inserted_entries (b.filled - b.logical_key_bytes - b.logical_value_bytes)
    ∷ [])

-- and its index and arena, by their lengths
unfoldable pub areas_hold_builder : SegmentCacheBuilder → ℕ → ℕ → Bool
areas_hold_builder b index arena = all (builder_fits b ∷ nat_le (8 * b.bucket_count) index ∷ arena_holds b.filled arena ∷ [])

-- ---- open

abbrev pub builder_opened : SegmentCacheConfig → ℕ → SegmentCacheBuilder
builder_opened c records =
    record {
      config = c;
      expected_entries = records;
      inserted_entries = 0;
      bucket_count = buckets_in c records;
      filter_words = filter_words_in c records;
      filled = 0;
      logical_key_bytes = 0;
      logical_value_bytes = 0;
    }

-- what open leaves: its answer, and the index and filter areas
pub record Opened : Type 0 where
  pub answer : Reply SegmentCacheBuilder (Unit {0})
  pub index : List ℕ
  pub filter : List ℕ

abbrev pub open_result : Result SegmentCacheBuilder SegmentCacheBuildError → List ℕ → List ℕ → Opened
open_result r index filter = record { answer = open_reply r; index = index; filter = filter }

-- "Open and rebuild open set to 0 the index and filter words that their counts need"
unfoldable pub after_open : SegmentCacheConfig → ℕ → List ℕ → List ℕ → List ℕ → List ℕ → List ℕ → Opened
after_open c records index filter starts lengths arena =
    decided (first_no (ask_open c records (length index) (length filter) (length starts) (length lengths) (length arena)))
    (record {
      answer = accept (builder_opened c records);
      index = cleared index (8 * buckets_in c records);
      filter = cleared filter (filter_words_in c records);
    })
    (λ n. record { answer = refuse n tt; index = index; filter = filter })

-- ---- push

-- the slot of a new record, or its refusal, 4 or 3; the key is looked for in the filled bytes
abbrev pub push_slot : SegmentCacheBuilder → ℕ → List ℕ → List ℕ → List ℕ → Outcome
push_slot b h key index arena = build_slot index b.bucket_count (take b.filled arena) b.config.expiry key h

-- the deadline of a new record, or its refusal, 5 or 6; "the base is 0 in a build"
abbrev pub deadline_for : SegmentCacheConfig → Option Duration → Outcome
deadline_for c ttl = encoded_expiry c.expiry ttl 0

-- where a record of these lengths would end
abbrev pub push_end : SegmentCacheBuilder → ℕ → ℕ → ℕ
push_end b key value = b.filled + record_size b.config.expiry key value

-- questions 1, 2 and 4; value and filter by their lengths. The fifth line is two questions, 4 and at the walk's end 3, and the sixth two, 5 and 6: the
-- number is their outcome's
unfoldable pub ask_push : SegmentCacheBuilder → ℕ → List ℕ → ℕ → Option Duration → List ℕ → ℕ → List ℕ → List (Bool × ℕ)
ask_push b h key value ttl index filter arena =
    (areas_hold_builder b (length index) (length arena), 11)
    ∷ (nat_le b.filter_words filter, 11)
    ∷ (lifetime_fits ttl, 9)
    ∷ (nat_lt b.inserted_entries b.expected_entries, 3)
    ∷ (((push_slot b h key index arena).number == 0), (push_slot b h key index arena).number)
    ∷ (((deadline_for b.config ttl).number == 0), (deadline_for b.config ttl).number)
    ∷ (nat_le (push_end b (length key) value) (length arena), 10)
    ∷ []

abbrev pub builder_grown : SegmentCacheBuilder → ℕ → ℕ → ℕ → SegmentCacheBuilder
builder_grown b size key value =
    record {
      config = b.config;
      expected_entries = b.expected_entries;
      inserted_entries = b.inserted_entries + 1;
      bucket_count = b.bucket_count;
      filter_words = b.filter_words;
      filled = b.filled + size;
      logical_key_bytes = b.logical_key_bytes + key;
      logical_value_bytes = b.logical_value_bytes + value;
    }

-- what a push leaves: its answer, and the index, filter and arena
pub record Pushed : Type 0 where
  pub answer : Reply Placed SegmentCacheBuilder
  pub index : List ℕ
  pub filter : List ℕ
  pub arena : List ℕ

abbrev pub push_result : Result PushedRecord SegmentCacheBuildError → SegmentCacheBuilder → List ℕ → List ℕ → List ℕ → Pushed
push_result r b index filter arena = record { answer = push_reply b r; index = index; filter = filter; arena = arena }

abbrev pub push_refused : SegmentCacheBuilder → List ℕ → List ℕ → List ℕ → ℕ → Pushed
push_refused b index filter arena n = record { answer = refuse n b; index = index; filter = filter; arena = arena }

-- the record in its slot: "A new record goes into the arena from its first free byte"
abbrev pub push_made : ℕ → ℕ → SegmentCacheBuilder → ℕ → List ℕ → List ℕ → List ℕ → List ℕ → List ℕ → Pushed
push_made slot deadline b h key value index filter arena =
    record {
      answer =
          accept
          record {
            builder = builder_grown b (record_size b.config.expiry (length key) (length value)) (length key) (length value);
            slot = slot;
            location = b.filled;
          };
      index = slice_set index slot (word_of (tag_of h) b.filled);
      filter = displaced_marked filter b.filter_words h slot b.bucket_count;
      arena = pasted b.filled (record_bytes b.config.expiry key value deadline) arena;
    }

unfoldable pub after_push : SegmentCacheBuilder → ℕ → List ℕ → List ℕ → Option Duration → List ℕ → List ℕ → List ℕ → Pushed
after_push b h key value ttl index filter arena =
    decided (first_no (ask_push b h key (length value) ttl index (length filter) arena))
    (push_made (push_slot b h key index arena).value (deadline_for b.config ttl).value b h key value index filter arena)
    (push_refused b index filter arena)

-- ---- finish

-- the starts of its segments, at most 257
abbrev pub segment_starts : SegmentCacheBuilder → ℕ → List ℕ → List ℕ
segment_starts b target index = starts_of (take (8 * b.bucket_count) index) b.filled target

-- questions 1 and 5; all areas but the index by their lengths
unfoldable pub ask_finish : SegmentCacheBuilder → ℕ → List ℕ → ℕ → ℕ → ℕ → ℕ → List (Bool × ℕ)
ask_finish b target index starts lengths scratch arena =
    (areas_hold_builder b (length index) arena, 11)
    ∷ (segment_areas_hold starts lengths, 11)
    ∷ ((b.inserted_entries == b.expected_entries), 3)
    ∷ (target_fits target, 8)
    ∷ (scratch_holds b.config b.bucket_count scratch, 10)
    ∷ (locations_inside index b.bucket_count b.filled, 11)
    ∷ (nat_le (length (segment_starts b target index)) most_segments, 7)
    ∷ []

-- the set of a builder, with so many segments
abbrev pub set_of : SegmentCacheBuilder → ℕ → FrozenSegmentCache
set_of b segments =
    record {
      config = b.config;
      entries = b.expected_entries;
      buckets = b.bucket_count;
      filter_words = b.filter_words;
      segments = segments;
      filled = b.filled;
      record_bytes = b.filled;
      logical_key_bytes = b.logical_key_bytes;
      logical_value_bytes = b.logical_value_bytes;
      record_header_bytes = b.filled - b.logical_key_bytes - b.logical_value_bytes;
    }

-- what finish leaves: its answer, and the index, segment areas and scratch
pub record Finished : Type 0 where
  pub answer : Reply FrozenSegmentCache SegmentCacheBuilder
  pub index : List ℕ
  pub starts : List ℕ
  pub lengths : List ℕ
  pub scratch : List ℕ

abbrev pub finish_result : Result FrozenSegmentCache SegmentCacheBuildError → SegmentCacheBuilder → List ℕ → List ℕ → List ℕ → List ℕ → Finished
finish_result r b index starts lengths scratch =
    record { answer = finish_reply b r; index = index; starts = starts; lengths = lengths; scratch = scratch }

-- the starts area with the starts, and 0 in the rest of its 256 words; of more than 256 the first 256
abbrev pub starts_written : SegmentCacheBuilder → ℕ → List ℕ → List ℕ → List ℕ
starts_written b target index starts = over (padded (segment_starts b target index)) starts

-- the index with every location split
abbrev pub index_split : SegmentCacheBuilder → ℕ → List ℕ → List ℕ
index_split b target index = split_words index b.bucket_count (segment_starts b target index) b.filled target

abbrev pub finish_made : SegmentCacheBuilder → ℕ → List ℕ → List ℕ → List ℕ → List ℕ → Finished
finish_made b target index starts lengths scratch =
    record {
      answer = accept (set_of b (length (segment_starts b target index)));
      index = cond b.config.packed_bucket_index (packed_index b.bucket_count (index_split b target index) scratch) (index_split b target index);
      starts = starts_written b target index starts;
      lengths = over (padded (lengths_of b.filled (segment_starts b target index))) lengths;
      scratch = cond b.config.packed_bucket_index (packed_scratch b.bucket_count (index_split b target index) scratch) scratch;
    }

-- the one refusal that writes: "7; the starts area then holds the first 256 starts, and the builder stays open"
abbrev pub finish_refused : SegmentCacheBuilder → ℕ → List ℕ → List ℕ → List ℕ → List ℕ → ℕ → Finished
finish_refused b target index starts lengths scratch n =
    record { answer = refuse n b; index = index; starts = cond (n == 7) (starts_written b target index starts) starts; lengths = lengths; scratch = scratch }

unfoldable pub after_finish : SegmentCacheBuilder → ℕ → List ℕ → List ℕ → List ℕ → List ℕ → List ℕ → Finished
after_finish b target index starts lengths scratch arena =
    decided (first_no (ask_finish b target index (length starts) (length lengths) (length scratch) (length arena)))
    (finish_made b target index starts lengths scratch)
    (finish_refused b target index starts lengths scratch)
