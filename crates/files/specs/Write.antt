-- Writing a set as a file: its questions, and what it leaves.
-- Assumes nothing.
use Rattle.std.specs.Prelude.{Bool, ℕ, ◌+◌, ◌*◌, leb, length, take, get_or, Result, Ok, Err}
use mathlib.Core.List.{List, [], ◌∷◌, ◌++◌, flat_map}
use Rattle.hash_parts.specs.Error.{error_number}
use Rattle.hash_parts.specs.Setting.{setting_before}
use Rattle.hash_parts.specs.declared.error.SegmentCacheBuildError.{SegmentCacheBuildError}
use Rattle.records.specs.Area.{over, part}
use Rattle.index.specs.Packed.{word_bytes}
use Rattle.index.specs.Walk.{up_from}
use Rattle.sets.specs.Answers.{Reply, accept, refuse}
use Rattle.sets.specs.Lookup.{areas_hold_lookup}
use Rattle.sets.specs.Questions.{decided, first_no, most_arena_bytes}
use Rattle.sets.specs.Rebuild.{areas_hold_source, segments_inside, sum_of}
use Rattle.sets.specs.declared.cache.FrozenSegmentCache.{FrozenSegmentCache}
use Rattle.files.specs.Blocks.{block}
use Rattle.files.specs.Contents.{bytes_for, unmarked_index, widths}

-- the numbers of kind 1
unfoldable pub count_numbers : FrozenSegmentCache → List ℕ
count_numbers s =
    setting_before s.config (s.entries ∷ s.logical_key_bytes ∷ s.logical_value_bytes ∷ s.record_header_bytes ∷ [])

unfoldable pub count_bytes : FrozenSegmentCache → List ℕ
count_bytes s = bytes_for widths (count_numbers s)

-- "the segments' bytes one after the other"
unfoldable pub segment_bytes : ℕ → List ℕ → List ℕ → List ℕ → List ℕ
segment_bytes segments starts lengths arena = flat_map (λ g. part (get_or starts g 0) (get_or lengths g 0) arena) (up_from 0 segments)

unfoldable pub file_of : FrozenSegmentCache → List ℕ → List ℕ → List ℕ → List ℕ → List ℕ → List ℕ
file_of s index filter starts lengths arena =
    block 1 (count_bytes s)
    ++ (block 2 (word_bytes (take s.segments lengths))
    ++ (block 3 (word_bytes (unmarked_index s.config.packed_bucket_index s.buckets (take (8 * s.buckets) index)))
    ++ (block 4 (word_bytes (take s.filter_words filter)) ++ block 5 (segment_bytes s.segments starts lengths arena))))

-- 74 bytes of headers and kind 1
abbrev pub file_size : FrozenSegmentCache → List ℕ → ℕ
file_size s lengths = 74 + 8 * s.segments + 64 * s.buckets + 8 * s.filter_words + sum_of s.segments lengths

-- "The writer gives 11 first, also where a segment leaves the filled arena or the lengths add up to more than 1,073,741,824"; index, filter, arena and file by
-- their lengths
unfoldable pub ask_write : FrozenSegmentCache → ℕ → ℕ → List ℕ → List ℕ → ℕ → ℕ → List (Bool × ℕ)
ask_write s index filter starts lengths arena file =
    (areas_hold_lookup s index filter (length starts) (length lengths) arena, 11)
    ∷ (segments_inside s.segments s.filled starts lengths, 11)
    ∷ (leb (sum_of s.segments lengths) most_arena_bytes, 11)
    ∷ (leb (file_size s lengths) file, 10)
    ∷ []

-- what a write leaves: its answer, the file's length, and the area
pub record FileWritten : Type 0 where
  pub answer : Reply ℕ (Unit {0})
  pub file : List ℕ

unfoldable pub after_write : FrozenSegmentCache → List ℕ → List ℕ → List ℕ → List ℕ → List ℕ → List ℕ → FileWritten
after_write s index filter starts lengths arena file =
    decided (first_no (ask_write s (length index) (length filter) starts lengths (length arena) (length file)))
    (record { answer = accept (file_size s lengths); file = over (file_of s index filter starts lengths arena) file })
    (λ n. record { answer = refuse n tt; file = file })

-- ---- how many bytes a set takes as a file

-- the writer's 11, as far as it goes without the other areas: in an arena of the filled bytes
unfoldable pub ask_size : FrozenSegmentCache → List ℕ → List ℕ → List (Bool × ℕ)
ask_size s starts lengths =
    (areas_hold_source s starts lengths s.filled, 11)
    ∷ (leb (sum_of s.segments lengths) most_arena_bytes, 11)
    ∷ []

unfoldable pub size_answer : FrozenSegmentCache → List ℕ → List ℕ → Reply ℕ (Unit {0})
size_answer s starts lengths = decided (first_no (ask_size s starts lengths)) (accept (file_size s lengths)) (λ n. refuse n tt)

-- ---- answers

abbrev pub size_reply : Result ℕ SegmentCacheBuildError → Reply ℕ (Unit {0})
size_reply (Ok n) = accept n
size_reply (Err e) = refuse (error_number e) tt

abbrev pub write_reply : Result ℕ SegmentCacheBuildError → Reply ℕ (Unit {0})
write_reply (Ok n) = accept n
write_reply (Err e) = refuse (error_number e) tt

abbrev pub write_result : Result ℕ SegmentCacheBuildError → List ℕ → FileWritten
write_result r file = record { answer = write_reply r; file = file }
