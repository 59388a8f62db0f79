-- What the blocks of a file hold, and what is asked of them.
-- Assumes nothing.
use Rattle.std.specs.Prelude.{Bool, true, cond, List, [], ◌∷◌, ◌++◌, map, ℕ, ◌+◌, ◌*◌, ◌/◌, ◌%◌, eqb, leb, length, take, drop, get_or}
use Rattle.hash_parts.specs.ZeroBytes.{bytes_of, number_of}
use Rattle.hash_parts.specs.declared.setting.SegmentCacheConfig.{SegmentCacheConfig}
use Rattle.hash_parts.specs.declared.setting.SegmentExpiry.{SegmentExpiry}
use Rattle.hash_parts.specs.declared.setting.SegmentExpiry.TheVariants.{None, Relative16}
use Rattle.index.specs.Packed.{words_of, unmarked_byte}
use Rattle.index.specs.Segments.{most_segments}
use Rattle.index.specs.Word.{unmarked}
use Rattle.sets.specs.Questions.{all, buckets_in, bytes_fit, filter_words_in, most_arena_bytes, most_records, setting_fits}
use Rattle.sets.specs.declared.cache.FrozenSegmentCache.{FrozenSegmentCache}
use Rattle.files.specs.Blocks.{content_of, frames_well, kinds_from}

-- ---- kind 1: "expiry on (1 byte, 0 or 1), tick seconds (8), nanoseconds (4), occupancy (1), packed (1, 0 or 1), filter bits (1), records (4), logical key,
-- value and header bytes (8 each)"

abbrev pub widths : List ℕ
widths = 1 ∷ 8 ∷ 4 ∷ 1 ∷ 1 ∷ 1 ∷ 4 ∷ 8 ∷ 8 ∷ 8 ∷ []

-- numbers of so many bytes each, one after the other: read, and written
unfoldable pub numbers_in : List ℕ → List ℕ → List ℕ
numbers_in [] bytes = []
numbers_in (w ∷ ws) bytes = number_of (take w bytes) ∷ numbers_in ws (drop w bytes)

unfoldable pub bytes_for : List ℕ → List ℕ → List ℕ
bytes_for [] numbers = []
bytes_for (w ∷ ws) [] = []
bytes_for (w ∷ ws) (n ∷ numbers) = bytes_of w n ++ bytes_for ws numbers

abbrev pub field : ℕ → List ℕ → ℕ
field i f = get_or (numbers_in widths (content_of 0 f)) i 0

abbrev pub expiry_in : List ℕ → SegmentExpiry
expiry_in f = cond (eqb (field 0 f) 1) (Relative16 record { secs = field 1 f; nanos = field 2 f }) None

abbrev pub setting_in : List ℕ → SegmentCacheConfig
setting_in f =
    record {
      expiry = expiry_in f;
      target_occupied_slots = field 3 f;
      packed_bucket_index = eqb (field 4 f) 1;
      negative_filter_bits_per_entry = field 5 f;
    }

abbrev pub records_in : List ℕ → ℕ
records_in f = field 6 f

-- "with expiry off both tick fields are zero"
abbrev pub tick_fits : List ℕ → Bool
tick_fits f = cond (eqb (field 0 f) 0) (eqb (field 1 f + field 2 f) 0) true

-- ---- kind 2: "segment lengths (8 bytes each, 1 to 256 of them)"

abbrev pub segment_lengths : List ℕ → List ℕ
segment_lengths f = words_of (length (content_of 1 f) / 8) (content_of 1 f)

abbrev pub segment_count_fits : ℕ → Bool
segment_count_fits bytes = all (eqb (bytes % 8) 0 ∷ leb 8 bytes ∷ leb bytes (8 * most_segments) ∷ [])

abbrev pub sum : List ℕ → ℕ
sum [] = 0
sum (n ∷ l) = n + sum l

-- "starts by kind 2"
unfoldable pub starts_by : ℕ → List ℕ → List ℕ
starts_by start [] = []
starts_by start (n ∷ l) = start ∷ starts_by (start + n) l

-- ---- kind 3: "index words with marks cleared": bit 63 of a word, or the top bits of the control bytes

unfoldable pub unmarked_index : Bool → ℕ → List ℕ → List ℕ
unmarked_index packed buckets words =
    cond packed (map (λ w. number_of (map unmarked_byte (bytes_of 8 w))) (take buckets words) ++ drop buckets words) (map unmarked words)

abbrev pub buckets_of : List ℕ → ℕ
buckets_of f = buckets_in (setting_in f) (records_in f)

abbrev pub file_index : List ℕ → List ℕ
file_index f = unmarked_index (setting_in f).packed_bucket_index (buckets_of f) (words_of (8 * buckets_of f) (content_of 2 f))

-- ---- kind 4

abbrev pub filter_words_of : List ℕ → ℕ
filter_words_of f = filter_words_in (setting_in f) (records_in f)

abbrev pub file_filter : List ℕ → List ℕ
file_filter f = words_of (filter_words_of f) (content_of 3 f)

-- ---- the set

abbrev pub file_set : List ℕ → FrozenSegmentCache
file_set f =
    record {
      config = setting_in f;
      entries = records_in f;
      buckets = buckets_of f;
      filter_words = filter_words_of f;
      segments = length (segment_lengths f);
      filled = length (content_of 4 f);
      record_bytes = length (content_of 4 f);
      logical_key_bytes = field 7 f;
      logical_value_bytes = field 8 f;
      record_header_bytes = field 9 f;
    }

-- ---- the questions of a file

-- 15: "a flag, occupancy, tick, record count, byte count or kind 5's length breaks [a set's] bounds .., a block's length doesn't fit the counts, expiry is off
-- with a tick not zero, or the segment lengths don't add up to kind 5's"
unfoldable pub content_fits : List ℕ → Bool
content_fits f =
    all
    (eqb (length (content_of 0 f)) 44
    ∷ leb (field 0 f) 1
    ∷ leb (field 4 f) 1
    ∷ tick_fits f
    ∷ setting_fits (setting_in f)
    ∷ leb (records_in f) most_records
    ∷ bytes_fit (records_in f) (field 7 f)
    ∷ bytes_fit (records_in f) (field 8 f)
    ∷ bytes_fit (records_in f) (field 9 f)
    ∷ segment_count_fits (length (content_of 1 f))
    ∷ eqb (length (content_of 2 f)) (64 * buckets_of f)
    ∷ eqb (length (content_of 3 f)) (8 * filter_words_of f)
    ∷ leb (length (content_of 4 f)) most_arena_bytes
    ∷ eqb (sum (segment_lengths f)) (length (content_of 4 f))
    ∷ [])

-- 13, 14, 15, "in this order"
unfoldable pub ask_file : List ℕ → List (Bool × ℕ)
ask_file f = (frames_well 5 f, 13) ∷ (kinds_from 1 5 f, 14) ∷ (content_fits f, 15) ∷ []
