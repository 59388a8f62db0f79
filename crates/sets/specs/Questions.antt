-- The questions each call asks: what is asked of a setting, of a state's numbers and of the lengths of the areas lent with it.
-- Assumes nothing.
use Rattle.std.specs.Prelude.{ℕ, zero, suc, ◌*◌, ◌^◌, Bool, true, false, Result, Ok, Err, cond, not, List, [], ◌∷◌, ◌==◌, nat_le, nat_lt, Option, Some, None}
use Rattle.hash_parts.specs.Duration.{ceil_div, nanos_of}
use Rattle.hash_parts.specs.Error.{error_number}
use Rattle.hash_parts.specs.declared.duration.Duration.{Duration}
use Rattle.hash_parts.specs.declared.error.SegmentCacheBuildError.{SegmentCacheBuildError}
use Rattle.hash_parts.specs.declared.setting.SegmentExpiry.{SegmentExpiry}
use Rattle.hash_parts.specs.declared.setting.SegmentExpiry.TheVariants as setting
use Rattle.hash_parts.specs.declared.setting.SegmentCacheConfig.{SegmentCacheConfig}
use Rattle.index.specs.Build.{buckets_for}
use Rattle.index.specs.Segments.{most_segments}

-- ---- questions in order

-- "The number is the answer when it is no." The number of the first question that is answered no; 0 where all are answered yes
abbrev pub first_no : List (Bool × ℕ) → ℕ
first_no [] = 0
first_no (q ∷ l) = cond q.0 (first_no l) q.1

-- whether all of some conditions hold
abbrev pub all : List Bool → Bool
all [] = true
all (b ∷ []) = b
all (b ∷ c ∷ l) = cond b (all (c ∷ l)) false

-- what a call leaves where no question is answered no; else what it leaves when refused with the number of the first that is
abbrev pub decided : {A : Type 0} → ℕ → A → (ℕ → A) → A
decided zero left refused = left
decided (suc n) left refused = refused (suc n)

-- ---- setting

-- question 2: "Are nanoseconds below 1,000,000,000?" Of a tick, and of a lifetime
unfoldable pub nanoseconds_fit : SegmentExpiry → Bool
nanoseconds_fit setting.None = true
nanoseconds_fit (setting.Relative16 tick) = nat_lt tick.nanos 1_000_000_000

unfoldable pub lifetime_fits : Option Duration → Bool
lifetime_fits None = true
lifetime_fits (Some lifetime) = nat_lt lifetime.nanos 1_000_000_000

-- question 3: "occupancy 1 to 7? .. Tick length above zero?"
unfoldable pub occupancy_fits : ℕ → Bool
occupancy_fits occupied = all (nat_le 1 occupied ∷ nat_le occupied 7 ∷ [])

unfoldable pub tick_runs : SegmentExpiry → Bool
tick_runs setting.None = true
tick_runs (setting.Relative16 tick) = not (nanos_of tick == 0)

-- question 1: "Does the setting pass question 2 and question 3's occupancy and tick length"
unfoldable pub setting_fits : SegmentCacheConfig → Bool
setting_fits c = all (nanoseconds_fit c.expiry ∷ occupancy_fits c.target_occupied_slots ∷ tick_runs c.expiry ∷ [])

-- ---- counts

-- "are records at most 1,048,576"; "itself at most 1,073,741,824" bytes, the arena
abbrev pub most_records : ℕ
most_records = 1_048_576

abbrev pub most_arena_bytes : ℕ
most_arena_bytes = 1_073_741_824

-- the buckets and filter words of so many records
abbrev pub buckets_in : SegmentCacheConfig → ℕ → ℕ
buckets_in c records = buckets_for records c.target_occupied_slots

abbrev pub filter_words_in : SegmentCacheConfig → ℕ → ℕ
filter_words_in c records = ceil_div (records * c.negative_filter_bits_per_entry) 64

-- "are records at most 1,048,576, .. buckets and filter words by the rules"
unfoldable pub counts_fit : SegmentCacheConfig → ℕ → ℕ → ℕ → Bool
counts_fit c records buckets words =
    all (setting_fits c ∷ nat_le records most_records ∷ (buckets == buckets_in c records) ∷ (words == filter_words_in c records) ∷ [])

-- "Are key, value and header bytes each at most records in × 2^30"
abbrev pub bytes_fit : ℕ → ℕ → Bool
bytes_fit records bytes = nat_le bytes (records * 2 ^ 30)

-- ---- areas, by their lengths

-- "the arena its filled bytes, itself at most 1,073,741,824"
unfoldable pub arena_holds : ℕ → ℕ → Bool
arena_holds filled arena = all (nat_le filled arena ∷ nat_le arena most_arena_bytes ∷ [])

-- "starts and lengths 256 words each"
unfoldable pub segment_areas_hold : ℕ → ℕ → Bool
segment_areas_hold starts lengths = all (nat_le most_segments starts ∷ nat_le most_segments lengths ∷ [])

-- question 5: "Target 1 to 100,663,296? 8. If packed, scratch long enough? 10."
unfoldable pub target_fits : ℕ → Bool
target_fits target = all (nat_le 1 target ∷ nat_le target 100_663_296 ∷ [])

unfoldable pub scratch_holds : SegmentCacheConfig → ℕ → ℕ → Bool
scratch_holds c buckets scratch = cond c.packed_bucket_index (nat_le buckets scratch) true

-- question 3: "Index, filter and segment areas long enough .. ? 10." Of these index and filter, which go by the records; the others are asked beside it.
unfoldable pub open_areas_hold : SegmentCacheConfig → ℕ → ℕ → ℕ → Bool
open_areas_hold c records index filter = all (nat_le (8 * buckets_in c records) index ∷ nat_le (filter_words_in c records) filter ∷ [])

-- ---- the questions of open: all but question 1

-- questions 2 and 3 of a setting and a number of records
unfoldable pub ask_counts : SegmentCacheConfig → ℕ → List (Bool × ℕ)
ask_counts c records =
    (nanoseconds_fit c.expiry, 9)
    ∷ (occupancy_fits c.target_occupied_slots, 1)
    ∷ (tick_runs c.expiry, 2)
    ∷ (nat_le records most_records, 3)
    ∷ []

unfoldable pub ask_open : SegmentCacheConfig → ℕ → ℕ → ℕ → ℕ → ℕ → ℕ → List (Bool × ℕ)
ask_open c records index filter starts lengths arena =
    (nanoseconds_fit c.expiry, 9)
    ∷ (occupancy_fits c.target_occupied_slots, 1)
    ∷ (tick_runs c.expiry, 2)
    ∷ (nat_le records most_records, 3)
    ∷ (open_areas_hold c records index filter, 10)
    ∷ (segment_areas_hold starts lengths, 10)
    ∷ (nat_le arena most_arena_bytes, 10)
    ∷ []

-- ---- for private functions alone

-- the number of what a call's questions come to
abbrev pub check_number : Result (Unit {0}) SegmentCacheBuildError → ℕ
check_number (Ok passed) = 0
check_number (Err e) = error_number e
