-- Settings, states, lifetimes and statistics as words. Assumes nothing.
use Rattle.std.specs.Prelude.{Bool, true, cond, List, [], ◌∷◌, ℕ, ◌-◌, ◌^◌, min, Option, Some, None, option_map, eqb, leb, length, get_or}
use Rattle.hash_parts.specs.Setting.{setting_before}
use Rattle.hash_parts.specs.declared.duration.Duration.{Duration}
use Rattle.hash_parts.specs.declared.setting.SegmentCacheConfig.{SegmentCacheConfig}
use Rattle.hash_parts.specs.declared.setting.SegmentExpiry.{SegmentExpiry}
use Rattle.hash_parts.specs.declared.setting.SegmentExpiry.TheVariants as setting
use Rattle.records.specs.Area.{written}
use Rattle.sets.specs.Questions.{all}
use Rattle.sets.specs.declared.builder.SegmentCacheBuilder.{SegmentCacheBuilder}
use Rattle.sets.specs.declared.cache.FrozenSegmentCache.{FrozenSegmentCache}
use Rattle.sets.specs.declared.kept.KeptSegments.{KeptSegments}
use Rattle.sets.specs.declared.rebuild.SharedSegmentCacheBuilder.{SharedSegmentCacheBuilder}
use Rattle.sets.specs.declared.stats.SegmentCacheStats.{SegmentCacheStats}

-- lent words with others stored over the front, where they fit; else as they were. Words of the same number are then all there is (`stored_whole` of
-- proofs/Stores.antt).
abbrev pub stored : List ℕ → List ℕ → List ℕ
stored w old = (written w old).area

-- ---- a setting: expiry flag, tick's seconds and nanoseconds, occupied slots, packed flag, filter bits

abbrev pub duration_of : ℕ → ℕ → Duration
duration_of secs nanos = record { secs = secs; nanos = nanos }

abbrev pub expiry_of : ℕ → ℕ → ℕ → SegmentExpiry
expiry_of flag secs nanos = cond (eqb flag 1) (setting.Relative16 (duration_of secs nanos)) setting.None

-- nanoseconds of more than 32 bits stay too many for a second, so that question 2 refuses them at its place; an occupancy of more than 8 bits stays more
-- than 7, for question 3
abbrev pub nanos_capped : ℕ → ℕ
nanos_capped word = min word (2 ^ 32 - 1)

abbrev pub occupancy_capped : ℕ → ℕ
occupancy_capped word = min word 255

abbrev pub setting_of : List ℕ → SegmentCacheConfig
setting_of w =
    record {
      expiry = expiry_of (get_or w 0 0) (get_or w 1 0) (nanos_capped (get_or w 2 0));
      target_occupied_slots = occupancy_capped (get_or w 3 0);
      packed_bucket_index = eqb (get_or w 4 0) 1;
      negative_filter_bits_per_entry = get_or w 5 0;
    }

-- flags are 0 or 1, filter bits have 8 bits: no question asks of these; with no expiry the tick's words may be any
unfoldable pub setting_form : List ℕ → Bool
setting_form w = all (leb (get_or w 0 0) 1 ∷ leb (get_or w 4 0) 1 ∷ leb (get_or w 5 0) 255 ∷ [])

-- the setting in the first six words
unfoldable pub setting_in : List ℕ → Option SegmentCacheConfig
setting_in w = cond (setting_form w) (Some (setting_of w)) None

-- the same, where there are so many words in all
unfoldable pub setting_among : ℕ → List ℕ → Option SegmentCacheConfig
setting_among count w = cond (eqb (length w) count) (setting_in w) None

-- the size of a record depends on no question; words that no setting can hold are refused all the same, with the numbers of questions 2 and 3
abbrev pub tick_nanos_fit : ℕ → ℕ → Bool
tick_nanos_fit flag nanos = cond (eqb flag 1) (leb nanos 0xffff_ffff) true

unfoldable pub ask_widths : List ℕ → List (Bool × ℕ)
ask_widths w = (tick_nanos_fit (get_or w 0 0) (get_or w 2 0), 9) ∷ (leb (get_or w 3 0) 255, 1) ∷ []

-- a setting that is lent by itself
abbrev pub setting_alone : List ℕ → Option SegmentCacheConfig
setting_alone w = setting_among 6 w

-- ---- a builder: 13 words

abbrev pub builder_of : SegmentCacheConfig → List ℕ → SegmentCacheBuilder
builder_of c w =
    record {
      config = c;
      expected_entries = get_or w 6 0;
      inserted_entries = get_or w 7 0;
      bucket_count = get_or w 8 0;
      filter_words = get_or w 9 0;
      filled = get_or w 10 0;
      logical_key_bytes = get_or w 11 0;
      logical_value_bytes = get_or w 12 0;
    }

unfoldable pub builder_in : List ℕ → Option SegmentCacheBuilder
builder_in w = option_map (λ c. builder_of c w) (setting_among 13 w)

abbrev pub builder_words : SegmentCacheBuilder → List ℕ
builder_words b =
    setting_before b.config
    (b.expected_entries
    ∷ b.inserted_entries
    ∷ b.bucket_count
    ∷ b.filter_words
    ∷ b.filled
    ∷ b.logical_key_bytes
    ∷ b.logical_value_bytes
    ∷ [])

-- ---- a set: 15 words

abbrev pub set_of : SegmentCacheConfig → List ℕ → FrozenSegmentCache
set_of c w =
    record {
      config = c;
      entries = get_or w 6 0;
      buckets = get_or w 7 0;
      filter_words = get_or w 8 0;
      segments = get_or w 9 0;
      filled = get_or w 10 0;
      record_bytes = get_or w 11 0;
      logical_key_bytes = get_or w 12 0;
      logical_value_bytes = get_or w 13 0;
      record_header_bytes = get_or w 14 0;
    }

unfoldable pub set_in : List ℕ → Option FrozenSegmentCache
set_in w = option_map (λ c. set_of c w) (setting_among 15 w)

abbrev pub set_words : FrozenSegmentCache → List ℕ
set_words s =
    setting_before s.config
    (s.entries
    ∷ s.buckets
    ∷ s.filter_words
    ∷ s.segments
    ∷ s.filled
    ∷ s.record_bytes
    ∷ s.logical_key_bytes
    ∷ s.logical_value_bytes
    ∷ s.record_header_bytes
    ∷ [])

-- ---- a rebuild: 22 words

-- the four words of the kept segments
abbrev pub kept_at : List ℕ → KeptSegments
kept_at w = record { w0 = get_or w 10 0; w1 = get_or w 11 0; w2 = get_or w 12 0; w3 = get_or w 13 0 }

abbrev pub rebuild_of : SegmentCacheConfig → List ℕ → SharedSegmentCacheBuilder
rebuild_of c w =
    record {
      config = c;
      expected_entries = get_or w 6 0;
      inserted_entries = get_or w 7 0;
      bucket_count = get_or w 8 0;
      filter_words = get_or w 9 0;
      kept = kept_at w;
      source_filled = get_or w 14 0;
      copied_bytes = get_or w 15 0;
      logical_key_bytes = get_or w 16 0;
      logical_value_bytes = get_or w 17 0;
      record_header_bytes = get_or w 18 0;
      reused_entries = get_or w 19 0;
      reused_record_bytes = get_or w 20 0;
      source_now_tick = get_or w 21 0;
    }

unfoldable pub rebuild_in : List ℕ → Option SharedSegmentCacheBuilder
rebuild_in w = option_map (λ c. rebuild_of c w) (setting_among 22 w)

abbrev pub rebuild_words : SharedSegmentCacheBuilder → List ℕ
rebuild_words r =
    setting_before r.config
    (r.expected_entries
    ∷ r.inserted_entries
    ∷ r.bucket_count
    ∷ r.filter_words
    ∷ r.kept.w0
    ∷ r.kept.w1
    ∷ r.kept.w2
    ∷ r.kept.w3
    ∷ r.source_filled
    ∷ r.copied_bytes
    ∷ r.logical_key_bytes
    ∷ r.logical_value_bytes
    ∷ r.record_header_bytes
    ∷ r.reused_entries
    ∷ r.reused_record_bytes
    ∷ r.source_now_tick
    ∷ [])

-- ---- a lifetime: no words for never; seconds and nanoseconds, capped as a tick's

abbrev pub finite_of : List ℕ → Option Duration
finite_of w = Some (duration_of (get_or w 0 0) (nanos_capped (get_or w 1 0)))

unfoldable pub lifetime_in : List ℕ → Option (Option Duration)
lifetime_in w = cond (eqb (length w) 0) (Some None) (cond (eqb (length w) 2) (Some (finite_of w)) None)

-- ---- statistics: 8 words

abbrev pub stats_of : List ℕ → SegmentCacheStats
stats_of w =
    record {
      entries = get_or w 0 0;
      buckets = get_or w 1 0;
      index_slots = get_or w 2 0;
      index_bytes = get_or w 3 0;
      record_bytes = get_or w 4 0;
      logical_key_bytes = get_or w 5 0;
      logical_value_bytes = get_or w 6 0;
      record_header_bytes = get_or w 7 0;
    }

unfoldable pub stats_in : List ℕ → Option SegmentCacheStats
stats_in w = cond (eqb (length w) 8) (Some (stats_of w)) None

abbrev pub stats_words : SegmentCacheStats → List ℕ
stats_words s =
    s.entries
    ∷ s.buckets
    ∷ s.index_slots
    ∷ s.index_bytes
    ∷ s.record_bytes
    ∷ s.logical_key_bytes
    ∷ s.logical_value_bytes
    ∷ s.record_header_bytes
    ∷ []
