-- Statistics of a set.
-- Assumes nothing.
use Rattle.std.specs.Prelude.{ℕ, ◌+◌, ◌-◌, ◌*◌, ◌/◌, ◌^◌, min, cond, ◌==◌, nat_le}
use Rattle.sets.specs.declared.cache.FrozenSegmentCache.{FrozenSegmentCache}
use Rattle.sets.specs.declared.stats.SegmentCacheStats.{SegmentCacheStats}

-- eight words of eight bytes to a bucket, and the filter's words
abbrev pub stats_of : FrozenSegmentCache → SegmentCacheStats
stats_of s =
    record {
      entries = s.entries;
      buckets = s.buckets;
      index_slots = 8 * s.buckets;
      index_bytes = 64 * s.buckets + 8 * s.filter_words;
      record_bytes = s.record_bytes;
      logical_key_bytes = s.logical_key_bytes;
      logical_value_bytes = s.logical_value_bytes;
      record_header_bytes = s.record_header_bytes;
    }

-- a number of 16 bits; 10,000 for all above
abbrev pub capped : ℕ → ℕ
capped n = cond (nat_le n 65535) n 10000

-- entries in ten-thousandths of the slots, as the Rust works them out for any numbers: the product stops at the largest number
unfoldable pub load_of : ℕ → ℕ → ℕ
load_of entries slots = cond (slots == 0) 0 (capped (min (entries * 10000) (2 ^ 64 - 1) / slots))
