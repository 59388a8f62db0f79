-- The find of a finished set, and what the calls make of it. Assumes nothing.
use Rattle.std.proofs.Common.{◌≡◌, ℕ, ◌+◌, ◌*◌, ◌^◌, ◌<◌, ◌≤◌, true, List, length, mul-le-mul_left, arith, Some}
use Rattle.hash_parts.specs.declared.setting.SegmentCacheConfig.{SegmentCacheConfig}
use Rattle.index.specs.declared.find.FoundRecord.{FoundRecord}
use Rattle.index.proofs.Buckets.{buckets_few}
use Rattle.index.proofs.FoundSlots.{find_slot}
use Rattle.sets.specs.Lookup.{areas_hold_lookup, areas_hold_set, find_of, set_fits, view_of}
use Rattle.sets.specs.Questions.{counts_fit}
use Rattle.sets.specs.Stats.{stats_of}
use Rattle.sets.specs.declared.cache.FrozenSegmentCache.{FrozenSegmentCache}
use Rattle.sets.specs.declared.stats.SegmentCacheStats.{SegmentCacheStats}
use Rattle.sets.proofs.Counts.{both, counts_buckets, counts_records, counts_setting, counts_words, set_counts, set_index, setting_occupied}

-- buckets and filter words are few
module _ (c : SegmentCacheConfig) (records buckets words : ℕ) (fits : counts_fit c records buckets words ≡ true) where
  pub few_buckets : buckets ≤ 1048582
  few_buckets =
      let o = setting_occupied c (counts_setting c records buckets words fits) in
      omega (arith, o.1, counts_buckets c records buckets words fits, counts_records c records buckets words fits, buckets_few records c.target_occupied_slots)

  pub few_words : c.negative_filter_bits_per_entry < 256 → words ≤ 4194304
  few_words small =
      let p : records * c.negative_filter_bits_per_entry ≤ records * 255 = mul-le-mul_left records (omega arith) in
      omega (arith, p, counts_words c records buckets words fits, counts_records c records buckets words fits)

-- those of a set
pub set_few : (s : FrozenSegmentCache) → set_fits s ≡ true → s.config.negative_filter_bits_per_entry < 256 → (s.buckets ≤ 1048582) × (s.filter_words ≤ 4194304)
set_few s fits small =
    let counts = set_counts s fits in
    (few_buckets _ _ _ _ counts, few_words _ _ _ _ counts small)

-- ---- the slot of a record that was found

-- question 1 of a lookup is answered yes
abbrev pub Held : (s : FrozenSegmentCache) (index filter starts lengths arena : List ℕ) → Type 0
Held s index filter starts lengths arena = areas_hold_lookup s (length index) (length filter) (length starts) (length lengths) (length arena) ≡ true

pub lookup_slot : (s : FrozenSegmentCache) (h : ℕ) (key index filter starts lengths arena : List ℕ) (y : FoundRecord) → h < 2 ^ 64
    → Held s index filter starts lengths arena
    → find_of s h key index filter starts lengths arena ≡ Some y → y.slot < length index
unfolding areas_hold_lookup
lookup_slot s h key index filter starts lengths arena y bound holds e =
    let t = find_slot (view_of s) s.config.packed_bucket_index index s.buckets filter s.filter_words starts lengths arena key h y bound e in
    let areas = (both (areas_hold_set s (length index) (length starts) (length lengths) (length arena)) _ holds).0 in
    omega (arith, t.1, set_index s (length index) (length starts) (length lengths) (length arena) areas)

-- ---- statistics

-- the statistics as they are worked out
pub stats_made : (s : FrozenSegmentCache)
    → ◌≡◌ {A = SegmentCacheStats}
    (record {
      entries = s.entries;
      buckets = s.buckets;
      index_slots = s.buckets * 8;
      index_bytes = s.buckets * 64 + s.filter_words * 8;
      record_bytes = s.record_bytes;
      logical_key_bytes = s.logical_key_bytes;
      logical_value_bytes = s.logical_value_bytes;
      record_header_bytes = s.record_header_bytes;
    })
    (stats_of s)
stats_made s =
    let e : s.buckets * 8 ≡ 8 * s.buckets = omega arith in
    let f : s.buckets * 64 + s.filter_words * 8 ≡ 64 * s.buckets + 8 * s.filter_words = omega arith in
    rw (e, f)
