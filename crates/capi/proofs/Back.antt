-- Words that are stored and loaded give back what was stored, where its numbers fit the words' form, as all numbers of running states do.
-- Assumes nothing.
use Rattle.std.proofs.Common.{◌≡◌, ℕ, ◌-◌, ◌^◌, ◌≤◌, Bool, true, false, List, [], Some, refl, ap, le-leb}
use Rattle.std.specs.Prelude.{option_map}
use native.Mathlib.Nat.{min-eq_left}
use Rattle.hash_parts.specs.Setting.{setting_before, tick_nanos}
use Rattle.hash_parts.specs.declared.setting.SegmentCacheConfig.{SegmentCacheConfig}
use Rattle.hash_parts.specs.declared.setting.SegmentExpiry.{SegmentExpiry}
use Rattle.hash_parts.specs.declared.setting.SegmentExpiry.TheVariants as setting
use Rattle.sets.specs.declared.builder.SegmentCacheBuilder.{SegmentCacheBuilder}
use Rattle.sets.specs.declared.cache.FrozenSegmentCache.{FrozenSegmentCache}
use Rattle.sets.specs.declared.rebuild.SharedSegmentCacheBuilder.{SharedSegmentCacheBuilder}
use Rattle.sets.specs.declared.stats.SegmentCacheStats.{SegmentCacheStats}
use Rattle.capi.specs.Words.{builder_in, builder_of, builder_words, rebuild_in, rebuild_of, rebuild_words, set_in, set_of, set_words}
use Rattle.capi.specs.Words.{setting_alone, setting_among, setting_form, setting_in, stats_in, stats_words}

abbrev made : SegmentExpiry → ℕ → Bool → ℕ → SegmentCacheConfig
made e occupied packed bits =
    record { expiry = e; target_occupied_slots = occupied; packed_bucket_index = packed; negative_filter_bits_per_entry = bits }

parts_back : (e : SegmentExpiry) (occupied : ℕ) (packed : Bool) (bits : ℕ) (rest : List ℕ) → tick_nanos e ≤ 2 ^ 32 - 1 → occupied ≤ 255 → bits ≤ 255
    → setting_in (setting_before (made e occupied packed bits) rest) ≡ Some (made e occupied packed bits)
unfolding setting_in setting_form
parts_back setting.None occupied true bits rest h i j = rw (min-eq_left i, le-leb bits 255 j)
parts_back setting.None occupied false bits rest h i j = rw (min-eq_left i, le-leb bits 255 j)
parts_back (setting.Relative16 tick) occupied true bits rest h i j = rw (min-eq_left h, min-eq_left i, le-leb bits 255 j)
parts_back (setting.Relative16 tick) occupied false bits rest h i j = rw (min-eq_left h, min-eq_left i, le-leb bits 255 j)

-- a setting, before any words
pub setting_back : (c : SegmentCacheConfig) (rest : List ℕ) → tick_nanos c.expiry ≤ 2 ^ 32 - 1 → c.target_occupied_slots ≤ 255 → c.negative_filter_bits_per_entry ≤ 255
    → setting_in (setting_before c rest) ≡ Some c
setting_back c rest h i j = parts_back c.expiry c.target_occupied_slots c.packed_bucket_index c.negative_filter_bits_per_entry rest h i j

-- a setting by itself
pub alone_back : (c : SegmentCacheConfig) → tick_nanos c.expiry ≤ 2 ^ 32 - 1 → c.target_occupied_slots ≤ 255 → c.negative_filter_bits_per_entry ≤ 255
    → setting_alone (setting_before c []) ≡ Some c
unfolding setting_among
alone_back c h i j = setting_back c [] h i j

pub builder_back : (b : SegmentCacheBuilder) → tick_nanos b.config.expiry ≤ 2 ^ 32 - 1 → b.config.target_occupied_slots ≤ 255 → b.config.negative_filter_bits_per_entry ≤ 255
    → builder_in (builder_words b) ≡ Some b
unfolding builder_in setting_among
builder_back b h i j = ap (option_map (λ c. builder_of c (builder_words b))) (setting_back b.config _ h i j)

pub set_back : (s : FrozenSegmentCache) → tick_nanos s.config.expiry ≤ 2 ^ 32 - 1 → s.config.target_occupied_slots ≤ 255 → s.config.negative_filter_bits_per_entry ≤ 255
    → set_in (set_words s) ≡ Some s
unfolding set_in setting_among
set_back s h i j = ap (option_map (λ c. set_of c (set_words s))) (setting_back s.config _ h i j)

pub rebuild_back : (r : SharedSegmentCacheBuilder) → tick_nanos r.config.expiry ≤ 2 ^ 32 - 1 → r.config.target_occupied_slots ≤ 255 → r.config.negative_filter_bits_per_entry ≤ 255
    → rebuild_in (rebuild_words r) ≡ Some r
unfolding rebuild_in setting_among
rebuild_back r h i j = ap (option_map (λ c. rebuild_of c (rebuild_words r))) (setting_back r.config _ h i j)

-- statistics have no number that does not fit
pub stats_back : (s : SegmentCacheStats) → stats_in (stats_words s) ≡ Some s
unfolding stats_in
stats_back s = refl
