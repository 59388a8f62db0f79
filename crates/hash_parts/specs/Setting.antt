-- "The expiry kind stands inside the setting: none, or a tick length. .. Each change of a setting takes the old one
-- and hands back the new. Start values: no expiry, occupancy 7, packed, filter bits 0."
-- Assumes nothing.
use Rattle.std.specs.Prelude.{ℕ, Bool, true, cond, List, [], ◌∷◌}
use Rattle.hash_parts.specs.declared.duration.Duration.{Duration}
use Rattle.hash_parts.specs.declared.setting.SegmentExpiry.{SegmentExpiry}
use Rattle.hash_parts.specs.declared.setting.SegmentExpiry.TheVariants.{None, Relative16}
use Rattle.hash_parts.specs.declared.setting.SegmentCacheConfig.{SegmentCacheConfig}

-- a setting with the start values and this expiry
abbrev pub started : SegmentExpiry → SegmentCacheConfig
started e = record { expiry = e; target_occupied_slots = 7; packed_bucket_index = true; negative_filter_bits_per_entry = 0 }

abbrev pub without_expiry : SegmentCacheConfig
without_expiry = started None

abbrev pub with_relative_expiry : Duration → SegmentCacheConfig
with_relative_expiry tick = started (Relative16 tick)

abbrev pub with_occupancy : SegmentCacheConfig → ℕ → SegmentCacheConfig
with_occupancy s n =
    record {
      expiry = s.expiry;
      target_occupied_slots = n;
      packed_bucket_index = s.packed_bucket_index;
      negative_filter_bits_per_entry = s.negative_filter_bits_per_entry;
    }

abbrev pub with_packed_index : SegmentCacheConfig → Bool → SegmentCacheConfig
with_packed_index s packed =
    record {
      expiry = s.expiry;
      target_occupied_slots = s.target_occupied_slots;
      packed_bucket_index = packed;
      negative_filter_bits_per_entry = s.negative_filter_bits_per_entry;
    }

abbrev pub with_filter_bits : SegmentCacheConfig → ℕ → SegmentCacheConfig
with_filter_bits s bits =
    record {
      expiry = s.expiry;
      target_occupied_slots = s.target_occupied_slots;
      packed_bucket_index = s.packed_bucket_index;
      negative_filter_bits_per_entry = bits;
    }

-- Stored record: "with expiry on the deadline in 2 bytes"
abbrev pub bytes_per_record : SegmentExpiry → ℕ
bytes_per_record None = 0
bytes_per_record (Relative16 tick) = 2

-- ---- a setting as numbers, as a file keeps it and C holds it

abbrev pub flag_of : Bool → ℕ
flag_of b = cond b 1 0

-- "expiry on (1 byte, 0 or 1), tick seconds (8), nanoseconds (4)"; "with expiry off both tick fields are zero"
abbrev pub expiry_flag : SegmentExpiry → ℕ
expiry_flag None = 0
expiry_flag (Relative16 tick) = 1

abbrev pub tick_secs : SegmentExpiry → ℕ
tick_secs None = 0
tick_secs (Relative16 tick) = tick.secs

abbrev pub tick_nanos : SegmentExpiry → ℕ
tick_nanos None = 0
tick_nanos (Relative16 tick) = tick.nanos

abbrev pub expiry_numbers : SegmentExpiry → List ℕ
expiry_numbers e = expiry_flag e ∷ tick_secs e ∷ tick_nanos e ∷ []

-- ".. occupancy (1), packed (1, 0 or 1), filter bits (1)", before other numbers
abbrev pub setting_before : SegmentCacheConfig → List ℕ → List ℕ
setting_before c rest =
    expiry_flag c.expiry
    ∷ tick_secs c.expiry
    ∷ tick_nanos c.expiry
    ∷ c.target_occupied_slots
    ∷ flag_of c.packed_bucket_index
    ∷ c.negative_filter_bits_per_entry
    ∷ rest

abbrev pub setting_numbers : SegmentCacheConfig → List ℕ
setting_numbers c = setting_before c []
