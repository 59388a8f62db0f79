-- Kind 1 of a written file gives the set's setting and counts back. Assumes nothing.
use mathlib.Core.Path.{◌≡◌, refl, ap, ◌∙◌}
use mathlib.Core.Bool.{Bool, true, false, cond}
use mathlib.Core.List.{List}
use Prim.Native.Nat.{ℕ}
use lib.Dec.{eqb}
use Rattle.hash_parts.specs.Setting.{expiry_flag, tick_nanos, tick_secs}
use Rattle.hash_parts.specs.declared.setting.SegmentExpiry.{SegmentExpiry}
use Rattle.hash_parts.specs.declared.setting.SegmentExpiry.TheVariants.{None, Relative16}
use Rattle.sets.specs.declared.cache.FrozenSegmentCache.{FrozenSegmentCache}
use Rattle.files.specs.Blocks.{content_of}
use Rattle.files.specs.Contents.{expiry_in, field, numbers_in, records_in, widths}
use Rattle.files.specs.Write.{count_bytes, count_numbers}
use Rattle.files.proofs.Framing.{Fit, numbers_back}

module _ (s : FrozenSegmentCache) (f : List ℕ) (one : content_of 0 f ≡ count_bytes s) (fit : Fit widths (count_numbers s)) where
  pub numbers : numbers_in widths (content_of 0 f) ≡ count_numbers s
  unfolding count_bytes
  numbers = ap (numbers_in widths) one ∙ numbers_back fit

  flag_back : (b : Bool) → eqb (cond b 1 0) 1 ≡ b
  flag_back true = refl
  flag_back false = refl

  pub record FieldsBack : Type 0 where
    pub expiry : expiry_in f ≡ s.config.expiry
    pub occupied : field 3 f ≡ s.config.target_occupied_slots
    pub packed : eqb (field 4 f) 1 ≡ s.config.packed_bucket_index
    pub bits : field 5 f ≡ s.config.negative_filter_bits_per_entry
    pub records : records_in f ≡ s.entries
    pub keys : field 7 f ≡ s.logical_key_bytes
    pub values : field 8 f ≡ s.logical_value_bytes
    pub headers : field 9 f ≡ s.record_header_bytes

  expiry_back : (e : SegmentExpiry) → cond (eqb (expiry_flag e) 1) (Relative16 record { secs = tick_secs e; nanos = tick_nanos e }) None ≡ e
  expiry_back None = refl
  expiry_back (Relative16 tick) = refl

  pub fields_back : FieldsBack
  unfolding count_numbers
  fields_back =
      record {
        expiry = rw numbers (expiry_back s.config.expiry);
        occupied = rw numbers;
        packed = rw numbers (flag_back s.config.packed_bucket_index);
        bits = rw numbers;
        records = rw numbers;
        keys = rw numbers;
        values = rw numbers;
        headers = rw numbers;
      }
