-- What the blocks of a written file hold, read again. Assumes nothing.
use mathlib.Core.Path.{◌≡◌, sym, ap, ap₂, ◌∙◌}
use mathlib.Core.Bool.{Bool, true, false, cond}
use mathlib.Core.List.{List, [], ◌∷◌, ◌++◌, map, append-nil}
use Prim.Native.Nat.{ℕ, ◌*◌, ◌/◌, ◌^◌, ◌≤◌, ◌<◌}
use native.Mathlib.Omega.{arith}
use lib.ListN.{length, take, drop, get_or}
use lib.Seq.{take_at, get_or-take}
use borrow.Author.Tests.{ltb-true}
use Rattle.hash_parts.specs.declared.setting.SegmentCacheConfig.{SegmentCacheConfig}
use Rattle.hash_parts.specs.Setting.{expiry_flag, tick_nanos, tick_secs}
use Rattle.hash_parts.specs.declared.setting.SegmentExpiry.{SegmentExpiry}
use Rattle.hash_parts.specs.declared.setting.SegmentExpiry.TheVariants.{None, Relative16}
use Rattle.index.specs.Packed.{word_bytes, words_of}
use Rattle.sets.specs.Questions.{buckets_in, filter_words_in, nanoseconds_fit, setting_fits}
use Rattle.sets.specs.Rebuild.{sum_of}
use Rattle.sets.specs.declared.cache.FrozenSegmentCache.{FrozenSegmentCache}
use Rattle.sets.proofs.Counts.{both, counts_buckets, counts_records, counts_setting, counts_words, setting_occupied}
use Rattle.sets.proofs.Finding.{few_buckets, few_words}
use Rattle.files.specs.Blocks.{block, content_of}
use Rattle.files.specs.Contents.{buckets_of, file_filter, file_index, filter_words_of, segment_lengths, setting_in, unmarked_index, widths}
use Rattle.files.specs.Typed.{Typed, SecondsFit}
use Rattle.files.specs.Write.{count_bytes, count_numbers, file_of, file_size, segment_bytes}
use Rattle.files.proofs.Asked.{WriteAsked}
use Rattle.files.proofs.Fields.{FieldsBack, fields_back}
use Rattle.files.proofs.Framing.{Fit, fit_none, fit_one, Small, contents_back}
use Rattle.files.proofs.Lengths as long
use Rattle.files.proofs.Low.{low, words_low, low_own}

-- two settings of the same parts
same_setting : {e e' : SegmentExpiry} {o o' : ℕ} {p p' : Bool} {b b' : ℕ} → e ≡ e' → o ≡ o' → p ≡ p' → b ≡ b'
    → ◌≡◌ {A = SegmentCacheConfig} (record { expiry = e; target_occupied_slots = o; packed_bucket_index = p; negative_filter_bits_per_entry = b })
    (record { expiry = e'; target_occupied_slots = o'; packed_bucket_index = p'; negative_filter_bits_per_entry = b' })
same_setting x y z w = rw (x, y, z, w)

module _ (s : FrozenSegmentCache) (index filter starts lengths arena out : List ℕ) (typed : Typed s.config) (asked : WriteAsked s index filter starts lengths arena out) where
  abbrev packed : Bool
  packed = s.config.packed_bucket_index

  -- ---- kind 1

  flag_small : (b : Bool) → cond b 1 0 < 256
  flag_small true = omega arith
  flag_small false = omega arith

  fitted : (w n : ℕ) → n < 256 ^ w → {ws ns : List ℕ} → Fit ws ns → Fit (w ∷ ws) (n ∷ ns)
  fitted w n h r = fit_one {w = w} {n = n} h r

  pub fit : Fit widths (count_numbers s)
  unfolding count_numbers setting_fits nanoseconds_fit
  fit = go s.config.expiry typed.0 (both (nanoseconds_fit s.config.expiry) _ (counts_setting _ _ _ _ asked.counts)).0
    where
      o : (1 ≤ s.config.target_occupied_slots) × (s.config.target_occupied_slots ≤ 7)
      o = setting_occupied s.config (counts_setting _ _ _ _ asked.counts)

      records : s.entries ≤ 1048576
      records = counts_records _ _ _ _ asked.counts

      rest : Fit (1 ∷ 1 ∷ 1 ∷ 4 ∷ 8 ∷ 8 ∷ 8 ∷ [])
          (s.config.target_occupied_slots ∷ cond s.config.packed_bucket_index 1 0 ∷ s.config.negative_filter_bits_per_entry ∷ s.entries
          ∷ s.logical_key_bytes ∷ s.logical_value_bytes ∷ s.record_header_bytes ∷ [])
      rest =
          fitted 1 s.config.target_occupied_slots (omega (arith, o.1))
          (fitted 1 (cond s.config.packed_bucket_index 1 0) (flag_small s.config.packed_bucket_index)
          (fitted 1 s.config.negative_filter_bits_per_entry typed.1
          (fitted 4 s.entries (omega (arith, records))
          (fitted 8 s.logical_key_bytes (omega (arith, records, asked.key_bytes))
          (fitted 8 s.logical_value_bytes (omega (arith, records, asked.value_bytes))
          (fitted 8 s.record_header_bytes (omega (arith, records, asked.header_length)) fit_none))))))

      go : (e : SegmentExpiry) → SecondsFit e → nanoseconds_fit e ≡ true
          → Fit widths
          (expiry_flag e ∷ tick_secs e ∷ tick_nanos e
          ∷ s.config.target_occupied_slots ∷ cond s.config.packed_bucket_index 1 0 ∷ s.config.negative_filter_bits_per_entry ∷ s.entries
          ∷ s.logical_key_bytes ∷ s.logical_value_bytes ∷ s.record_header_bytes ∷ [])
      go None t q = fitted 1 0 (omega arith) (fitted 8 0 (omega arith) (fitted 4 0 (omega arith) rest))
      go (Relative16 tick) t q = fitted 1 1 (omega arith) (fitted 8 tick.secs t (fitted 4 tick.nanos (omega (arith, ltb-true tick.nanos 1_000_000_000 q)) rest))

  -- ---- the contents

  abbrev c1 : List ℕ
  c1 = count_bytes s

  abbrev c2 : List ℕ
  c2 = word_bytes (take s.segments lengths)

  abbrev words3 : List ℕ
  words3 = unmarked_index packed s.buckets (take (8 * s.buckets) index)

  abbrev c3 : List ℕ
  c3 = word_bytes words3

  abbrev c4 : List ℕ
  c4 = word_bytes (take s.filter_words filter)

  abbrev c5 : List ℕ
  c5 = segment_bytes s.segments starts lengths arena

  pub one_long : length c1 ≡ 44
  one_long = long.one_long s index filter starts lengths arena out asked

  pub two_words : length (take s.segments lengths) ≡ s.segments
  two_words = long.two_words s index filter starts lengths arena out asked

  pub two_long : length c2 ≡ 8 * s.segments
  two_long = long.two_long s index filter starts lengths arena out asked

  three_words : length words3 ≡ 8 * s.buckets
  three_words = long.three_words s index filter starts lengths arena out asked

  pub three_long : length c3 ≡ 64 * s.buckets
  three_long = long.three_long s index filter starts lengths arena out asked

  four_words : length (take s.filter_words filter) ≡ s.filter_words
  four_words = long.four_words s index filter starts lengths arena out asked

  pub four_long : length c4 ≡ 8 * s.filter_words
  four_long = long.four_long s index filter starts lengths arena out asked

  pub five_long : length c5 ≡ sum_of s.segments lengths
  five_long = long.five_long s index filter starts lengths arena out asked

  pub small : Small c1 c2 c3 c4 c5
  small =
      record {
        one = omega (arith, one_long);
        two = omega (arith, two_long, asked.few_segments);
        three = omega (arith, three_long, few_buckets _ _ _ _ asked.counts);
        four = omega (arith, four_long, few_words _ _ _ _ asked.counts typed.1);
        five = omega (arith, five_long, asked.sum_short);
      }

  -- ---- the file

  abbrev file : List ℕ
  file = file_of s index filter starts lengths arena

  pub file_flat : file ≡ block 1 c1 ++ (block 2 c2 ++ (block 3 c3 ++ (block 4 c4 ++ (block 5 c5 ++ []))))
  unfolding file_of
  file_flat = rw (append-nil (block 5 c5))

  pub file_long : length file ≡ file_size s lengths
  file_long = long.file_long s index filter starts lengths arena out asked

  pub contents : (content_of 0 file ≡ c1) × (content_of 1 file ≡ c2) × (content_of 2 file ≡ c3) × (content_of 3 file ≡ c4) × (content_of 4 file ≡ c5)
  contents = rw file_flat (contents_back c1 c2 c3 c4 c5 small)

  -- ---- what is read again

  pub back : FieldsBack s file contents.0 fit
  back = fields_back s file contents.0 fit

  pub setting_back : setting_in file ≡ s.config
  setting_back = same_setting back.expiry back.occupied back.packed back.bits

  pub buckets_back : buckets_of file ≡ s.buckets
  buckets_back = ap₂ buckets_in setting_back back.records ∙ sym (counts_buckets _ _ _ _ asked.counts)

  pub words_back : filter_words_of file ≡ s.filter_words
  words_back = ap₂ filter_words_in setting_back back.records ∙ sym (counts_words _ _ _ _ asked.counts)

  pub lengths_back : segment_lengths file ≡ take s.segments lengths
  lengths_back =
      let n : length (content_of 1 file) / 8 ≡ length (take s.segments lengths) = omega (arith, ap length contents.1, two_long, two_words) in
      ap₂ words_of n contents.1
      ∙ words_low (take s.segments lengths)
      ∙ low_own (take s.segments lengths)
      (λ g h.
      let k : g < s.segments = omega (arith, h, two_words) in
      let e : get_or (take s.segments lengths) g 0 ≡ get_or lengths g 0 = get_or-take s.segments lengths g 0 k in
      omega (arith, e, asked.inside g k, asked.filled_held, asked.arena_short))

  pub index_back : file_index file ≡ unmarked_index packed s.buckets (map low words3)
  index_back =
      let n : 8 * buckets_of file ≡ length words3 = omega (arith, buckets_back, three_words) in
      let e : words_of (8 * buckets_of file) (content_of 2 file) ≡ map low words3 = ap₂ words_of n contents.2 ∙ words_low words3 in
      ap (λ (c : SegmentCacheConfig). unmarked_index c.packed_bucket_index (buckets_of file) (words_of (8 * buckets_of file) (content_of 2 file))) setting_back
      ∙ ap₂ (λ (b : ℕ) (l : List ℕ). unmarked_index packed b l) buckets_back e

  pub filter_back : file_filter file ≡ map low (take s.filter_words filter)
  filter_back =
      let n : filter_words_of file ≡ length (take s.filter_words filter) = words_back ∙ sym four_words in
      ap₂ words_of n contents.3 ∙ words_low (take s.filter_words filter)

  pub segments_back : content_of 4 file ≡ c5
  segments_back = contents.4

  -- the file is what the writer says of its area
  pub file_taken : take (file_size s lengths) (file ++ drop (length file) out) ≡ file
  file_taken = take_at file (drop (length file) out) (file_size s lengths) file_long
