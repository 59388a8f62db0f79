-- A file that was written is refused with 10 alone: its blocks, kinds and contents pass. Assumes nothing.
use mathlib.Core.Path.{◌≡◌, refl, sym, ap, ap₂, ◌∙◌}
use mathlib.Core.Bool.{Bool, true, false, cond}
use mathlib.Core.List.{List, [], ◌∷◌}
use Prim.Native.Nat.{ℕ, ◌+◌, ◌*◌, ◌%◌}
use native.Mathlib.Omega.{arith}
use lib.Dec.{eqb, leb}
use lib.ListN.{length, take, get_or}
use borrow.Author.Tests.{eq-eqb, le-leb}
use Rattle.hash_parts.specs.Setting.{expiry_flag, tick_nanos, tick_secs}
use Rattle.hash_parts.specs.declared.setting.SegmentExpiry.{SegmentExpiry}
use Rattle.hash_parts.specs.declared.setting.SegmentExpiry.TheVariants.{None, Relative16}
use Rattle.sets.specs.Questions.{bytes_fit, first_no, setting_fits}
use Rattle.sets.specs.declared.cache.FrozenSegmentCache.{FrozenSegmentCache}
use Rattle.sets.proofs.Counts.{counts_records, counts_setting}
use Rattle.files.specs.Blocks.{content_of, frames_well, kinds_from}
use Rattle.files.specs.Contents.{ask_file, buckets_of, content_fits, field, filter_words_of, numbers_in, records_in, segment_count_fits, segment_lengths, setting_in, sum, tick_fits, widths}
use Rattle.files.specs.Load.{ask_load, load_areas_hold}
use Rattle.files.specs.Typed.{Typed}
use Rattle.files.specs.Write.{count_bytes, count_numbers, file_of}
use Rattle.files.proofs.Asked.{WriteAsked}
use Rattle.files.proofs.Fields.{numbers}
use Rattle.files.proofs.Framing.{frames_written, kinds_written}
use Rattle.files.proofs.Moved.{sum_taken}
use Rattle.files.proofs.Round as round

module _ (s : FrozenSegmentCache) (index filter starts lengths arena out : List ℕ) (typed : Typed s.config) (asked : WriteAsked s index filter starts lengths arena out) where
  abbrev file : List ℕ
  file = file_of s index filter starts lengths arena

  written : (content_of 0 file ≡ count_bytes s) × (length (content_of 1 file) ≡ 8 * s.segments) × (length (content_of 2 file) ≡ 64 * s.buckets) × (length (content_of 3 file) ≡ 8 * s.filter_words)
  written =
      let c = round.contents s index filter starts lengths arena out typed asked in (
        c.0,
        ap length c.1 ∙ round.two_long s index filter starts lengths arena out typed asked,
        ap length c.2 ∙ round.three_long s index filter starts lengths arena out typed asked,
        ap length c.3 ∙ round.four_long s index filter starts lengths arena out typed asked,
      )

  five_length : length (content_of 4 file) ≡ sum (take s.segments lengths)
  five_length =
      ap length (round.segments_back s index filter starts lengths arena out typed asked)
      ∙ round.five_long s index filter starts lengths arena out typed asked
      ∙ sym (sum_taken s.segments lengths (omega (arith, asked.few_segments, asked.lengths_hold)))

  numbers_are : numbers_in widths (content_of 0 file) ≡ count_numbers s
  numbers_are = numbers s file written.0 (round.fit s index filter starts lengths arena out typed asked)

  -- the flags and the tick, by kind 1's numbers
  flags_fit_law : (leb (field 0 file) 1 ≡ true) × (leb (field 4 file) 1 ≡ true) × (tick_fits file ≡ true)
  unfolding count_numbers
  flags_fit_law = rw numbers_are (go s.config.expiry s.config.packed_bucket_index)
    where
      ns : SegmentExpiry → Bool → List ℕ
      ns e p =
          expiry_flag e ∷ tick_secs e ∷ tick_nanos e
          ∷ s.config.target_occupied_slots ∷ cond p 1 0 ∷ s.config.negative_filter_bits_per_entry ∷ s.entries
          ∷ s.logical_key_bytes ∷ s.logical_value_bytes ∷ s.record_header_bytes ∷ []

      go : (e : SegmentExpiry) (p : Bool)
          → (leb (get_or (ns e p) 0 0) 1 ≡ true) × (leb (get_or (ns e p) 4 0) 1 ≡ true) × (cond (eqb (get_or (ns e p) 0 0) 0) (eqb (get_or (ns e p) 1 0 + get_or (ns e p) 2 0) 0) true ≡ true)
      go None true = (refl, refl, refl)
      go None false = (refl, refl, refl)
      go (Relative16 tick) true = (refl, refl, refl)
      go (Relative16 tick) false = (refl, refl, refl)

  count_fits : segment_count_fits (length (content_of 1 file)) ≡ true
  count_fits =
      let n : length (content_of 1 file) ≡ 8 * s.segments = written.1 in
      rw (
        eq-eqb (length (content_of 1 file) % 8) 0 (omega (arith, n)),
        le-leb 8 (length (content_of 1 file)) (omega (arith, n, asked.some_segment)),
        le-leb (length (content_of 1 file)) 2048 (omega (arith, n, asked.few_segments)),
      )

  pub content_fits_law : content_fits file ≡ true
  unfolding content_fits
  content_fits_law =
      let b = round.back s index filter starts lengths arena out typed asked in
      let k : bytes_fit (records_in file) (field 7 file) ≡ true = ap₂ bytes_fit b.records b.keys ∙ le-leb _ _ asked.key_bytes in
      let v : bytes_fit (records_in file) (field 8 file) ≡ true = ap₂ bytes_fit b.records b.values ∙ le-leb _ _ asked.value_bytes in
      let h : bytes_fit (records_in file) (field 9 file) ≡ true = ap₂ bytes_fit b.records b.headers ∙ le-leb _ _ asked.header_length in
      let setting : setting_fits (setting_in file) ≡ true = ap setting_fits (round.setting_back s index filter starts lengths arena out typed asked) ∙ counts_setting _ _ _ _ asked.counts in
      let records : leb (records_in file) 1_048_576 ≡ true = ap (λ (n : ℕ). leb n 1_048_576) b.records ∙ le-leb _ _ (counts_records _ _ _ _ asked.counts) in
      let one : eqb (length (content_of 0 file)) 44 ≡ true = eq-eqb _ _ (ap length written.0 ∙ round.one_long s index filter starts lengths arena out typed asked) in
      let three : eqb (length (content_of 2 file)) (64 * buckets_of file) ≡ true =
      eq-eqb _ _ (written.2 ∙ ap (λ (n : ℕ). 64 * n) (sym (round.buckets_back s index filter starts lengths arena out typed asked))) in
      let four : eqb (length (content_of 3 file)) (8 * filter_words_of file) ≡ true =
      eq-eqb _ _ (written.3 ∙ ap (λ (n : ℕ). 8 * n) (sym (round.words_back s index filter starts lengths arena out typed asked))) in
      let five : leb (length (content_of 4 file)) 1_073_741_824 ≡ true =
      le-leb (length (content_of 4 file)) 1_073_741_824 (omega (
        arith,
        ap length (round.segments_back s index filter starts lengths arena out typed asked),
        round.five_long s index filter starts lengths arena out typed asked,
        asked.sum_short,
      )) in
      let adds : eqb (sum (segment_lengths file)) (length (content_of 4 file)) ≡ true =
      eq-eqb _ _ (ap sum (round.lengths_back s index filter starts lengths arena out typed asked) ∙ sym five_length) in
      rw (one, flags_fit_law.0, flags_fit_law.1, flags_fit_law.2, setting, records, k, v, h, count_fits, three, four, five, adds)

  frames : frames_well 5 file ≡ true
  frames = ap (frames_well 5) (round.file_flat s index filter starts lengths arena out typed asked) ∙ frames_written _ _ _ _ _ (round.small s index filter starts lengths arena out typed asked)

  kinds : kinds_from 1 5 file ≡ true
  kinds = ap (kinds_from 1 5) (round.file_flat s index filter starts lengths arena out typed asked) ∙ kinds_written _ _ _ _ _ (round.small s index filter starts lengths arena out typed asked)

  -- 13, 14 and 15 never come
  pub file_accepted : first_no (ask_file file) ≡ 0
  unfolding ask_file
  file_accepted = rw (frames, kinds, content_fits_law)

  -- and a load of it is refused only with 10, for its areas
  pub load_answer : (index' filter' starts' lengths' arena' : ℕ)
      → first_no (ask_load file index' filter' starts' lengths' arena') ≡ cond (load_areas_hold file index' filter' starts' lengths' arena') 0 10
  unfolding ask_load ask_file
  load_answer index' filter' starts' lengths' arena' = rw (frames, kinds, content_fits_law)
