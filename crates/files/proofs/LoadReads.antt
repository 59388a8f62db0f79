-- What a set that was written and loaded reads at a location is what it read before. Assumes nothing.
use mathlib.Core.Path.{◌≡◌, refl, sym, ap, ap₂, ◌∙◌}
use mathlib.Core.List.{List}
use Prim.Native.Nat.{ℕ, ◌+◌, ◌≤◌, ◌<◌}
use native.Mathlib.Omega.{arith}
use lib.ListN.{length, take, drop, get_or}
use lib.Seq.{take_at, length-take-le}
use Rattle.hash_parts.specs.declared.setting.SegmentCacheConfig.{SegmentCacheConfig}
use Rattle.records.specs.Area.{over, part}
use Rattle.index.specs.Segments.{padded}
use Rattle.index.specs.View.{record_in}
use Rattle.index.specs.declared.view.SegmentView.{SegmentView}
use Rattle.index.proofs.Contents.{stored_in}
use Rattle.index.proofs.Filling.{over_padded_length}
use Rattle.index.proofs.Views.{part_front}
use Rattle.sets.specs.Lookup.{view_of}
use Rattle.sets.specs.declared.cache.FrozenSegmentCache.{FrozenSegmentCache}
use Rattle.files.specs.Blocks.{content_of}
use Rattle.files.specs.Contents.{file_set, segment_lengths, setting_in, starts_by, sum}
use Rattle.files.specs.Typed.{Typed}
use Rattle.files.specs.Write.{file_of, segment_bytes}
use Rattle.files.proofs.Asked.{WriteAsked}
use Rattle.files.proofs.Moved.{segment_written, starts_length, starts_within, sum_taken, filled_at}
use Rattle.files.proofs.Relocated.{record_moved, relocated, segment_at, stored_moved}
use Rattle.files.proofs.Round.{setting_back, lengths_back, segments_back, two_words, five_long}

module _ (s : FrozenSegmentCache) (index filter starts lengths arena out : List ℕ) (typed : Typed s.config) (asked : WriteAsked s index filter starts lengths arena out)
    (starts' lengths' arena' : List ℕ) (starts_hold : 256 ≤ length starts') (lengths_hold : 256 ≤ length lengths') where
  abbrev n : ℕ
  n = s.segments

  abbrev sizes : List ℕ
  sizes = take n lengths

  abbrev bytes : List ℕ
  bytes = segment_bytes n starts lengths arena

  abbrev moved_starts : List ℕ
  moved_starts = over (padded (starts_by 0 sizes)) starts'

  abbrev moved_lengths : List ℕ
  moved_lengths = over (padded sizes) lengths'

  many : length sizes ≡ n
  many = two_words s index filter starts lengths arena out typed asked

  taken : take (length bytes) (over bytes arena') ≡ bytes
  taken = take_at bytes (drop (length bytes) arena') (length bytes) refl

  start_at : (g : ℕ) → g < n → get_or moved_starts g 0 ≡ get_or (starts_by 0 sizes) g 0
  start_at g h = filled_at (starts_by 0 sizes) starts' g (omega (arith, starts_length sizes 0, many, asked.few_segments)) (omega (arith, starts_length sizes 0, many))

  length_at : (g : ℕ) → g < n → get_or moved_lengths g 0 ≡ get_or sizes g 0
  length_at g h = filled_at sizes lengths' g (omega (arith, many, asked.few_segments)) (omega (arith, many))

  total : sum sizes ≡ length bytes
  total = sum_taken n lengths (omega (arith, asked.few_segments, asked.lengths_hold)) ∙ sym (five_long s index filter starts lengths arena out typed asked)

  -- both sets have room for the segments, which stand inside and hold the same bytes
  room : (n ≤ length starts) × (n ≤ length lengths) × (n ≤ length moved_starts) × (n ≤ length moved_lengths)
  room = (
    omega (arith, asked.few_segments, asked.starts_hold),
    omega (arith, asked.few_segments, asked.lengths_hold),
    omega (arith, asked.few_segments, starts_hold, over_padded_length (starts_by 0 sizes) starts' starts_hold),
    omega (arith, asked.few_segments, lengths_hold, over_padded_length sizes lengths' lengths_hold),
  )

  inside : (g : ℕ) → g < n → get_or starts g 0 + get_or lengths g 0 ≤ length (take s.filled arena)
  inside g h = omega (arith, asked.inside g h, length-take-le s.filled arena asked.filled_held)

  inside' : (g : ℕ) → g < n → get_or moved_starts g 0 + get_or moved_lengths g 0 ≤ length (take (length bytes) (over bytes arena'))
  inside' g h =
      let k : g < length sizes = omega (arith, many) in
      omega (arith, start_at g h, length_at g h, ap length taken, total, starts_within sizes 0 g k)

  same : (g : ℕ) → g < n
      → part (get_or moved_starts g 0) (get_or moved_lengths g 0) (take (length bytes) (over bytes arena')) ≡ part (get_or starts g 0) (get_or lengths g 0) (take s.filled arena)
  same g h =
      ap₂ (λ (a b : ℕ). part a b (take (length bytes) (over bytes arena'))) (start_at g h) (length_at g h)
      ∙ ap (λ (l : List ℕ). part (get_or (starts_by 0 sizes) g 0) (get_or sizes g 0) l) taken
      ∙ segment_written starts lengths arena n (omega (arith, asked.few_segments, asked.lengths_hold)) (λ k i. omega (arith, asked.inside k i, asked.filled_held)) g h
      ∙ sym (part_front (get_or starts g 0) (get_or lengths g 0) s.filled arena (asked.inside g h))

  abbrev moved_view : SegmentView
  moved_view = record { expiry = s.config.expiry; filled = length bytes; segments = n }

  stored_at : (m : ℕ) → stored_in moved_view (over bytes arena') moved_starts moved_lengths m ≡ stored_in (view_of s) arena starts lengths m
  stored_at =
      stored_moved s.config.expiry n s.filled (length bytes) arena starts lengths (over bytes arena') moved_starts moved_lengths room inside inside' same

  record_at_law : (m : ℕ)
      → record_in moved_view (over bytes arena') moved_starts moved_lengths m
      ≡ relocated (get_or starts (segment_at m) 0) (get_or moved_starts (segment_at m) 0) (record_in (view_of s) arena starts lengths m)
  record_at_law =
      record_moved s.config.expiry n s.filled (length bytes) arena starts lengths (over bytes arena') moved_starts moved_lengths room inside inside' same

  abbrev file : List ℕ
  file = file_of s index filter starts lengths arena

  -- what a loaded set reads, as a function of the file's last two contents and its setting
  module _ {A : Type 0} (read : SegmentView → List ℕ → List ℕ → List ℕ → A) where
    abbrev loaded : A
    loaded =
        read (view_of (file_set file)) (over (content_of 4 file) arena') (over (padded (starts_by 0 (segment_lengths file))) starts')
        (over (padded (segment_lengths file)) lengths')

    loaded_is : loaded ≡ read moved_view (over bytes arena') moved_starts moved_lengths
    loaded_is =
        ap₂
        (λ (c l : List ℕ).
        read (record { expiry = (setting_in file).expiry; filled = length c; segments = length l }) (over c arena') (over (padded (starts_by 0 l)) starts') (over (padded l) lengths'))
        (segments_back s index filter starts lengths arena out typed asked) (lengths_back s index filter starts lengths arena out typed asked)
        ∙ ap₂ (λ (c : SegmentCacheConfig) (k : ℕ). read (record { expiry = c.expiry; filled = length bytes; segments = k }) (over bytes arena') moved_starts moved_lengths)
        (setting_back s index filter starts lengths arena out typed asked) many

  -- the contents of a record are those that the written set has there
  pub stored_loaded : (m : ℕ)
      → stored_in (view_of (file_set file)) (over (content_of 4 file) arena') (over (padded (starts_by 0 (segment_lengths file))) starts') (over (padded (segment_lengths file)) lengths') m
      ≡ stored_in (view_of s) arena starts lengths m
  stored_loaded m = loaded_is (λ v a ss ls. stored_in v a ss ls m) ∙ stored_at m

  -- and the record is the same, with its spans where its segment stands now
  pub record_loaded : (m : ℕ)
      → record_in (view_of (file_set file)) (over (content_of 4 file) arena') (over (padded (starts_by 0 (segment_lengths file))) starts') (over (padded (segment_lengths file)) lengths') m
      ≡ relocated (get_or starts (segment_at m) 0) (get_or (over (padded (starts_by 0 (segment_lengths file))) starts') (segment_at m) 0) (record_in (view_of s) arena starts lengths m)
  record_loaded m =
      loaded_is (λ v a ss ls. record_in v a ss ls m)
      ∙ record_at_law m
      ∙ sym (loaded_is (λ v a ss ls. relocated (get_or starts (segment_at m) 0) (get_or ss (segment_at m) 0) (record_in (view_of s) arena starts lengths m)))
