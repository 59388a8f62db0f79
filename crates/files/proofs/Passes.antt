-- A set that was loaded, of any file, passes question 1 with its areas. Assumes nothing.
use mathlib.Core.Path.{◌≡◌, refl, ◌∙◌}
use mathlib.Core.Bool.{true}
use mathlib.Core.List.{List}
use Prim.Native.Nat.{ℕ, ◌*◌, ◌/◌, ◌≤◌}
use native.Mathlib.Omega.{arith}
use lib.ListN.{length}
use borrow.Author.Tests.{eq-eqb, le-leb}
use Rattle.records.specs.Area.{over}
use Rattle.records.proofs.Area.{over_length}
use Rattle.index.specs.Packed.{words_of}
use Rattle.index.specs.Segments.{padded}
use Rattle.index.proofs.Filling.{over_padded_length}
use Rattle.index.proofs.PackingLoop.{length_words}
use Rattle.sets.specs.Lookup.{areas_hold_lookup, areas_hold_set, set_fits}
use Rattle.sets.specs.Questions.{arena_holds, counts_fit, segment_areas_hold}
use Rattle.sets.specs.Rebuild.{areas_hold_source, segments_inside}
use Rattle.sets.proofs.RebuildAsked.{segments_pass}
use Rattle.files.proofs.Moved.{filled_at, starts_length, starts_within}
use Rattle.files.specs.Blocks.{content_of}
use Rattle.files.specs.Contents.{buckets_of, file_filter, file_index, file_set, filter_words_of, segment_lengths, setting_in, starts_by}
use Rattle.files.proofs.Asked.{FileAsked, LoadAsked}
use Rattle.files.proofs.Low.{unmarked_length}

pub segments_are : (f : List ℕ) → length (segment_lengths f) ≡ length (content_of 1 f) / 8
segments_are f = length_words (length (content_of 1 f) / 8) (content_of 1 f)

module _ (f : List ℕ) (asked : FileAsked f) where
  pub few_segments : length (segment_lengths f) ≤ 256
  few_segments = omega (arith, segments_are f, asked.few_segments)

  some_segment : 1 ≤ length (segment_lengths f)
  some_segment = omega (arith, segments_are f, asked.some_segment)

  counts : counts_fit (setting_in f) (file_set f).entries (buckets_of f) (filter_words_of f) ≡ true
  unfolding counts_fit
  counts = rw (asked.setting, asked.records, eq-eqb (buckets_of f) (buckets_of f) refl) (eq-eqb (filter_words_of f) (filter_words_of f) refl)

  numbers : set_fits (file_set f) ≡ true
  unfolding set_fits
  numbers = rw (counts, le-leb _ _ some_segment, le-leb _ _ few_segments, asked.key_bytes, asked.value_bytes, asked.header_length)

  passes : (index filter starts lengths arena : ℕ) → 8 * buckets_of f ≤ index → filter_words_of f ≤ filter → 256 ≤ starts → 256 ≤ lengths → length (content_of 4 f) ≤ arena → arena ≤ 1_073_741_824
      → areas_hold_lookup (file_set f) index filter starts lengths arena ≡ true
  unfolding areas_hold_lookup areas_hold_set segment_areas_hold arena_holds
  passes index filter starts lengths arena i w s l a b = rw (numbers, le-leb _ _ i, le-leb _ _ s, le-leb _ _ l, le-leb _ _ a, le-leb _ _ b, le-leb _ _ w)

  pub index_long : length (file_index f) ≡ 8 * buckets_of f
  index_long =
      let n = length_words (8 * buckets_of f) (content_of 2 f) in
      unmarked_length (setting_in f).packed_bucket_index (buckets_of f) (words_of (8 * buckets_of f) (content_of 2 f)) (omega (arith, n)) ∙ n

  pub load_passes : (index filter starts lengths arena : List ℕ) → LoadAsked f index filter starts lengths arena
      → areas_hold_lookup (file_set f) (length (over (file_index f) index)) (length (over (file_filter f) filter)) (length (over (padded (starts_by 0 (segment_lengths f))) starts))
      (length (over (padded (segment_lengths f)) lengths)) (length (over (content_of 4 f) arena))
      ≡ true
  load_passes index filter starts lengths arena a =
      let n = over_length (file_index f) index (omega (arith, index_long, a.index_holds)) in
      let m = over_length (file_filter f) filter (omega (arith, length_words (filter_words_of f) (content_of 3 f), a.filter_holds)) in
      let u = over_padded_length (starts_by 0 (segment_lengths f)) starts a.starts_hold in
      let v = over_padded_length (segment_lengths f) lengths a.lengths_hold in
      let r = over_length (content_of 4 f) arena a.arena_held in
      passes _ _ _ _ _ (omega (arith, n, a.index_holds)) (omega (arith, m, a.filter_holds)) (omega (arith, u, a.starts_hold)) (omega (arith, v, a.lengths_hold)) (omega (arith, r, a.arena_held))
      (omega (arith, r, a.arena_short))

  -- its segments lie in its bytes, which they add up to
  pub segments_inside_law : (starts lengths : List ℕ)
      → segments_inside (length (segment_lengths f)) (length (content_of 4 f)) (over (padded (starts_by 0 (segment_lengths f))) starts) (over (padded (segment_lengths f)) lengths) ≡ true
  segments_inside_law starts lengths =
      let l : List ℕ = segment_lengths f in
      let n : length (starts_by 0 l) ≡ length l = starts_length l 0 in
      segments_pass (length (content_of 4 f)) (over (padded (starts_by 0 l)) starts) (over (padded l) lengths) (length l)
      (λ g h.
      let s = filled_at (starts_by 0 l) starts g (omega (arith, n, few_segments)) (omega (arith, n, h)) in
      let t = filled_at l lengths g few_segments h in
      omega (arith, s, t, starts_within l 0 g h, asked.adds_up))

  -- so it can be a source
  pub load_source : (index filter starts lengths arena : List ℕ) → LoadAsked f index filter starts lengths arena
      → areas_hold_source (file_set f) (over (padded (starts_by 0 (segment_lengths f))) starts) (over (padded (segment_lengths f)) lengths) (length (over (content_of 4 f) arena)) ≡ true
  unfolding areas_hold_source segment_areas_hold arena_holds
  load_source index filter starts lengths arena a =
      let u = over_padded_length (starts_by 0 (segment_lengths f)) starts a.starts_hold in
      let v = over_padded_length (segment_lengths f) lengths a.lengths_hold in
      let r = over_length (content_of 4 f) arena a.arena_held in
      rw (numbers, u, v, r, le-leb _ _ a.starts_hold, le-leb _ _ a.lengths_hold, le-leb _ _ a.arena_held, le-leb _ _ a.arena_short) (segments_inside_law starts lengths)
