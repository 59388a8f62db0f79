-- How long the blocks of a written file are, and the file. Assumes nothing.
use mathlib.Core.Path.{◌≡◌, ap, ◌∙◌}
use mathlib.Core.List.{List, ◌++◌}
use Prim.Native.Nat.{ℕ, ◌*◌}
use native.Mathlib.Omega.{arith}
use lib.ListN.{length, take, length-append}
use lib.Seq.{length-take-le}
use Rattle.index.specs.Packed.{word_bytes}
use Rattle.sets.specs.Rebuild.{sum_of}
use Rattle.sets.specs.declared.cache.FrozenSegmentCache.{FrozenSegmentCache}
use Rattle.files.specs.Blocks.{block}
use Rattle.files.specs.Contents.{unmarked_index}
use Rattle.files.specs.Write.{count_bytes, file_of, file_size, segment_bytes}
use Rattle.files.proofs.Asked.{WriteAsked}
use Rattle.files.proofs.Low.{unmarked_length, word_bytes_length}
use Rattle.files.proofs.Moved.{segments_length}
use Rattle.files.proofs.Pieces.{block_length, counts_long}

module _ (s : FrozenSegmentCache) (index filter starts lengths arena out : List ℕ) (asked : WriteAsked s index filter starts lengths arena out) where
  -- ---- the contents

  abbrev pub c1 : List ℕ
  c1 = count_bytes s

  abbrev pub c2 : List ℕ
  c2 = word_bytes (take s.segments lengths)

  abbrev pub words3 : List ℕ
  words3 = unmarked_index s.config.packed_bucket_index s.buckets (take (8 * s.buckets) index)

  abbrev pub c3 : List ℕ
  c3 = word_bytes words3

  abbrev pub c4 : List ℕ
  c4 = word_bytes (take s.filter_words filter)

  abbrev pub c5 : List ℕ
  c5 = segment_bytes s.segments starts lengths arena

  pub one_long : length c1 ≡ 44
  one_long = counts_long s

  pub two_words : length (take s.segments lengths) ≡ s.segments
  two_words = length-take-le s.segments lengths (omega (arith, asked.few_segments, asked.lengths_hold))

  pub two_long : length c2 ≡ 8 * s.segments
  two_long = word_bytes_length (take s.segments lengths) ∙ ap (λ (n : ℕ). 8 * n) two_words

  three_taken : length (take (8 * s.buckets) index) ≡ 8 * s.buckets
  three_taken = length-take-le (8 * s.buckets) index asked.index_holds

  pub three_words : length words3 ≡ 8 * s.buckets
  three_words = unmarked_length s.config.packed_bucket_index s.buckets (take (8 * s.buckets) index) (omega (arith, three_taken)) ∙ three_taken

  pub three_long : length c3 ≡ 64 * s.buckets
  three_long = omega (arith, word_bytes_length words3, three_words)

  pub four_words : length (take s.filter_words filter) ≡ s.filter_words
  four_words = length-take-le s.filter_words filter asked.filter_holds

  pub four_long : length c4 ≡ 8 * s.filter_words
  four_long = word_bytes_length (take s.filter_words filter) ∙ ap (λ (n : ℕ). 8 * n) four_words

  pub five_long : length c5 ≡ sum_of s.segments lengths
  five_long =
      segments_length starts lengths arena s.segments (omega (arith, asked.few_segments, asked.lengths_hold)) (λ g h. omega (arith, asked.inside g h, asked.filled_held))

  -- ---- the file

  abbrev pub file : List ℕ
  file = file_of s index filter starts lengths arena

  pub file_long : length file ≡ file_size s lengths
  unfolding file_of
  file_long =
      omega (
        arith,
        length-append (block 1 c1) (block 2 c2 ++ (block 3 c3 ++ (block 4 c4 ++ block 5 c5))),
        length-append (block 2 c2) (block 3 c3 ++ (block 4 c4 ++ block 5 c5)),
        length-append (block 3 c3) (block 4 c4 ++ block 5 c5),
        length-append (block 4 c4) (block 5 c5),
        block_length 1 c1,
        block_length 2 c2,
        block_length 3 c3,
        block_length 4 c4,
        block_length 5 c5,
        one_long,
        two_long,
        three_long,
        four_long,
        five_long,
      )
