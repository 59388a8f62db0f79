-- How many words the areas of so many records take, so that nobody counts them by hand; asked as open asks.
-- Assumes nothing.
use Rattle.std.specs.Prelude.{ℕ, ◌*◌, cond, Result}
use Rattle.hash_parts.specs.declared.error.SegmentCacheBuildError.{SegmentCacheBuildError}
use Rattle.hash_parts.specs.declared.setting.SegmentCacheConfig.{SegmentCacheConfig}
use Rattle.index.specs.Segments.{most_segments}
use Rattle.sets.specs.Answers.{Reply, accept, refuse, reply_of}
use Rattle.sets.specs.Questions.{ask_counts, buckets_in, decided, filter_words_in, first_no}
use Rattle.sets.specs.declared.areas.AreaWords.{AreaWords}

-- the word layout needs no scratch
abbrev pub words_needed : SegmentCacheConfig → ℕ → AreaWords
words_needed c records =
    record {
      index = 8 * buckets_in c records;
      filter = filter_words_in c records;
      starts = most_segments;
      lengths = most_segments;
      scratch = cond c.packed_bucket_index (buckets_in c records) 0;
    }

abbrev pub area_words_reply : Result AreaWords SegmentCacheBuildError → Reply AreaWords (Unit {0})
area_words_reply r = reply_of tt r

unfoldable pub area_words_for : SegmentCacheConfig → ℕ → Reply AreaWords (Unit {0})
area_words_for c records = decided (first_no (ask_counts c records)) (accept (words_needed c records)) (λ n. refuse n tt)
