-- Loading a file: its questions, and what it leaves in every area.
-- Assumes nothing.
use Rattle.std.specs.Prelude.{Bool, List, [], ◌∷◌, ◌++◌, ℕ, ◌*◌, leb, length, Result, Ok, Err}
use Rattle.hash_parts.specs.Error.{error_number}
use Rattle.hash_parts.specs.declared.error.SegmentCacheBuildError.{SegmentCacheBuildError}
use Rattle.records.specs.Area.{over}
use Rattle.index.specs.Segments.{most_segments, padded}
use Rattle.sets.specs.Answers.{Reply, accept, refuse}
use Rattle.sets.specs.Questions.{all, arena_holds, decided, first_no, segment_areas_hold}
use Rattle.sets.specs.declared.cache.FrozenSegmentCache.{FrozenSegmentCache}
use Rattle.files.specs.Blocks.{content_of}
use Rattle.files.specs.Contents.{ask_file, buckets_of, file_filter, file_index, file_set, filter_words_of, segment_lengths, starts_by}
use Rattle.files.specs.declared.load.FileNeeds.{FileNeeds}

-- 10: "any lent area too short .. and .. a lent arena above [a set's] bound"; the areas by their lengths
unfoldable pub load_areas_hold : List ℕ → ℕ → ℕ → ℕ → ℕ → ℕ → Bool
load_areas_hold f index filter starts lengths arena =
    all
    (leb (8 * buckets_of f) index
    ∷ leb (filter_words_of f) filter
    ∷ segment_areas_hold starts lengths
    ∷ arena_holds (length (content_of 4 f)) arena
    ∷ [])

unfoldable pub ask_load : List ℕ → ℕ → ℕ → ℕ → ℕ → ℕ → List (Bool × ℕ)
ask_load f index filter starts lengths arena = ask_file f ++ ((load_areas_hold f index filter starts lengths arena, 10) ∷ [])

-- what a load leaves: its answer, and the five areas
pub record Loaded : Type 0 where
  pub answer : Reply FrozenSegmentCache (Unit {0})
  pub index : List ℕ
  pub filter : List ℕ
  pub starts : List ℕ
  pub lengths : List ℕ
  pub arena : List ℕ

unfoldable pub after_load : List ℕ → List ℕ → List ℕ → List ℕ → List ℕ → List ℕ → Loaded
after_load f index filter starts lengths arena =
    decided (first_no (ask_load f (length index) (length filter) (length starts) (length lengths) (length arena)))
    (record {
      answer = accept (file_set f);
      index = over (file_index f) index;
      filter = over (file_filter f) filter;
      starts = over (padded (starts_by 0 (segment_lengths f))) starts;
      lengths = over (padded (segment_lengths f)) lengths;
      arena = over (content_of 4 f) arena;
    })
    (λ n. record { answer = refuse n tt; index = index; filter = filter; starts = starts; lengths = lengths; arena = arena })

-- ---- what a caller lends

-- the least lengths that a load takes: words, and the arena's bytes
abbrev pub needs_of : List ℕ → FileNeeds
needs_of f =
    record {
      index = 8 * buckets_of f;
      filter = filter_words_of f;
      starts = most_segments;
      lengths = most_segments;
      arena = length (content_of 4 f);
    }

-- asked as a load asks, but for the areas
unfoldable pub needs_answer : List ℕ → Reply FileNeeds (Unit {0})
needs_answer f = decided (first_no (ask_file f)) (accept (needs_of f)) (λ n. refuse n tt)

-- ---- answers

abbrev pub needs_reply : Result FileNeeds SegmentCacheBuildError → Reply FileNeeds (Unit {0})
needs_reply (Ok n) = accept n
needs_reply (Err e) = refuse (error_number e) tt

abbrev pub load_reply : Result FrozenSegmentCache SegmentCacheBuildError → Reply FrozenSegmentCache (Unit {0})
load_reply (Ok s) = accept s
load_reply (Err e) = refuse (error_number e) tt

abbrev pub load_result : Result FrozenSegmentCache SegmentCacheBuildError → List ℕ → List ℕ → List ℕ → List ℕ → List ℕ → Loaded
load_result r index filter starts lengths arena =
    record { answer = load_reply r; index = index; filter = filter; starts = starts; lengths = lengths; arena = arena }
