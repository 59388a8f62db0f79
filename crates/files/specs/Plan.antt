-- What private functions answer by: the questions of a file, with the set that it tells of.
-- Assumes nothing.
use Rattle.std.specs.Prelude.{Bool, List, [], ◌∷◌, ℕ, ◌*◌, ◌%◌, eqb, leb, length, Result, Ok, Err}
use Rattle.hash_parts.specs.Error.{error_number}
use Rattle.hash_parts.specs.declared.error.SegmentCacheBuildError.{SegmentCacheBuildError}
use Rattle.sets.specs.Answers.{Reply, accept, refuse}
use Rattle.sets.specs.Questions.{all, decided, first_no, most_arena_bytes}
use Rattle.sets.specs.declared.cache.FrozenSegmentCache.{FrozenSegmentCache}
use Rattle.files.specs.Blocks.{content_of}
use Rattle.files.specs.Contents.{ask_file, field, file_set, segment_lengths, sum, tick_fits}

abbrev pub plan_reply : Result FrozenSegmentCache SegmentCacheBuildError → Reply FrozenSegmentCache (Unit {0})
plan_reply (Ok s) = accept s
plan_reply (Err e) = refuse (error_number e) tt

-- the set of a file that passes 13, 14 and 15
unfoldable pub file_asked : List ℕ → Reply FrozenSegmentCache (Unit {0})
file_asked f = decided (first_no (ask_file f)) (accept (file_set f)) (λ n. refuse n tt)

-- "expiry on (1 byte, 0 or 1) .. packed (1, 0 or 1)", and the tick with expiry off
unfoldable pub flags_fit : List ℕ → Bool
flags_fit f = all (leb (field 0 f) 1 ∷ leb (field 4 f) 1 ∷ tick_fits f ∷ [])

-- what is left of what 15 asks once the numbers are asked: the blocks' lengths by the counts, and the segments' lengths
unfoldable pub blocks_fit : ℕ → ℕ → List ℕ → Bool
blocks_fit buckets words f =
    all
    (eqb (length (content_of 1 f) % 8) 0
    ∷ eqb (length (content_of 2 f)) (64 * buckets)
    ∷ eqb (length (content_of 3 f)) (8 * words)
    ∷ leb (length (content_of 4 f)) most_arena_bytes
    ∷ eqb (sum (segment_lengths f)) (length (content_of 4 f))
    ∷ [])
