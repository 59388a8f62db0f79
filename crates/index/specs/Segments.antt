-- Segments: "Up to the target: one. Else each next segment starts at the lowest record location not below the last start plus target; with
-- none, no more. Location becomes segment × 2^32 + offset. Start and length stand in two 256-word areas, unused words 0."
-- Assumes nothing.
use Rattle.std.specs.Prelude.{ℕ, zero, suc, ◌+◌, ◌-◌, ◌*◌, min, Bool, true, false, cond, List, [], ◌∷◌, ◌++◌, map, length, take, drop, replicate, ◌==◌, nat_le, nat_lt, slice_index, Result, Ok, Err}
use Rattle.hash_parts.specs.Outcome.{Outcome, accepted, outcome_of, refused}
use Rattle.hash_parts.specs.declared.error.SegmentCacheBuildError.{SegmentCacheBuildError}
use Rattle.hash_parts.specs.declared.error.SegmentCacheBuildError.TheVariants.{ArenaTooLarge, AreaTooShort}
use Rattle.records.specs.Area.{over}
use Rattle.index.specs.Word.{location_in, locations, word_of, word_tag, word_stored}

-- ---- starts

-- above every location
abbrev pub no_start : ℕ
no_start = locations

-- "two 256-word areas": a set has at most so many segments
abbrev pub most_segments : ℕ
most_segments = 256

-- a word whose location is not below a bound; one of stored location 0 has none
abbrev pub starts_at : ℕ → ℕ → Bool
starts_at bound w = nat_lt bound (word_stored w)

-- the lowest location not below a bound; `no_start` where there is none
unfoldable pub next_start : List ℕ → ℕ → ℕ
next_start [] bound = no_start
next_start (w ∷ words) bound = cond (starts_at bound w) (min (word_stored w - 1) (next_start words bound)) (next_start words bound)

-- of the words of so many buckets; an area with fewer has none
unfoldable pub start_in : List ℕ → ℕ → ℕ → ℕ
start_in index buckets bound = cond (nat_le (8 * buckets) (length index)) (next_start (take (8 * buckets) index) bound) no_start

-- the start after `last`: none where what is left is within the target; a target of 0 splits nothing
unfoldable pub start_after : List ℕ → ℕ → ℕ → ℕ → ℕ
start_after words filled target last = cond (target == 0) no_start (cond (nat_le filled (last + target)) no_start (next_start words (last + target)))

-- the starts after `last`, at most so many
unfoldable pub starts_after : ℕ → List ℕ → ℕ → ℕ → ℕ → List ℕ
starts_after zero words filled target last = []
starts_after (suc n) words filled target last =
    let next : ℕ = start_after words filled target last in
    cond (nat_lt next no_start) (next ∷ starts_after n words filled target next) []

-- the starts, at most one more than a set can have
unfoldable pub starts_of : List ℕ → ℕ → ℕ → List ℕ
starts_of words filled target = 0 ∷ starts_after most_segments words filled target 0

-- ---- lengths, and a location's segment

unfoldable pub lengths_of : ℕ → List ℕ → List ℕ
lengths_of filled [] = []
lengths_of filled (start ∷ []) = (filled - start) ∷ []
lengths_of filled (start ∷ next ∷ starts) = (next - start) ∷ lengths_of filled (next ∷ starts)

-- the number of the last start that is not above a location
unfoldable pub segment_of : List ℕ → ℕ → ℕ
segment_of [] location = 0
segment_of (start ∷ []) location = 0
segment_of (start ∷ next ∷ starts) location = cond (nat_le next location) (suc (segment_of (next ∷ starts) location)) 0

-- a location by its segment and the offset in it
abbrev pub segmented : List ℕ → ℕ → ℕ
segmented starts location = location_in (segment_of starts location) (location - slice_index starts (segment_of starts location))

-- a word with its location split, without its mark; a word that names no record as it is
unfoldable pub split_word : List ℕ → ℕ → ℕ
split_word starts w = cond (word_stored w == 0) w (word_of (word_tag w) (segmented starts (word_stored w - 1)))

-- ---- what splitting leaves

-- a list, and zeros up to 256
unfoldable pub padded : List ℕ → List ℕ
padded l = take most_segments l ++ replicate (most_segments - length l) 0

-- how many starts there are, where a set can have so many segments
abbrev pub counted : List ℕ → Result ℕ SegmentCacheBuildError
counted ss = cond (nat_le (length ss) most_segments) (Ok (length ss)) (Err ArenaTooLarge)

-- what a split leaves: the answer, and the content of the index, starts and lengths areas
pub record Split : Type 0 where
  pub answer : Outcome
  pub index : List ℕ
  pub starts : List ℕ
  pub lengths : List ℕ

abbrev pub split_result : Result ℕ SegmentCacheBuildError → List ℕ → List ℕ → List ℕ → Split
split_result r index starts lengths = record { answer = outcome_of r; index = index; starts = starts; lengths = lengths }

-- the areas hold the words of so many buckets, and 256 starts and lengths
abbrev pub splittable : List ℕ → ℕ → List ℕ → List ℕ → Bool
splittable index buckets starts lengths = cond (nat_le (8 * buckets) (length index)) (cond (nat_le most_segments (length starts)) (nat_le most_segments (length lengths)) false) false

-- the index with every word split; marks stay where nothing is split
abbrev pub split_words : List ℕ → ℕ → List ℕ → ℕ → ℕ → List ℕ
split_words index buckets ss filled target = cond (nat_le filled target) index (map (split_word ss) (take (8 * buckets) index) ++ drop (8 * buckets) index)

-- of more than 256 segments only the first 256 starts are written
abbrev pub split_by : List ℕ → List ℕ → ℕ → ℕ → ℕ → List ℕ → List ℕ → Split
split_by ss index buckets filled target starts lengths =
    cond (nat_le (length ss) most_segments)
    (record {
      answer = accepted (length ss);
      index = split_words index buckets ss filled target;
      starts = over (padded ss) starts;
      lengths = over (padded (lengths_of filled ss)) lengths;
    })
    (record { answer = refused ArenaTooLarge; index = index; starts = over (padded ss) starts; lengths = lengths })

unfoldable pub split : List ℕ → ℕ → ℕ → ℕ → List ℕ → List ℕ → Split
split index buckets filled target starts lengths =
    cond (splittable index buckets starts lengths)
    (split_by (starts_of (take (8 * buckets) index) filled target) index buckets filled target starts lengths)
    (record { answer = refused AreaTooShort; index = index; starts = starts; lengths = lengths })

-- ---- the question on locations

-- "Each occupied word's location below the filled bytes, stored location 0 counting as no?"
abbrev pub inside : ℕ → ℕ → Bool
inside filled w = cond (w == 0) true (cond (word_stored w == 0) false (nat_le (word_stored w) filled))

unfoldable pub all_inside : ℕ → List ℕ → Bool
all_inside filled [] = true
all_inside filled (w ∷ words) = cond (inside filled w) (all_inside filled words) false

-- of the words of so many buckets; an area with fewer is not
unfoldable pub locations_inside : List ℕ → ℕ → ℕ → Bool
locations_inside index buckets filled = cond (nat_le (8 * buckets) (length index)) (all_inside filled (take (8 * buckets) index)) false
