-- Which segments of its source a rebuild keeps: a bit for each of 256 segments, in four words. The rebuilt set: "Keeps chosen segments unmoved";
-- questions: "keep flags .. (0 drops, else kept)"; "the kept segments' starts and lengths, numbered anew in order".
-- Assumes nothing.
use Rattle.std.specs.Prelude.{ℕ, zero, suc, ◌+◌, ◌*◌, ◌/◌, ◌%◌, Bool, false, cond, List, [], ◌∷◌, take, ◌==◌, slice_index_or}
use mathlib.Core.List.{flat_map}
use Rattle.records.specs.Area.{part}
use Rattle.sets.specs.declared.kept.KeptSegments.{KeptSegments}

-- ---- the bits of a state

-- the lowest bits of a number, so many, the lowest first
unfoldable pub bits_of : ℕ → ℕ → List Bool
bits_of zero w = []
bits_of (suc n) w = (w % 2 == 1) ∷ bits_of n (w / 2)

-- its four words, that of the first segments first
abbrev pub kept_words : KeptSegments → List ℕ
kept_words k = k.w0 ∷ k.w1 ∷ k.w2 ∷ k.w3 ∷ []

-- of each of 256 segments, whether it is kept
unfoldable pub kept_flags : KeptSegments → List Bool
kept_flags k = flat_map (bits_of 64) (kept_words k)

abbrev pub count_true : List Bool → ℕ
count_true [] = 0
count_true (b ∷ l) = cond b (suc (count_true l)) (count_true l)

unfoldable pub is_kept : KeptSegments → ℕ → Bool
is_kept k g = slice_index_or (kept_flags k) g false

-- how many are kept
unfoldable pub retained : KeptSegments → ℕ
retained k = count_true (kept_flags k)

-- the new number of a kept segment: how many are kept before it
unfoldable pub new_number : KeptSegments → ℕ → ℕ
new_number k g = count_true (take g (kept_flags k))

-- ---- the flags at rebuild open

-- how many are kept by flags
unfoldable pub kept_count : List ℕ → ℕ
kept_count [] = 0
kept_count (f ∷ l) = cond (f == 0) (kept_count l) (suc (kept_count l))

-- a number whose lowest bits are flags
unfoldable pub flag_word : List ℕ → ℕ
flag_word [] = 0
flag_word (f ∷ l) = cond (f == 0) 0 1 + 2 * flag_word l

abbrev pub kept_of : List ℕ → KeptSegments
kept_of flags =
    record {
      w0 = flag_word (part 0 64 flags);
      w1 = flag_word (part 64 64 flags);
      w2 = flag_word (part 128 64 flags);
      w3 = flag_word (part 192 64 flags);
    }

-- the words of an area that are kept by flags, in order
unfoldable pub chosen : List ℕ → List ℕ → List ℕ
chosen [] words = []
chosen (f ∷ flags) [] = []
chosen (f ∷ flags) (w ∷ words) = cond (f == 0) (chosen flags words) (w ∷ chosen flags words)
