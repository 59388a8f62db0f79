-- The negative filter: "As many 64-bit words as records × filter bits (0 to 255) need, none if either is 0. Hashes are mixed by a
-- multiplication that wraps at 64 bits, as in `negative_filter_location`."
-- Assumes nothing.
use Rattle.std.specs.Prelude.{ℕ, ◌+◌, ◌-◌, ◌/◌, ◌%◌, ◌^◌, Bool, true, false, cond, List, length, ◌==◌, bit_and, bit_or, nat_le, slice_index, slice_set}
use Rattle.hash_parts.specs.Hash.{first_bucket, mixed_hash}

-- a bit, or the next around where it is one of two others
unfoldable pub bit_past : ℕ → ℕ → ℕ → ℕ
bit_past a b bit = cond (bit == a) ((bit + 1) % 64) (cond (bit == b) ((bit + 1) % 64) bit)

-- the three bits of a hash, each another
abbrev pub first_bit : ℕ → ℕ
first_bit h = h % 64

abbrev pub second_bit : ℕ → ℕ
second_bit h = bit_past (first_bit h) (first_bit h) (mixed_hash h / 2 ^ 21 % 64)

abbrev pub third_bit : ℕ → ℕ
third_bit h = bit_past (first_bit h) (second_bit h) (bit_past (first_bit h) (second_bit h) (mixed_hash h / 2 ^ 42 % 64))

-- the word of a hash, of so many, and its bits there
unfoldable pub filter_word : ℕ → ℕ → ℕ
filter_word words h = first_bucket (mixed_hash h) words

unfoldable pub filter_mask : ℕ → ℕ
filter_mask h = bit_or (bit_or (2 ^ first_bit h) (2 ^ second_bit h)) (2 ^ third_bit h)

-- a filter of so many words is asked and marked where it has words and the area holds them
abbrev pub usable : List ℕ → ℕ → Bool
usable filter words = cond (words == 0) false (nat_le words (length filter))

-- the filter with a hash marked
unfoldable pub filter_marked : List ℕ → ℕ → ℕ → List ℕ
filter_marked filter words h =
    cond (usable filter words) (slice_set filter (filter_word words h) (bit_or (slice_index filter (filter_word words h)) (filter_mask h))) filter

-- how far a bucket is past the first, around
unfoldable pub displaced : ℕ → ℕ → ℕ → ℕ
displaced primary current buckets = cond (nat_le primary current) (current - primary) (buckets - primary + current)

-- "Only records two or more buckets past their first are marked."
unfoldable pub displaced_marked : List ℕ → ℕ → ℕ → ℕ → ℕ → List ℕ
displaced_marked filter words h slot buckets =
    cond (nat_le 2 (displaced (first_bucket h buckets) (slot / 8) buckets)) (filter_marked filter words h) filter

-- whether a hash may have been marked
unfoldable pub filter_has : List ℕ → ℕ → ℕ → Bool
filter_has filter words h =
    cond (usable filter words) (bit_and (slice_index filter (filter_word words h)) (filter_mask h) == filter_mask h) true
