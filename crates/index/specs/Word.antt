-- Index words: "An empty word is 0; else tag × 2^40 + location + 1, bit 63 the access mark."
-- Assumes nothing.
use Rattle.std.specs.Prelude.{ℕ, ◌+◌, ◌*◌, ◌/◌, ◌%◌, ◌^◌}

-- a stored location has 40 bits
abbrev pub locations : ℕ
locations = 2 ^ 40

-- a word of a tag and a location; past 23 and 40 bits the lower bits count
abbrev pub word_of : ℕ → ℕ → ℕ
word_of tag location = tag % 2 ^ 23 * locations + (location + 1) % locations

abbrev pub word_tag : ℕ → ℕ
word_tag w = w / locations % 2 ^ 23

-- the stored location: the location plus 1, or 0
abbrev pub word_stored : ℕ → ℕ
word_stored w = w % locations

abbrev pub marked : ℕ → ℕ
marked w = w % 2 ^ 63 + 2 ^ 63

abbrev pub unmarked : ℕ → ℕ
unmarked w = w % 2 ^ 63

-- ---- locations of a finished set. Segments: "Location becomes segment × 2^32 + offset."

abbrev pub location_in : ℕ → ℕ → ℕ
location_in segment offset = segment * 2 ^ 32 + offset

abbrev pub segment_part : ℕ → ℕ
segment_part location = location / 2 ^ 32

abbrev pub offset_part : ℕ → ℕ
offset_part location = location % 2 ^ 32
