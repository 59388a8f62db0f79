-- The parts of a hash.
-- Assumes nothing.
use Rattle.std.specs.Prelude.{ℕ, ◌+◌, ◌*◌, ◌/◌, ◌%◌, ◌^◌, bit_xor}

-- Hash parts: "Tag: hash div 2^41, 23 bits."
abbrev pub tag_of : ℕ → ℕ
tag_of h = h / 2 ^ 41

-- "First bucket: hash × buckets div 2^64."
unfoldable pub first_bucket : ℕ → ℕ → ℕ
first_bucket h buckets = h * buckets / 2 ^ 64

-- Packed index: "Control byte: (tag mod 128) mod 127 + 1"
abbrev pub control_tag : ℕ → ℕ
control_tag t = t % 128 % 127 + 1

-- "tag div 128 (2 bytes)"
abbrev pub secondary_tag : ℕ → ℕ
secondary_tag t = t / 128 % 2 ^ 16

-- the 64 bits of a hash, rotated left by 27
unfoldable pub rotated : ℕ → ℕ
rotated h = h * 2 ^ 27 % 2 ^ 64 + h / 2 ^ 37

-- Negative filter: "Hashes are mixed by a multiplication that wraps at 64 bits, as in `negative_filter_location`."
unfoldable pub mixed_hash : ℕ → ℕ
mixed_hash h = bit_xor (rotated h * 0x9e37_79b9_7f4a_7c15 % 2 ^ 64) (h / 2 ^ 29)
