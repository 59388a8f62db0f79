-- Length prefixes as they are read.
-- Assumes nothing.
use Rattle.std.specs.Prelude.{ℕ, ◌+◌, ◌%◌, ◌^◌, cond, List, Option, Some, None, leb, drop}
use Rattle.records.specs.Uleb128.{Decoded, decoded, unended, decode}

-- Stored record: "The reader takes over-long prefixes, never an eleventh byte. At the tenth byte it follows the Rust: only the lowest payload
-- bit counts." Nine bytes hold 63 bits, so that is the number modulo 2^64.
abbrev pub limited : ℕ → Decoded → Option (ℕ × ℕ)
limited at (decoded v n) = cond (leb n 10) (Some (v % 2 ^ 64, at + n)) None
limited at unended = None

-- the prefix at a position, and the position after it
unfoldable pub read_varint : List ℕ → ℕ → Option (ℕ × ℕ)
read_varint s at = limited at (decode (drop at s))
