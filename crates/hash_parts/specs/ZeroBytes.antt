-- The bytes of a word, and words that mark bytes.
-- Assumes nothing.
use Rattle.std.specs.Prelude.{ℕ, zero, suc, ◌+◌, ◌-◌, ◌*◌, ◌/◌, ◌%◌, ◌^◌, Bool, true, false, cond, not, List, [], ◌∷◌, map, ◌==◌}
use Rattle.std.specs.Int.Count.{count_trailing_zeros}

-- the k bytes of a number, lowest first
unfoldable pub bytes_of : ℕ → ℕ → List ℕ
bytes_of zero w = []
bytes_of (suc k) w = w % 256 ∷ bytes_of k (w / 256)

-- the number of some bytes, lowest first
unfoldable pub number_of : List ℕ → ℕ
number_of [] = 0
number_of (b ∷ l) = b + 256 * number_of l

-- ---- which bytes are 0

-- the word with 0x80 in the marked bytes and 0 in the others
unfoldable pub marks : List Bool → ℕ
marks [] = 0
marks (b ∷ bs) = marks bs * 256 + cond b 0x80 0

abbrev pub is_zero : ℕ → Bool
is_zero b = b == 0

-- which of the eight bytes of a word are 0
unfoldable pub zero_bytes : ℕ → List Bool
zero_bytes w = map is_zero (bytes_of 8 w)

unfoldable pub zero_marks : ℕ → ℕ
zero_marks w = marks (zero_bytes w)

-- ---- the lowest byte that is not 0, for any word; where the word is one of marks, its lowest mark

abbrev pub is_set : ℕ → Bool
is_set b = not (is_zero b)

-- the place of the first mark; as many as there are places where there is none
unfoldable pub first_mark : List Bool → ℕ
first_mark [] = 0
first_mark (true ∷ bs) = 0
first_mark (false ∷ bs) = suc (first_mark bs)

-- Packed index: "Matching bytes are visited from the lowest set bit up." The byte of the lowest set bit of a word; 8 where no bit is set.
unfoldable pub lowest_set : ℕ → ℕ
lowest_set w = first_mark (map is_set (bytes_of 8 w))

-- some bytes, where the first that is not 0 has lost its lowest set bit; a mark has no other
unfoldable pub lowest_cleared : List ℕ → List ℕ
lowest_cleared [] = []
lowest_cleared (b ∷ l) = cond (is_zero b) (0 ∷ lowest_cleared l) ((b - 2 ^ count_trailing_zeros 8 b) ∷ l)

-- a word without its lowest set bit, by its bytes
unfoldable pub without_lowest : ℕ → ℕ
without_lowest w = number_of (lowest_cleared (bytes_of 8 w))
