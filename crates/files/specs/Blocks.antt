-- The blocks of a file: "blocks, each a 4-byte length of its content, then a 2-byte kind, then the content, all little-endian".
-- Assumes nothing.
use Rattle.std.specs.Prelude.{Bool, true, false, cond, List, [], ◌∷◌, ◌++◌, ℕ, zero, suc, ◌+◌, eqb, leb, length, drop}
use Rattle.hash_parts.specs.ZeroBytes.{bytes_of, number_of}
use Rattle.records.specs.Area.{part}
use Rattle.sets.specs.Questions.{all}

-- of the block that a list of bytes begins with: what its header says, and what stands behind it
abbrev pub size_in : List ℕ → ℕ
size_in f = number_of (part 0 4 f)

abbrev pub kind_in : List ℕ → ℕ
kind_in f = number_of (part 4 2 f)

abbrev pub behind : List ℕ → List ℕ
behind f = drop (6 + size_in f) f

-- it does not run past the end
unfoldable pub is_whole : List ℕ → Bool
is_whole f = all (leb 6 (length f) ∷ leb (6 + size_in f) (length f) ∷ [])

-- 13: "a block runs past the file's end or bytes follow the fifth", of at most so many blocks
unfoldable pub frames_well : ℕ → List ℕ → Bool
frames_well zero [] = true
frames_well zero (b ∷ f) = false
frames_well (suc n) [] = true
frames_well (suc n) (b ∷ f) = cond (is_whole (b ∷ f)) (frames_well n (behind (b ∷ f))) false

-- 14: "a kind is missing, unknown or out of place": so many kinds, from one on
unfoldable pub kinds_from : ℕ → ℕ → List ℕ → Bool
kinds_from kind zero f = true
kinds_from kind (suc n) [] = false
kinds_from kind (suc n) (b ∷ f) = cond (eqb (kind_in (b ∷ f)) kind) (kinds_from (suc kind) n (behind (b ∷ f))) false

-- the content of a block, the first is 0
unfoldable pub content_of : ℕ → List ℕ → List ℕ
content_of zero f = part 6 (size_in f) f
content_of (suc n) f = content_of n (behind f)

-- a block as it is written
abbrev pub block : ℕ → List ℕ → List ℕ
block kind content = bytes_of 4 (length content) ++ (bytes_of 2 kind ++ content)
