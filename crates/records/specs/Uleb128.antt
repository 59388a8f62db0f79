-- Unsigned LEB128 of the DWARF standard (version 5, section 7.6, and the algorithms of its appendix C): seven bits of the number to a byte,
-- lowest first, and the top bit set in each byte but the last.
-- Assumes nothing.
use Rattle.std.specs.Prelude.{ℕ, zero, suc, ◌+◌, ◌*◌, ◌/◌, ◌%◌, cond, List, [], ◌∷◌, ltb}

-- the bytes of n, where `steps` bytes before the last are more than enough
unfoldable pub uleb_in : ℕ → ℕ → List ℕ
uleb_in zero n = n ∷ []
uleb_in (suc steps) n = let more : List ℕ = (n % 128 + 128) ∷ uleb_in steps (n / 128) in cond (ltb n 128) (n ∷ []) more

-- the bytes of n
unfoldable pub uleb128 : ℕ → List ℕ
uleb128 n = uleb_in n n

-- what a list of bytes begins with: a number and how many bytes it takes, or none where every byte has its top bit set
pub data Decoded : Type 0 where
  decoded : ℕ → ℕ → Decoded
  unended : Decoded

-- a byte with its top bit set, in front of what follows it
abbrev pub continued : ℕ → Decoded → Decoded
continued b (decoded v n) = decoded (b % 128 + 128 * v) (suc n)
continued b unended = unended

-- the standard's reader: any number of bytes, a number of any size
unfoldable pub decode : List ℕ → Decoded
decode [] = unended
decode (b ∷ s) = cond (ltb b 128) (decoded b 1) (continued b (decode s))
