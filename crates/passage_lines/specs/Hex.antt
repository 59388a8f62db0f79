-- Bytes as hexadecimal text, in small letters: "Hash, key and value hexadecimal in small letters, `-` for no
-- bytes".
-- Assumes nothing.
use Rattle.std.specs.Prelude.{ℕ, ◌+◌, ◌*◌, Bool, true, false, cond, Option, Some, None, List, [], ◌∷◌, eqb, leb, ltb, length, take, bytes_eq, codes}
use Rattle.records.specs.Area.{over}
use Rattle.passage_lines.specs.Text.{digit_of}

-- the byte that two digits spell
unfoldable pub byte_of_hex : ℕ → ℕ → Option ℕ
byte_of_hex h l = cond (ltb (digit_of h) 16) (cond (ltb (digit_of l) 16) (Some (digit_of h * 16 + digit_of l)) None) None

abbrev pub in_front : ℕ → Option (List ℕ) → Option (List ℕ)
in_front b None = None
in_front b (Some s) = Some (b ∷ s)

-- the bytes that a text spells, two digits to a byte; none for an odd number of characters, and where one is no digit
unfoldable pub bytes_of_hex : List ℕ → Option (List ℕ)
bytes_of_hex [] = Some []
bytes_of_hex (h ∷ []) = None
bytes_of_hex (h ∷ l ∷ s) = cond (ltb (digit_of h) 16) (cond (ltb (digit_of l) 16) (in_front (digit_of h * 16 + digit_of l) (bytes_of_hex s)) None) None

abbrev pub spells : Option (List ℕ) → Bool
spells None = false
spells (Some s) = true

-- whether a text spells bytes
unfoldable pub is_hex : List ℕ → Bool
is_hex text = spells (bytes_of_hex text)

-- how many characters of a field spell its bytes: "`-` for no bytes", else an even number of digits, and at least two
unfoldable pub hex_length : List ℕ → Option ℕ
hex_length text = cond (bytes_eq text (codes "-")) (Some 0) (cond (eqb (length text) 0) None (cond (is_hex text) (Some (length text)) None))

-- ---- decoding into a lent area

-- what decoding leaves: how many bytes were written, none where it is refused, and the area's content
pub record Decoded : Type 0 where
  pub count : Option ℕ
  pub area : List ℕ

abbrev pub decode_result : Option ℕ → List ℕ → Decoded
decode_result count area = record { count = count; area = area }

-- the bytes of a text are written to the front of an area; nothing is, where the text spells none or they do not fit
abbrev pub decoded_to : List ℕ → Option (List ℕ) → Decoded
decoded_to area None = record { count = None; area = area }
decoded_to area (Some s) = cond (leb (length s) (length area)) (record { count = Some (length s); area = over s area }) (record { count = None; area = area })

unfoldable pub decoded : List ℕ → List ℕ → Decoded
decoded text area = decoded_to area (bytes_of_hex text)

-- the bytes that a text spells, where an area of so many bytes has room for them
abbrev pub within : ℕ → Option (List ℕ) → Option (List ℕ)
within room None = None
within room (Some s) = cond (leb (length s) room) (Some s) None

-- the bytes at the front of an area, as many as were written
abbrev pub front_of : Option ℕ → List ℕ → Option (List ℕ)
front_of None area = None
front_of (Some n) area = Some (take n area)

-- ---- for private functions alone: the bytes of a text that spells some

abbrev pub bytes_in : Option (List ℕ) → List ℕ
bytes_in None = []
bytes_in (Some s) = s

unfoldable pub hex_bytes : List ℕ → List ℕ
hex_bytes text = bytes_in (bytes_of_hex text)
