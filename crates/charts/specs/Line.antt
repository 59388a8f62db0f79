-- The lines and pages of a chart room sheet, by the rows that they show. "Lay the walk out in lines of exactly 64 columns".
-- Assumes nothing.
use Rattle.std.specs.Prelude.{cond, List, [], ◌∷◌, ◌++◌, ℕ, zero, suc, ◌+◌, ◌-◌, ◌*◌, ◌/◌, eqb, length, replicate}
use Rattle.texts.specs.Ascii.{ascii}
use Rattle.texts.specs.Output.{decimal_text, hex_text}

-- what a line shows: "slot number .. key .. value .. deadline"
pub record Row : Type 0 where
  pub slot : ℕ
  pub key : List ℕ
  pub value : List ℕ
  pub deadline : ℕ

abbrev pub row : ℕ → List ℕ → List ℕ → ℕ → Row
row slot key value deadline = record { slot = slot; key = key; value = value; deadline = deadline }

-- spaces (32)
abbrev pub spaces : ℕ → List ℕ
spaces n = replicate n 32

-- "right-aligned in" so many columns
abbrev pub right : ℕ → List ℕ → List ℕ
right width text = spaces (width - length text) ++ text

-- "left-aligned in" so many columns
abbrev pub left : ℕ → List ℕ → List ℕ
left width text = text ++ spaces (width - length text)

-- "Never is printed `never`"
unfoldable pub deadline_text : ℕ → List ℕ
deadline_text deadline = cond (eqb deadline 65_535) (ascii "never") (decimal_text deadline)

-- four fields, a space after each of the first three, and "each line ends in a line feed" (10)
abbrev pub fields : List ℕ → List ℕ → List ℕ → List ℕ → List ℕ
fields slot key value deadline = slot ++ (32 ∷ (key ++ (32 ∷ (value ++ (32 ∷ (deadline ++ (10 ∷ [])))))))

-- "slot number right-aligned in 8, space, key in hexadecimal with small letters left-aligned in 24, space, value the same in 24, space, deadline
-- right-aligned in 5"
unfoldable pub line : Row → List ℕ
line r = fields (right 8 (decimal_text r.slot)) (left 24 (hex_text r.key)) (left 24 (hex_text r.value)) (right 5 (deadline_text r.deadline))

-- "blank lines of 64 spaces"
unfoldable pub blank : List ℕ
blank = spaces 64 ++ (10 ∷ [])

-- so many lines: those of the rows, and after them blank ones
unfoldable pub lines : ℕ → List Row → List ℕ
lines zero rows = []
lines (suc n) [] = blank ++ lines n []
lines (suc n) (r ∷ rows) = line r ++ lines n rows

-- "Fifty lines make a page, the last one filled with blank lines"; "An empty set makes no page"
abbrev pub pages_for : ℕ → ℕ
pages_for rows = (rows + 49) / 50

unfoldable pub sheet : List Row → List ℕ
sheet rows = lines (50 * pages_for (length rows)) rows
