-- A line as fields, one space between two of them.
-- Assumes nothing.
use Rattle.std.specs.Prelude.{ℕ, ◌+◌, ◌-◌, ◌^◌, Bool, cond, Option, Some, None, List, [], ◌∷◌, ◌++◌, eqb, leb, length, drop}
use Rattle.hash_parts.specs.declared.duration.Duration.{Duration}
use Rattle.hash_parts.specs.declared.setting.SegmentExpiry.{SegmentExpiry}
use Rattle.records.specs.declared.record.Span.{Span}
use Rattle.passage_lines.specs.Hex.{hex_length}
use Rattle.passage_lines.specs.Text.{number_in, layout_of, tick_length_of, lifetime_of}
use Rattle.passage_lines.specs.declared.fields as declared
use Rattle.passage_lines.specs.declared.fields.Fields.{Fields}

-- a field's place in the line, and its characters
pub record Field : Type 0 where
  pub at : ℕ
  pub text : List ℕ

abbrev pub field : ℕ → List ℕ → Field
field at text = record { at = at; text = text }

-- the fields of what is left of a line, where `seen` are the characters of the field that begins at a place so far; a space (32) ends a field
unfoldable pub split : ℕ → List ℕ → List ℕ → List Field
split at seen [] = field at seen ∷ []
split at seen (c ∷ s) =
    let ended : List Field = field at seen ∷ split (at + length seen + 1) [] s in
    let longer : List Field = split at (seen ++ (c ∷ [])) s in
    cond (eqb c 32) ended longer

-- the fields of a line
unfoldable pub fields_of : List ℕ → List Field
fields_of line = split 0 [] line

-- ---- the kinds of a field

abbrev pub number : ℕ → ℕ → Field → Option ℕ
number base max f = number_in base max f.text

-- a decimal number of so many bits, and a hash of 64
abbrev pub decimal : ℕ → Field → Option ℕ
decimal bits = number 10 (2 ^ bits - 1)

abbrev pub hash : Field → Option ℕ
hash = number 16 (2 ^ 64 - 1)

abbrev pub span_of : ℕ → Option ℕ → Option Span
span_of at None = None
span_of at (Some n) = Some (record { at = at; len = n })

-- a key or a value, as the part of the line that spells it
abbrev pub bytes : Field → Option Span
bytes f = span_of f.at (hex_length f.text)

abbrev pub layout : Field → Option Bool
layout f = layout_of f.text

abbrev pub tick_length : Field → Option SegmentExpiry
tick_length f = tick_length_of f.text

abbrev pub lifetime : Field → Option (Option Duration)
lifetime f = lifetime_of f.text

-- ---- for private functions alone: the same from a position on, as a line is read

-- the fields from a position on, none past the line's end
unfoldable pub fields_at : List ℕ → ℕ → List Field
fields_at line at = cond (leb at (length line)) (split at [] (drop at line)) []

-- what a reader has as a field, and the fields that it has left
abbrev pub read : declared.Field.Field → Field
read f = field f.at f.text.now

abbrev pub fields_left : Fields → List Field
fields_left f = fields_at f.line.now f.at
