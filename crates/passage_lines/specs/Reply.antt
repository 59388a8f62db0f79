-- The lines of the output: "Out: the word and the refusal, or 0 and: buckets slots; slot location; segments
-- record-bytes; value. A get without a hit prints `get none`." and "prints `bad`".
-- Assumes nothing.
use Rattle.std.specs.Prelude.{ℕ, List, [], ◌∷◌, ◌++◌, codes, flat_map}
use Rattle.hash_parts.specs.Error.{error_number}
use Rattle.texts.specs.Output.{decimal_text, hex_text}
use Rattle.passage_lines.specs.declared.reply.Reply.{Reply}
use Rattle.passage_lines.specs.declared.reply.Reply.TheVariants.{Bad, Missing, Refused, Accepted}
use Rattle.passage_lines.specs.declared.reply.Word.{Word}
use Rattle.passage_lines.specs.declared.reply.Word.TheVariants.{Open, Put, Close, Get}

abbrev pub word_text : Word → List ℕ
word_text Open = codes "open"
word_text Put = codes "put"
word_text Close = codes "close"
word_text Get = codes "get"

abbrev pub line_feed : List ℕ
line_feed = codes "\n"

-- "hexadecimal in small letters, `-` for no bytes"
unfoldable pub bytes_text : List ℕ → List ℕ
bytes_text [] = codes "-"
bytes_text (b ∷ s) = hex_text (b ∷ s)

-- a number as a field: a space, and its digits
abbrev pub number_field : ℕ → List ℕ
number_field n = 32 ∷ decimal_text n

-- a word and numbers
abbrev pub line_of : Word → List ℕ → List ℕ
line_of word numbers = word_text word ++ (flat_map number_field numbers ++ line_feed)

-- "the word and the refusal"
abbrev pub refused_text : Word → ℕ → List ℕ
refused_text word number = word_text word ++ (number_field number ++ line_feed)

-- "or 0 and: buckets slots; slot location; segments record-bytes"
abbrev pub accepted_text : Word → ℕ → ℕ → List ℕ
accepted_text word first second = word_text word ++ (number_field 0 ++ (number_field first ++ (number_field second ++ line_feed)))

-- the line of a reply, with its line feed
unfoldable pub reply_text : Reply → List ℕ
reply_text Bad = codes "bad\n"
reply_text Missing = codes "get none\n"
reply_text (Refused word error) = refused_text word (error_number error)
reply_text (Accepted word first second) = accepted_text word first second

-- the line of a value that was found
unfoldable pub value_text : List ℕ → List ℕ
value_text value = codes "get 0 " ++ (bytes_text value ++ line_feed)
