-- A slot of a finished index, as either layout shows it.
-- Assumes nothing.
use Rattle.std.specs.Prelude.{ℕ, ◌+◌, ◌*◌, Bool, cond, ◌==◌, Option, Some, None}
use Rattle.hash_parts.specs.Hash.{control_tag, secondary_tag}
use Rattle.index.specs.Word.{word_tag, word_stored}

-- what the layout keeps of a tag, and a stored location; an empty slot has neither
abbrev pub IndexSlot : Type 0
IndexSlot = Option (ℕ × ℕ)

-- a slot of the word layout: an empty word, or the whole tag and the stored location
unfoldable pub word_slot : ℕ → IndexSlot
word_slot w = cond (w == 0) None (Some (word_tag w, word_stored w))

-- what the packed layout keeps of a tag, as one number: the control byte's seven bits, and the rest
abbrev pub packed_tag : ℕ → ℕ
packed_tag tag = control_tag tag + 128 * secondary_tag tag

-- what a layout keeps of a tag
abbrev pub kept_tag : Bool → ℕ → ℕ
kept_tag packed tag = cond packed (packed_tag tag) tag
