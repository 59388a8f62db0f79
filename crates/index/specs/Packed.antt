-- The packed index: "One control word a bucket, then 7 bytes a slot: tag div 128 (2 bytes), location + 1 (5 bytes), little-endian. Control
-- byte: (tag mod 128) mod 127 + 1, empty 0, top bit the mark." The references of a bucket, 8 × 7 bytes, are just seven words.
-- Assumes nothing.
use Rattle.std.specs.Prelude.{ℕ, zero, suc, ◌+◌, ◌-◌, ◌*◌, ◌%◌, Bool, false, cond, List, [], ◌∷◌, ◌++◌, map, length, take, drop, ◌==◌, nat_le, slice_index, slice_set, Some, None}
use mathlib.Core.List.{flat_map}
use Rattle.hash_parts.specs.Hash.{control_tag, secondary_tag}
use Rattle.hash_parts.specs.ZeroBytes.{bytes_of, number_of}
use Rattle.index.specs.Walk.{buckets_of}
use Rattle.index.specs.Word.{word_tag, word_stored}
use Rattle.index.specs.Slot.{IndexSlot}

-- ---- bytes of words, lowest first

-- so many words of bytes
unfoldable pub words_of : ℕ → List ℕ → List ℕ
words_of zero l = []
words_of (suc n) l = number_of (take 8 l) ∷ words_of n (drop 8 l)

unfoldable pub word_bytes : List ℕ → List ℕ
word_bytes [] = []
word_bytes (w ∷ l) = bytes_of 8 w ++ word_bytes l

-- ---- packing: the words of one slot each, a bucket at a time

abbrev pub control_byte : ℕ → ℕ
control_byte w = cond (w == 0) 0 (control_tag (word_tag w))

abbrev pub reference_bytes : ℕ → List ℕ
reference_bytes w = cond (w == 0) (bytes_of 7 0) (bytes_of 2 (secondary_tag (word_tag w)) ++ bytes_of 5 (word_stored w))

-- a bucket's control word, and the seven words of its references
unfoldable pub control_word : List ℕ → ℕ
control_word bucket = number_of (map control_byte bucket)

unfoldable pub reference_words : List ℕ → List ℕ
reference_words bucket = words_of 7 (flat_map reference_bytes bucket)

abbrev pub control_words : ℕ → List ℕ → List ℕ
control_words buckets index = map control_word (buckets_of buckets index)

-- the packed index of an index of words
unfoldable pub packed : ℕ → List ℕ → List ℕ
packed buckets index = control_words buckets index ++ (flat_map reference_words (buckets_of buckets index) ++ drop (8 * buckets) index)

-- "Finish uses the first `buckets` scratch words lent, which then hold the control words": where both areas are long enough; else nothing is written
abbrev pub packable : ℕ → List ℕ → List ℕ → Bool
packable buckets index scratch = cond (nat_le (8 * buckets) (length index)) (nat_le buckets (length scratch)) false

unfoldable pub packed_index : ℕ → List ℕ → List ℕ → List ℕ
packed_index buckets index scratch = cond (packable buckets index scratch) (packed buckets index) index

unfoldable pub packed_scratch : ℕ → List ℕ → List ℕ → List ℕ
packed_scratch buckets index scratch = cond (packable buckets index scratch) (control_words buckets index ++ drop buckets scratch) scratch

-- ---- reading

-- the bytes of the reference of slot j of a bucket, out of the word before the slot's own and that: they begin j bytes before the end of the first
unfoldable pub reference_in : ℕ → ℕ → ℕ → List ℕ
reference_in before word j = take 7 (drop (8 - j) (bytes_of 8 before ++ bytes_of 8 word))

-- a slot by its control byte and its seven bytes; control 0 and 0x80 are empty
unfoldable pub packed_slot : ℕ → List ℕ → IndexSlot
packed_slot control bytes = cond (control % 128 == 0) None (Some (control % 128 + 128 * number_of (take 2 bytes), number_of (drop 2 bytes)))

-- the slots of a bucket by its control bytes and its references' bytes
unfoldable pub packed_slots_of : List ℕ → List ℕ → List IndexSlot
packed_slots_of [] bytes = []
packed_slots_of (c ∷ l) bytes = packed_slot c (take 7 bytes) ∷ packed_slots_of l (drop 7 bytes)

-- bucket b of so many
unfoldable pub packed_bucket : ℕ → List ℕ → ℕ → List IndexSlot
packed_bucket buckets index b = packed_slots_of (bytes_of 8 (slice_index index b)) (word_bytes (take 7 (drop (buckets + 7 * b) index)))

-- ---- marks: the top bit of a control byte

-- byte j of a word changed
unfoldable pub with_byte : (ℕ → ℕ) → ℕ → ℕ → ℕ
with_byte f j w = number_of (slice_set (bytes_of 8 w) j (f (slice_index (bytes_of 8 w) j)))

abbrev pub marked_byte : ℕ → ℕ
marked_byte c = c % 128 + 128

abbrev pub unmarked_byte : ℕ → ℕ
unmarked_byte c = c % 128
