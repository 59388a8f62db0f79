-- What a whole index and its stored locations show. Laws speak of it, and no contract does. Assumes nothing.
use Rattle.std.proofs.Common.{ℕ, zero, suc, ◌*◌, List, [], ◌∷◌, map, take}
use Rattle.std.specs.Prelude.{Some, None, Option}
use Rattle.records.specs.Record.{Stored, contents}
use Rattle.index.specs.Packed.{packed_bucket}
use Rattle.index.specs.Slot.{word_slot, packed_tag, IndexSlot}
use Rattle.index.specs.View.{record_in}
use Rattle.index.specs.declared.view.SegmentView.{SegmentView}

-- a slot of the word layout as the packed layout keeps it
abbrev pub repacked : IndexSlot → IndexSlot
repacked None = None
repacked (Some (tag, stored)) = Some (packed_tag tag, stored)

-- the slots of so many buckets of words
abbrev pub word_slots : ℕ → List ℕ → List IndexSlot
word_slots buckets index = map word_slot (take (8 * buckets) index)

-- the packed buckets from b on, so many
unfoldable pub packed_buckets : ℕ → List ℕ → ℕ → ℕ → List (List IndexSlot)
packed_buckets buckets index b zero = []
packed_buckets buckets index b (suc n) = packed_bucket buckets index b ∷ packed_buckets buckets index (suc b) n

-- key, value and deadline of the record under a stored location of a finished set
unfoldable pub stored_in : SegmentView → List ℕ → List ℕ → List ℕ → ℕ → Option Stored
stored_in view arena starts lengths stored = contents arena (record_in view arena starts lengths stored)
