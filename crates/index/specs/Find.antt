-- Finding a record. "A lookup asks after its second bucket, if neither a hit nor an empty slot came"; "Matching
-- bytes are visited from the lowest set bit up"; "An index word of the right tag whose record can't be read, stored location 0 included,
-- ends a lookup with nothing".
-- Assumes nothing.
use Rattle.std.specs.Prelude.{ℕ, suc, ◌*◌, ◌/◌, ◌%◌, Bool, true, false, cond, not, List, [], ◌∷◌, map, length, take, drop, ◌==◌, nat_le, nat_lt, slice_index_or, Option, Some, None}
use Rattle.hash_parts.specs.Hash.{tag_of}
use Rattle.records.specs.Area.{spanned, same_bytes}
use Rattle.records.specs.declared.record.RecordRef.{RecordRef}
use Rattle.index.specs.Filter.{filter_has}
use Rattle.index.specs.Packed.{packed_bucket}
use Rattle.index.specs.Slot.{IndexSlot, word_slot, kept_tag}
use Rattle.index.specs.View.{record_in}
use Rattle.index.specs.Walk.{bucket_walk}
use Rattle.index.specs.declared.find.FindStep.{FindStep}
use Rattle.index.specs.declared.find.FindStep.TheVariants.{Hit, Stop, Next}
use Rattle.index.specs.declared.find.FoundRecord.{FoundRecord}
use Rattle.index.specs.declared.view.SegmentView.{SegmentView}

-- ---- one slot

-- what a slot says of the key asked for: empty; another tag, or a record of another key; the tag and no readable record; a record of the key
pub data Look : Type 0 where
  empty : Look
  other : Look
  broken : Look
  match : FoundRecord → Look

-- slot i, where reading gave this
abbrev pub seen : List ℕ → List ℕ → ℕ → Option RecordRef → Look
seen arena key i (Some r) = cond (same_bytes (spanned arena r.key) key) (match (record { slot = i; entry = r })) other
seen arena key i None = broken

-- slot i; `read` reads under a stored location, and `tag` is what the layout keeps of the hash's tag
abbrev pub look : (ℕ → Option RecordRef) → List ℕ → List ℕ → ℕ → ℕ → IndexSlot → Look
look read arena key tag i None = empty
look read arena key tag i (Some (t, stored)) = cond (t == tag) (seen arena key i (read stored)) other

-- the slots from i on
unfoldable pub looks_from : (ℕ → Option RecordRef) → List ℕ → List ℕ → ℕ → ℕ → List IndexSlot → List Look
looks_from read arena key tag i [] = []
looks_from read arena key tag i (s ∷ l) = look read arena key tag i s ∷ looks_from read arena key tag (suc i) l

-- ---- one bucket: a hit, the end of the walk with nothing, or on to the next

-- words: slot after slot; an empty one ends the walk at once
unfoldable pub scan : List Look → FindStep
scan [] = Next
scan (empty ∷ l) = Stop
scan (other ∷ l) = scan l
scan (broken ∷ l) = Stop
scan (match r ∷ l) = Hit r

-- packed: the slots of the tag first, behind an empty one too
unfoldable pub sweep : List Look → FindStep
sweep [] = Next
sweep (empty ∷ l) = sweep l
sweep (other ∷ l) = sweep l
sweep (broken ∷ l) = Stop
sweep (match r ∷ l) = Hit r

unfoldable pub has_empty : List Look → Bool
has_empty [] = false
has_empty (empty ∷ l) = true
has_empty (other ∷ l) = has_empty l
has_empty (broken ∷ l) = has_empty l
has_empty (match r ∷ l) = has_empty l

-- then an empty slot ends the walk
abbrev pub ended : Bool → FindStep → FindStep
ended gap (Hit r) = Hit r
ended gap Stop = Stop
ended gap Next = cond gap Stop Next

abbrev pub swept_out : List Look → FindStep
swept_out l = ended (has_empty l) (sweep l)

-- a bucket in either layout
abbrev pub in_bucket : Bool → List Look → FindStep
in_bucket packed l = cond packed (swept_out l) (scan l)

-- ---- the walk

abbrev pub followed : FindStep → Option FoundRecord → Option FoundRecord
followed (Hit r) after = Some r
followed Stop after = None
followed Next after = after

-- whether the filter's answer ends a walk after its i-th bucket, counted from 0
abbrev pub ends_at : ℕ → Bool → Bool
ends_at i may = cond (i == 1) (not may) false

-- the buckets of a walk, from its i-th on; `looks` are a bucket's slots, and `may` is the filter's answer, asked after the second bucket
unfoldable pub found : Bool → Bool → (ℕ → List Look) → ℕ → List ℕ → Option FoundRecord
found packed may looks i [] = None
found packed may looks i (b ∷ bs) =
    followed (in_bucket packed (looks b)) (cond (ends_at i may) None (found packed may looks (suc i) bs))

-- the slots of bucket b of a finished index
abbrev pub slots_of : Bool → ℕ → List ℕ → ℕ → List IndexSlot
slots_of packed buckets index b = cond packed (packed_bucket buckets index b) (map word_slot (take 8 (drop (8 * b) index)))

-- slot s of a finished index; empty past its buckets, and in an area with fewer words than they need
unfoldable pub slot_at : Bool → ℕ → List ℕ → ℕ → IndexSlot
slot_at packed buckets index s =
    cond (nat_le (8 * buckets) (length index)) (cond (nat_lt s (8 * buckets)) (slice_index_or (slots_of packed buckets index (s / 8)) (s % 8) None) None) None

-- the first record of the key on the walk of its hash; an area with fewer words than the buckets need holds none
unfoldable pub find_in : SegmentView → Bool → List ℕ → ℕ → List ℕ → ℕ → List ℕ → List ℕ → List ℕ → List ℕ → ℕ → Option FoundRecord
find_in view packed index buckets filter words starts lengths arena key h =
    cond (nat_le (8 * buckets) (length index))
    (found packed (filter_has filter words h)
    (λ b. looks_from (record_in view arena starts lengths) arena key (kept_tag packed (tag_of h)) (8 * b) (slots_of packed buckets index b))
    0 (bucket_walk h buckets))
    None
