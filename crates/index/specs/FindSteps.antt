-- What finding a record comes to in one slot, and which slots of a bucket are looked at. Only private functions cite it: of a find one must believe
-- `find_in` alone.
-- Assumes nothing.
use Rattle.std.specs.Prelude.{ℕ, zero, suc, ◌*◌, ◌%◌, Bool, true, false, cond, List, [], ◌∷◌, map, take, drop, ◌==◌, slice_index, Some, None}
use Rattle.hash_parts.specs.Hash.{control_tag}
use Rattle.hash_parts.specs.ZeroBytes.{bytes_of}
use Rattle.index.specs.Find.{Look, empty, other, broken, match}
use Rattle.index.specs.Slot.{IndexSlot, word_slot}
use Rattle.index.specs.declared.find.FindStep.{FindStep}
use Rattle.index.specs.declared.find.FindStep.TheVariants.{Hit, Stop, Next}

-- ---- one slot: a hit, the end of the walk with nothing, or on to the next

abbrev pub step_of : Look → FindStep
step_of empty = Stop
step_of other = Next
step_of broken = Stop
step_of (match r) = Hit r

-- ---- which slots of a bucket are looked at; the others say nothing of the key

-- a control byte has the tag t
abbrev pub has_tag : ℕ → ℕ → Bool
has_tag t c = c % 128 == t

-- packed: the slots whose control byte has the tag
abbrev pub tagged : ℕ → ℕ → List Bool
tagged t control = map (has_tag t) (bytes_of 8 control)

-- words: how many slots come before the first that is empty or has the tag
unfoldable pub passed_over : ℕ → List IndexSlot → ℕ
passed_over tag [] = 0
passed_over tag (None ∷ l) = 0
passed_over tag (Some (t, stored) ∷ l) = cond (t == tag) 0 (suc (passed_over tag l))

-- of n slots, those from the s-th on
unfoldable pub from_on : ℕ → ℕ → List Bool
from_on s zero = []
from_on zero (suc n) = true ∷ from_on zero n
from_on (suc s) (suc n) = false ∷ from_on s n

abbrev pub candidates : Bool → ℕ → List ℕ → ℕ → List Bool
candidates packed tag index b =
    cond packed (tagged (control_tag tag) (slice_index index b)) (from_on (passed_over tag (map word_slot (take 8 (drop (8 * b) index)))) 8)
