-- The index of a build. "Buckets: records divided by occupancy, rounded up, at least 1. Open and rebuild open set to 0 the index
-- and filter words that their counts need; words past them are never written. .. A push takes the first empty slot, walking on from the first
-- bucket and around."
-- Assumes nothing.
use Rattle.std.specs.Prelude.{◌≡◌, ℕ, zero, suc, ◌+◌, ◌*◌, ◌^◌, ◌<◌, max, Bool, false, cond, List, [], ◌∷◌, length, take, drop, replicate, ◌==◌, nat_le, Option, Some, None, Result, Ok, Err}
use Rattle.hash_parts.specs.Duration.{ceil_div}
use Rattle.hash_parts.specs.Hash.{tag_of}
use Rattle.hash_parts.specs.Outcome.{Outcome, outcome_of}
use Rattle.hash_parts.specs.declared.error.SegmentCacheBuildError.{SegmentCacheBuildError}
use Rattle.hash_parts.specs.declared.error.SegmentCacheBuildError.TheVariants.{CapacityOverflow, DuplicateKey}
use Rattle.hash_parts.specs.declared.setting.SegmentExpiry.{SegmentExpiry}
use Rattle.records.specs.Area.{over, same_bytes}
use Rattle.records.specs.Record.{Stored, stored_at}
use Rattle.index.specs.Walk.{bucket_walk}
use Rattle.index.specs.Word.{word_tag, word_stored}

-- buckets for so many records at this occupancy; one for occupancy 0, which opening refuses
unfoldable pub buckets_for : ℕ → ℕ → ℕ
buckets_for records occupied = cond (occupied == 0) 1 (max 1 (ceil_div records occupied))

-- an area with its first words set to 0; a shorter one as it is
unfoldable pub cleared : List ℕ → ℕ → List ℕ
cleared area count = cond (nat_le count (length area)) (over (replicate count 0) area) area

-- ---- what a slot says to a push

pub data PushLook : Type 0 where
  vacant : ℕ → PushLook
  same : PushLook
  passed : PushLook

-- the record under a stored location of a build, whose locations count from the arena's start
unfoldable pub build_record : SegmentExpiry → List ℕ → ℕ → Option Stored
build_record e bytes zero = None
build_record e bytes (suc location) = stored_at e bytes location

-- whether a stored record has the key; one that can't be read has none
abbrev pub has_key : List ℕ → Option Stored → Bool
has_key key None = false
has_key key (Some r) = same_bytes r.key key

-- whether a word has the tag and names a record with the key
unfoldable pub holds_key : (ℕ → Option Stored) → List ℕ → ℕ → ℕ → Bool
holds_key read key tag w = cond (word_tag w == tag) (has_key key (read (word_stored w))) false

-- slot i, whose word is w; `taken` says whether a word holds the key
abbrev pub push_look : (ℕ → Bool) → ℕ → ℕ → PushLook
push_look taken i w = cond (w == 0) (vacant i) (cond (taken w) same passed)

-- the slots from i on
unfoldable pub looks : (ℕ → Bool) → ℕ → List ℕ → List PushLook
looks taken i [] = []
looks taken i (w ∷ l) = push_look taken i w ∷ looks taken (suc i) l

-- the answer of a search: a slot, that the key stands in the index, or that no slot is empty
abbrev pub SlotAnswer : Type 0
SlotAnswer = Result ℕ SegmentCacheBuildError

-- what the first slot of a bucket says that is not passed over; where all are, the answer of the buckets after it
unfoldable pub searched : List PushLook → SlotAnswer → SlotAnswer
searched [] after = after
searched (vacant i ∷ l) after = Ok i
searched (same ∷ l) after = Err DuplicateKey
searched (passed ∷ l) after = searched l after

-- the same of the buckets of a walk
unfoldable pub searched_all : (ℕ → List PushLook) → List ℕ → SlotAnswer
searched_all looks [] = Err CapacityOverflow
searched_all looks (b ∷ bs) = searched (looks b) (searched_all looks bs)

-- the first empty slot of a hash's walk, or a word before it that is taken by the key; an area with fewer words has no slot
unfoldable pub slot_for : (ℕ → Bool) → List ℕ → ℕ → ℕ → SlotAnswer
slot_for taken index buckets h =
    cond (nat_le (8 * buckets) (length index)) (searched_all (λ b. looks taken (8 * b) (take 8 (drop (8 * b) index))) (bucket_walk h buckets)) (Err CapacityOverflow)

-- the slot of a push, by its number: "Key new among the words of its tag on its walk? 4."; "A push that walks all buckets without an empty
-- slot would also give 3, at that walk's end after 4"; `bytes` are the filled bytes
abbrev pub build_slot : List ℕ → ℕ → List ℕ → SegmentExpiry → List ℕ → ℕ → Outcome
build_slot index buckets bytes e key h = outcome_of (slot_for (holds_key (build_record e bytes) key (tag_of h)) index buckets h)

-- no word holds the key
abbrev pub never : ℕ → Bool
never w = false

-- the slot of a push that takes a key again
abbrev pub empty_slot : List ℕ → ℕ → ℕ → Outcome
empty_slot index buckets h = outcome_of (slot_for never index buckets h)

-- what a test answers of each word, by what its calls return
abbrev pub Answers : (ℕ → Bool → Type 0) → (ℕ → Bool) → Type 0
Answers returns taken = (w : ℕ) (r : Bool) → w < 2 ^ 64 → returns w r → r ≡ taken w

-- the bucket after a bucket, around
unfoldable pub next_bucket : ℕ → ℕ → ℕ
next_bucket bucket buckets = cond (nat_le buckets (bucket + 1)) 0 (bucket + 1)
