-- The calls that a list is made of: those of builders, sets and rebuilds, peek, and the writing and loading of a file; and what a lookup or a peek answers.
-- Assumes nothing.
use Rattle.std.specs.Prelude.{List, [], ◌∷◌, ℕ, None, Option, Some, slice_get}
use Rattle.hash_parts.specs.declared.setting.SegmentCacheConfig.{SegmentCacheConfig}
use Rattle.hash_parts.specs.declared.duration.Duration.{Duration}

-- A call by its arguments, and the areas that are lent afresh with it, of any content; sets are numbered from 0, the oldest first. `Area` is what is known of
-- an area: its content in the world, nothing in the book, whose calls have the type of one element there. `File` is what is known of the file that a load is
-- handed: in the world which one it is of those written, the first is 0; in the book also its bytes.
pub data Call (Area File : Type 0) : Type 0 where
  -- a builder is opened: setting, records, and the arena of a new line of sets; then index, filter, starts, lengths
  opening : SegmentCacheConfig → ℕ → Area → Area → Area → Area → Area → Call Area File
  -- key, value, hash, lifetime
  push : List ℕ → List ℕ → ℕ → Option Duration → Call Area File
  -- target, scratch
  finish : ℕ → Area → Call Area File
  -- set, key, hash, tick
  lookup : ℕ → List ℕ → ℕ → ℕ → Call Area File
  -- a lookup that sets no mark: set, key, hash, tick
  peek : ℕ → List ℕ → ℕ → ℕ → Call Area File
  -- the access mark is cleared: set, key, hash
  clear : ℕ → List ℕ → ℕ → Call Area File
  -- a record and its remaining time, lapsed or not: set, key, hash, tick
  probe : ℕ → List ℕ → ℕ → ℕ → Call Area File
  -- a step of the walk: set, the slot that it begins at, tick
  walk : ℕ → ℕ → ℕ → Call Area File
  -- the statistics of a set
  stats : ℕ → Call Area File
  -- a rebuild of the newest set is opened: records, copied record capacity, keep flags, tick; then index, filter, starts, lengths
  reopen : ℕ → ℕ → List ℕ → ℕ → Area → Area → Area → Area → Call Area File
  -- a record of a kept segment: key, value, hash, location, header bytes
  reuse : List ℕ → List ℕ → ℕ → ℕ → ℕ → Call Area File
  -- a copied record: key, value, hash, lifetime
  copy : List ℕ → List ℕ → ℕ → Option Duration → Call Area File
  -- the rebuild is finished: scratch
  refinish : Area → Call Area File
  -- a set is written as a file: set, the area for the file
  write : ℕ → Area → Call Area File
  -- a file that was written is loaded: which, and the arena of a new line of sets; then index, filter, starts, lengths
  load : File → Area → Area → Area → Area → Area → Call Area File

-- the bytes of a file; none where there is no such file
abbrev pub bytes_in : Option (List ℕ) → List ℕ
bytes_in None = []
bytes_in (Some file) = file

-- a call without its areas, a load with the bytes of its file
abbrev pub bare : List (List ℕ) → Call (List ℕ) ℕ → Call (Unit {0}) (ℕ × List ℕ)
bare files (opening config records arena index filter starts lengths) = opening config records tt tt tt tt tt
bare files (push key value hash lifetime) = push key value hash lifetime
bare files (finish target scratch) = finish target tt
bare files (lookup set key hash tick) = lookup set key hash tick
bare files (peek set key hash tick) = peek set key hash tick
bare files (clear set key hash) = clear set key hash
bare files (probe set key hash tick) = probe set key hash tick
bare files (walk set slot tick) = walk set slot tick
bare files (stats set) = stats set
bare files (reopen records copied flags tick index filter starts lengths) = reopen records copied flags tick tt tt tt tt
bare files (reuse key value hash location header) = reuse key value hash location header
bare files (copy key value hash lifetime) = copy key value hash lifetime
bare files (refinish scratch) = refinish tt
bare files (write set file) = write set tt
bare files (load i arena index filter starts lengths) = load (i, bytes_in (slice_get files i)) tt tt tt tt tt

-- what a lookup or a peek answers: "the value's bytes or nothing"; or it is refused, or there is no such set
pub data Answer : Type 0 where
  value : List ℕ → Answer
  nothing : Answer
  denied : Answer
  absent : Answer

-- the newest of some sets, the last
abbrev pub newest : {A : Type 0} → List A → Option A
newest [] = None
newest (a ∷ []) = Some a
newest (a ∷ b ∷ l) = newest (b ∷ l)
