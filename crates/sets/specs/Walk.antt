-- The walk as one list: what its steps visit, slots ascending. What is told of a whole set goes by it. Assumes nothing.
use Rattle.std.specs.Prelude.{ℕ, zero, suc, ◌*◌, Bool, List, [], ◌∷◌, Option, Some, None}
use Rattle.records.specs.declared.record.RecordRef.{RecordRef}
use Rattle.index.specs.View.{record_in}
use Rattle.index.specs.declared.find.FoundRecord.{FoundRecord}
use Rattle.sets.specs.Lookup.{entry_at, view_of}
use Rattle.sets.specs.declared.cache.FrozenSegmentCache.{FrozenSegmentCache}

-- a slot whose record can't be read is skipped, as in the walk
abbrev pub entry_then : ℕ → Option RecordRef → List FoundRecord → List FoundRecord
entry_then slot (Some r) rest = record { slot = slot; entry = r } ∷ rest
entry_then slot None rest = rest

-- of so many slots from one on
unfoldable pub entries_from : (ℕ → Option RecordRef) → ℕ → ℕ → List FoundRecord
entries_from at slot zero = []
entries_from at slot (suc n) = entry_then slot (at slot) (entries_from at (suc slot) n)

-- the entries of an index, by what reads a location
unfoldable pub entries_in : (ℕ → Option RecordRef) → Bool → ℕ → List ℕ → List FoundRecord
entries_in read packed buckets index = entries_from (entry_at read packed buckets index) 0 (8 * buckets)

-- the entries of a set: the records that its walk visits
abbrev pub entries_of : FrozenSegmentCache → List ℕ → List ℕ → List ℕ → List ℕ → List FoundRecord
entries_of s index starts lengths arena =
    entries_in (record_in (view_of s) arena starts lengths) s.config.packed_bucket_index s.buckets index
