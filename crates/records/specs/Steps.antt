-- Stepping from record to record: "The harbour offices' loader steps through a segment without the index." It reads at a position and
-- goes on at the end that was handed over.
-- Assumes nothing.
use mathlib.Core.List.{List, [], ◌∷◌, flat_map}
use Rattle.std.specs.Prelude.{ℕ, zero, suc, Option, Some, None, length}
use Rattle.hash_parts.specs.declared.setting.SegmentExpiry.{SegmentExpiry}
use Rattle.records.specs.Record.{record_bytes, record_at, Stored, held}
use Rattle.records.specs.declared.record.RecordRef.{RecordRef}

-- the records that were visited, in order, and the position at which none was read
pub record Stepped : Type 0 where
  pub visited : List Stored
  pub stop : ℕ

-- one step, by what is read at a position
abbrev pub stepped : List ℕ → ℕ → (ℕ → Stepped) → Option RecordRef → Stepped
stepped s at next (Some r) = record { visited = held s r ∷ (next r.end).visited; stop = (next r.end).stop }
stepped s at next None = record { visited = []; stop = at }

-- at most so many steps from a position on
unfoldable pub steps_from : SegmentExpiry → List ℕ → ℕ → ℕ → Stepped
steps_from e s zero at = record { visited = []; stop = at }
steps_from e s (suc turns) at = stepped s at (steps_from e s turns) (record_at e s at)

-- all steps from 0 on: each goes on by a byte at least, so there are no more than bytes, and one turn in which none is read
abbrev pub steps : SegmentExpiry → List ℕ → Stepped
steps e s = steps_from e s (suc (length s)) 0

-- the bytes of records written one behind the other
abbrev pub all_bytes : SegmentExpiry → List Stored → List ℕ
all_bytes e ts = flat_map (λ t. record_bytes e t.key t.value t.deadline) ts
