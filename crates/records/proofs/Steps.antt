-- Laws of a record's end, and of stepping by ends: over records written one behind the other it visits each once and stops at the length; over any bytes it
-- goes on and stops where no record is read. Assumes nothing.
use mathlib.Core.Path.{◌≡◌, refl, sym, ap, ap₂, ◌∙◌}
use mathlib.Core.List.{List, [], ◌∷◌, ◌++◌, flat_map, Memᴰ, append_assoc}
use Prim.Native.Nat.{ℕ, zero, suc, ◌+◌, ◌^◌, ◌≤◌, ◌<◌}
use native.Mathlib.Omega.{arith}
use lib.ListN.{length, length-append}
use Rattle.hash_parts.specs.declared.setting.SegmentExpiry.{SegmentExpiry}
use Rattle.records.specs.Record.{record_bytes, record_size, record_at, Stored, held}
use Rattle.records.specs.Steps.{stepped, steps_from, steps, all_bytes}
use Rattle.std.specs.Prelude.{Option, Some, None}
use Rattle.records.specs.declared.record.RecordRef.{RecordRef}
use Rattle.records.proofs.Parts.{size_is}
use Rattle.records.proofs.Prefix.{read_inside}
use Rattle.records.proofs.Stored.{deadline_kept, ref_back, record_back, end_back, held_back, read_by, record_inside}
use Rattle.records.proofs.Uleb128.{leb_pos}

-- ---- where a record ends

-- the end of what was written is the byte behind it
pub end_written : (e : SegmentExpiry) (p key value rest : List ℕ) (d : ℕ) → length key < 2 ^ 64 → length value < 2 ^ 64
    → (r : RecordRef) → record_at e (p ++ (record_bytes e key value d ++ rest)) (length p) ≡ Some r → r.end ≡ length p + length (record_bytes e key value d)
end_written e p key value rest d k v r f =
    let same : ref_back e p key value rest d k v ≡ r = cc (f, record_back e p key value rest d k v) in
    ap (λ (x : RecordRef). x.end) (sym same) ∙ end_back e p key value rest d k v

-- a record that is read ends behind the position, and inside
pub record_end : (e : SegmentExpiry) (s : List ℕ) (at : ℕ) (r : RecordRef) → record_at e s at ≡ Some r → (at < r.end) × (r.end ≤ length s)
record_end e s at r f =
    let b = read_by e s at r f in
    let k = read_inside s at b.key b.p b.key_read in
    let v = read_inside s b.p b.value b.q b.value_read in
    rw (sym b.is) (omega arith, b.inside)

-- nothing is read at the length, or behind it
read_past : (e : SegmentExpiry) (s : List ℕ) (at : ℕ) → length s ≤ at → record_at e s at ≡ None
read_past e s at h = go (record_at e s at) refl
  where
    go : (a : Option RecordRef) → record_at e s at ≡ a → a ≡ None
    go (Some r) f = absurd (omega (arith, (record_inside e s at r f).0))
    go None f = refl

-- ---- over any bytes

module _ (e : SegmentExpiry) (s : List ℕ) where
  stops_from : (turns at : ℕ) → length s < at + turns → record_at e s (steps_from e s turns at).stop ≡ None
  unfolding steps_from
  stops_from zero at h = read_past e s at (omega arith)
  stops_from (suc turns) at h = go (record_at e s at) refl (stops_from turns)
    where
      go : (a : Option RecordRef) → record_at e s at ≡ a → ((next : ℕ) → length s < next + turns → record_at e s (steps_from e s turns next).stop ≡ None)
          → record_at e s (stepped s at (steps_from e s turns) a).stop ≡ None
      go (Some r) f on = on r.end (omega (arith, (record_end e s at r f).0))
      go None f on = f

  -- stepping stops only where no record is read
  pub steps_stop : record_at e s (steps e s).stop ≡ None
  steps_stop = stops_from (suc (length s)) 0 (omega arith)

-- ---- over records written one behind the other

-- a record whose lengths fit their prefixes, with a deadline that its set keeps
pub record Writable (e : SegmentExpiry) (t : Stored) : Type 0 where
  pub key_fits : length t.key < 2 ^ 64
  pub value_fits : length t.value < 2 ^ 64
  pub kept_deadline : deadline_kept e t.deadline ≡ t.deadline

module _ (e : SegmentExpiry) where
  abbrev bytes_of : Stored → List ℕ
  bytes_of t = record_bytes e t.key t.value t.deadline

  -- no more records than bytes
  few : (ts : List Stored) → length ts ≤ length (all_bytes e ts)
  unfolding flat_map record_size
  few [] = omega arith
  few (t ∷ ts) = rw (length-append (bytes_of t) (all_bytes e ts)) (omega (arith, few ts, some_byte))
    where
      some_byte : 1 ≤ length (bytes_of t)
      some_byte = omega (arith, size_is e t.key t.value t.deadline, leb_pos (length t.key))

  written_from : (p : List ℕ) (ts : List Stored) → ((t : Stored) → Memᴰ t ts → Writable e t) → (turns : ℕ) → length ts < turns
      → steps_from e (p ++ all_bytes e ts) turns (length p) ≡ record { visited = ts; stop = length p + length (all_bytes e ts) }
  unfolding steps_from flat_map
  written_from p ts fits zero h = absurd (omega arith)
  written_from p [] fits (suc turns) h =
      rw (read_past e (p ++ []) (length p) (omega (arith, length-append p []))) (ap (λ (n : ℕ). record { visited = []; stop = n }) (omega arith))
  written_from p (t ∷ ts) fits (suc turns) h =
      let w = fits t (Memᴰ.head refl) in
      let rest : List ℕ = all_bytes e ts in
      let front : List ℕ = p ++ bytes_of t in
      let flat : p ++ (bytes_of t ++ rest) ≡ front ++ rest = sym (append_assoc p (bytes_of t) rest) in
      let on = end_back e p t.key t.value rest t.deadline w.key_fits w.value_fits ∙ sym (length-append p (bytes_of t)) in
      let behind = ap₂ (λ (s : List ℕ) (at : ℕ). steps_from e s turns at) flat on ∙ written_from front ts (λ u m. fits u (Memᴰ.tail m)) turns (omega arith) in
      let whole : held (p ++ (bytes_of t ++ rest)) (ref_back e p t.key t.value rest t.deadline w.key_fits w.value_fits) ≡ t =
      held_back e p t.key t.value rest t.deadline w.key_fits w.value_fits ∙ rw w.kept_deadline in
      rw (record_back e p t.key t.value rest t.deadline w.key_fits w.value_fits, behind)
      (ap₂ (λ (u : Stored) (n : ℕ). record { visited = u ∷ ts; stop = n }) whole (omega (arith, length-append p (bytes_of t), length-append (bytes_of t) rest)))

  -- each is visited once, and the last step stops at the length
  pub steps_written : (ts : List Stored) → ((t : Stored) → Memᴰ t ts → Writable e t)
      → steps e (all_bytes e ts) ≡ record { visited = ts; stop = length (all_bytes e ts) }
  steps_written ts fits =
      written_from [] ts fits (suc (length (all_bytes e ts))) (omega (arith, few ts)) ∙ ap (λ (n : ℕ). record { visited = ts; stop = n }) (omega arith)
