-- `append_record` meets its contract: the size that it asks for is the number of the record's bytes. Assumes nothing.
use mathlib.Core.Path.{◌≡◌, refl, sym, ap, ◌∙◌}
use mathlib.Core.List.{List}
use Prim.Native.Nat.{ℕ, ◌^◌, ◌≤◌}
use native.Mathlib.Omega.{arith}
use lib.ListN.{length}
use Rattle.records.specs.Record.{record_bytes, record_size}
use Rattle.hash_parts.specs.Outcome.{outcome_of}
use Rattle.records.proofs.Area.{written_in_law, written_out}
use Rattle.records.proofs.Parts.{size_is, size_accepted, size_refused}
use Rattle.records.proofs.record.append_record.Goals as goal
use Rattle.records.proofs.record.append_record.Goals.{In-Ok, Start}

-- the record's bytes
abbrev bytes : Start → List ℕ
bytes s = record_bytes s.args.expiry s.args.key.now s.args.value.now s.args.expires_at

bytes_size : (s : Start) → length (bytes s) ≡ record_size s.args.expiry (length s.args.key.now) (length s.args.value.now)
bytes_size s = size_is s.args.expiry s.args.key.now s.args.value.now s.args.expires_at

-- the start, from where the size is known
abbrev from : In-Ok → Start
from c = c.before.before.before.before.before.before

sized : (c : In-Ok) → c.in-Ok.size ≡ length (bytes (from c))
sized c =
    let a = c.args in
    size_accepted a.expiry (length a.key.now) (length a.value.now) c.in-Ok.size
    (sym (ap outcome_of c.in-Ok.is) ∙ c.encoded_record_bytes.ensures)
    ∙ sym (bytes_size (from c))

pub returns-in_default : goal.returns-in_default
returns-in_default c =
    let at = goal.at.returns-in_default c in
    let a = c.args in
    let big : 2 ^ 64 ≤ record_size a.expiry (length a.key.now) (length a.value.now) =
    size_refused a.expiry (length a.key.now) (length a.value.now) c.in_default.field-0
    (sym (ap outcome_of c.in_default.is) ∙ c.encoded_record_bytes.ensures) in
    rw (written_out (bytes at.Start) a.rest.now (omega (arith, bytes_size at.Start))) (refl, refl)

pub returns-then-rest-size : goal.returns-then-rest-size
returns-then-rest-size c =
    let at = goal.at.returns-then-rest-size c in
    rw (written_out (bytes at.Start) c.args.rest.now (omega (arith, sized at.In-Ok))) (refl, refl)

pub put_record-requires : goal.put_record-requires
put_record-requires c = omega (arith, sized (goal.at.put_record-requires c).In-Ok)

pub returns : goal.returns
returns c =
    let at = goal.at.returns c in
    let p = c.put_record in
    rw (written_in_law (bytes at.Start) c.args.rest.now (omega (arith, sized at.In-Ok))) (sized at.In-Ok, p.ensures)
