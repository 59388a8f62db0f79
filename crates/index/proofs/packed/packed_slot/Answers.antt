-- `packed_slot` meets its contract: the tag and the location are the parts of the control byte and of the reference's number. Assumes nothing.
use Rattle.std.proofs.Common.{ℕ, ◌%◌, get_or, sym, ◌∙◌, arith}
use Rattle.hash_parts.specs.ZeroBytes.{bytes_of}
use Rattle.index.specs.Packed.{reference_in}
use Rattle.index.proofs.Packing.{slot_empty, slot_used}
use Rattle.index.proofs.Bytes.{byte_low, bytes_in_law}
use Rattle.index.proofs.packed.packed_slot.Goals as goal

pub returns-then-tag-eq0 : goal.returns-then-tag-eq0
returns-then-tag-eq0 c =
    let a = c.args in
    let j : ℕ = a.slot % 8 in
    slot_empty (get_or (bytes_of 8 a.control) j 0) (reference_in a.before a.word j) (sym (byte_low a.control j (omega arith)) ∙ c.if-tag-eq0.true)

pub returns : goal.returns
returns c =
    let a = c.args in
    let j : ℕ = a.slot % 8 in
    slot_used (get_or (bytes_of 8 a.control) j 0) (bytes_in_law a.before a.word j) (byte_low a.control j (omega arith)) c.if-tag-eq0.false c.packed_reference_at-reference.ensures.0
