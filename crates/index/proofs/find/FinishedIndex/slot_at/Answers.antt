-- `slot_at` meets its contract. Assumes nothing.
use Rattle.std.proofs.Common.{sym, arith}
use Rattle.index.proofs.SlotReads.{slot_short, slot_past, slot_in}
use Rattle.index.proofs.find.FinishedIndex.slot_at.Goals as goal

pub returns-then-self : goal.returns-then-self
returns-then-self c =
    let a = c.args in
    sym (slot_short a.self.packed a.self.buckets a.self.words.now a.slot (omega arith))

pub returns-then-slot-self : goal.returns-then-slot-self
returns-then-slot-self c =
    let a = c.args in
    sym (slot_past a.self.packed a.self.buckets a.self.words.now a.slot (omega arith) (omega arith))

pub returns : goal.returns
returns c =
    let a = c.args in
    rw c.bucket_slot.ensures (sym (slot_in a.self.packed a.self.buckets a.self.words.now a.slot (omega arith) (omega arith)))
