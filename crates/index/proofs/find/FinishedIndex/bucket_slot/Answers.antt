-- `bucket_slot` meets its contract, layout by layout. Assumes nothing.
use Rattle.std.proofs.Common.{sym, ◌∙◌, arith}
use Rattle.index.proofs.SlotReads.{word_in}
use Rattle.index.proofs.find.FinishedIndex.bucket_slot.Goals as goal

pub returns-then-self : goal.returns-then-self
returns-then-self c = rw c.if-self.true c.packed_slot_at.ensures

pub returns : goal.returns
returns c =
    let a = c.args in
    rw c.if-self.false (c.word_slot.ensures ∙ sym (word_in a.self.buckets a.self.words.now a.bucket a.offset (omega arith)))
