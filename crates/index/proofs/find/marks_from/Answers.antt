-- `marks_from` meets its contract: all marks, moved up by as many bytes. Assumes nothing.
use Rattle.std.proofs.Common.{arith}
use Rattle.index.proofs.Candidates.{from_marks, no_marks}
use Rattle.index.proofs.find.marks_from.Goals as goal

pub returns-then-slot-eq-BUCKET_SLOTS : goal.returns-then-slot-eq-BUCKET_SLOTS
returns-then-slot-eq-BUCKET_SLOTS c = rw c.if-slot-eq-BUCKET_SLOTS.true no_marks

pub returns : goal.returns
returns c = from_marks c.args.slot (omega arith)
