-- `copy_bytes` meets its contract. Assumes nothing.
use Rattle.std.proofs.Common.{sym, arith}
use Rattle.records.proofs.Area.{copied_not, copied_whole}
use Rattle.records.proofs.record.copy_bytes.Goals as goal

pub returns-after-loop-i : goal.returns-after-loop-i
returns-after-loop-i c = copied_whole c.args.bytes.now c.args.out.now _ c.loop-i.i (omega arith) c.if-out-bytes.true c.loop-i.invariant

pub returns-else-out-bytes : goal.returns-else-out-bytes
returns-else-out-bytes c = sym (copied_not c.args.bytes.now c.args.out.now c.if-out-bytes.false)
