-- `copy_words` meets its contract. Assumes nothing.
use Rattle.std.proofs.Common.{sym, arith}
use Rattle.records.proofs.Area.{copied_not, copied_whole}
use Rattle.index.proofs.packed.copy_words.Goals as goal

pub returns-after-loop-i : goal.returns-after-loop-i
returns-after-loop-i c = copied_whole c.args.words.now c.args.out.now _ c.loop-i.i (omega arith) c.if-out-words.true c.loop-i.invariant

pub returns-else-out-words : goal.returns-else-out-words
returns-else-out-words c = sym (copied_not c.args.words.now c.args.out.now c.if-out-words.false)
