-- `reference_front` meets its contract: a shift down by the rest of the word is a shift up past it. Assumes nothing.
use Rattle.std.proofs.Common.{arith}
use Rattle.index.proofs.Bytes.{upper_bits}
use Rattle.index.proofs.packed.reference_front.Goals as goal

pub returns-then-bits-eq0 : goal.returns-then-bits-eq0
returns-then-bits-eq0 c = rw c.if-bits-eq0.true (omega arith)

pub returns : goal.returns
returns c = upper_bits c.args.before c.args.bits (omega arith)
