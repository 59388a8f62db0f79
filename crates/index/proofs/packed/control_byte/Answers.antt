-- `control_byte` meets its contract by its test. Assumes nothing.
use Rattle.std.proofs.Common.{arith, eq-eqb}
use Rattle.index.proofs.Packing.{control_used}
use Rattle.index.proofs.packed.control_byte.Goals as goal

pub returns-then-word-eq0 : goal.returns-then-word-eq0
returns-then-word-eq0 c = (rw (eq-eqb c.args.word 0 c.if-word-eq0.true), omega arith)

pub returns : goal.returns
returns c =
    control_used c.args.word c.if-word-eq0.false c.index_tag.ensures c.packed_control_tag.ensures
