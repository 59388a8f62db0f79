-- `packed_reference_at` meets its contract: the upper bits of one word and the lower ones of the next are the reference's seven bytes. Assumes nothing.
use Rattle.std.proofs.Common.{◌%◌, arith}
use Rattle.index.proofs.Bytes.{reference_at}
use Rattle.index.proofs.packed.packed_reference_at.Goals as goal

pub overflow_add-result : goal.overflow_add-result
overflow_add-result c =
    let r =
    reference_at c.args.before c.args.word (c.args.slot % 8) c.reference_front.result c.ranges.before.fits (omega arith)
    c.reference_front.ensures in
    omega (arith, r.1)

pub returns : goal.returns
returns c =
    reference_at c.args.before c.args.word (c.args.slot % 8) c.reference_front.result c.ranges.before.fits (omega arith) c.reference_front.ensures
