-- `mark_control` meets its contract: a bit set in a word is set in its byte. Assumes nothing.
use Rattle.std.proofs.Common.{◌%◌, arith}
use Rattle.index.proofs.Marks.{mark_is}
use Rattle.index.proofs.packed.mark_control.Goals as goal

pub returns : goal.returns
returns c = mark_is c.args.control (c.args.slot % 8) c.ranges.control.fits (omega arith)
