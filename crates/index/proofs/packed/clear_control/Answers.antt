-- `clear_control` meets its contract: a bit cleared in a word is cleared in its byte. Assumes nothing.
use Rattle.std.proofs.Common.{◌%◌, arith}
use Rattle.index.proofs.Marks.{clear_is}
use Rattle.index.proofs.packed.clear_control.Goals as goal

pub returns : goal.returns
returns c = clear_is c.args.control (c.args.slot % 8) c.ranges.control.fits (omega arith)
