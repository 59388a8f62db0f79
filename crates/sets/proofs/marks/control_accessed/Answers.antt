-- `control_accessed` meets its contract. Assumes nothing.
use Rattle.std.proofs.Common.{◌%◌, leb, sym, ap, arith}
use Rattle.index.proofs.Bytes.{byte_at}
use Rattle.sets.proofs.marks.control_accessed.Goals as goal

pub returns : goal.returns
returns c = ap (leb 128) (sym (byte_at c.args.control (c.args.slot % 8) (omega arith)))
