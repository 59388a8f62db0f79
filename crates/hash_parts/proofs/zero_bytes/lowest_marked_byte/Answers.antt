-- `lowest_marked_byte` meets its contract: the trailing zeros, at most 64, end in the lowest byte that is not 0. Assumes nothing.
use Rattle.std.proofs.Common.{arith}
use lib.Count.{trailing_le}
use Rattle.hash_parts.proofs.LowestSet.{lowest_right}
use Rattle.hash_parts.proofs.zero_bytes.lowest_marked_byte.Goals as goal

pub returns : goal.returns
returns c = (lowest_right c.args.word, omega (arith, trailing_le 64 c.args.word))
