-- `bit` meets its contract: a bit below 64 is not shifted out. Assumes nothing.
use Rattle.index.proofs.Filters.{one_shl}
use Rattle.index.proofs.filter.bit.Goals as goal

pub returns : goal.returns
returns c = one_shl c.args.i c.requires
