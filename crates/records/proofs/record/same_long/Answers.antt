-- `same_long` meets its contract. Assumes nothing.
use Rattle.std.proofs.Common.{◌∙◌}
use Rattle.records.proofs.Area.{same_is}
use Rattle.records.proofs.record.same_long.Goals as goal

pub returns : goal.returns
returns c = c.eq.ensures ∙ same_is c.args.a.now c.args.b.now
