-- `search_ticks` meets its contract. Assumes nothing.
use Rattle.std.proofs.Common.{arith}
use Rattle.hash_parts.proofs.Deadlines.{search_ends}
use Rattle.hash_parts.proofs.duration.search_ticks.Goals as goal

pub returns : goal.returns
returns c =
    let a = c.args in
    let w = c.loop-enough in
    search_ends a.lifetime a.tick w.short w.enough 65534 c.requires.0 w.invariant.0 w.invariant.1 w.invariant.2 (omega arith) w.invariant.3
