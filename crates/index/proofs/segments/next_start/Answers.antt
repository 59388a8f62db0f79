-- `next_start` meets its contract: it is the lowest start of the words. Assumes nothing.
use Rattle.std.proofs.Common.{sym, ◌∙◌, arith}
use Rattle.index.proofs.Starts.{start_in_law, start_short}
use Rattle.index.proofs.segments.next_start.Goals as goal

pub returns-then-index-buckets : goal.returns-then-index-buckets
returns-then-index-buckets c =
    let a = c.args in
    sym (start_short a.index.now a.buckets a.bound c.if-index-buckets.true)

pub returns : goal.returns
returns c =
    let a = c.args in
    c.lowest_start.ensures ∙ sym (start_in_law a.index.now a.buckets a.bound (omega arith))
