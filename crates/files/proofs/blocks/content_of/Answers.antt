-- `content_of` meets its contract: the blocks that are left to pass over are those before the one asked for. Assumes nothing.
use Rattle.std.proofs.Common.{◌≡◌, ◌∙◌, ◌-◌, ◌+◌, suc, ap, arith}
use Rattle.files.specs.Blocks.{content_of}
use Rattle.files.proofs.blocks.content_of.Goals as goal

pub loop-preserved : goal.loop-preserved
unfolding content_of
loop-preserved c =
    let l = c.loop in
    let n = c.number-end.result in
    let e : n - l.counter ≡ suc (n - (l.counter + 1)) = omega arith in
    ap (content_of (n - (l.counter + 1))) c.behind-rest.ensures ∙ rw e at l.invariant
