-- `bucket_count` meets its contract, case by case. Assumes nothing.
use Rattle.std.proofs.Common.{arith, eq-eqb, ne_eqb}
use Rattle.hash_parts.proofs.Deadlines.{rounded_up}
use Rattle.index.specs.Build.{buckets_for}
use Rattle.index.proofs.build.bucket_count.Goals as goal

pub returns-then-occupied-eq0 : goal.returns-then-occupied-eq0
unfolding buckets_for
returns-then-occupied-eq0 c = simp (eq-eqb _ _ c.if-occupied-eq0.true)

pub returns : goal.returns
unfolding buckets_for
returns c =
    let a = c.args in
    let up = rounded_up a.records a.occupied (omega arith) in
    simp (ne_eqb _ _ c.if-occupied-eq0.false) (omega arith)
