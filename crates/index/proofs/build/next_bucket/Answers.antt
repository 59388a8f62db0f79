-- `next_bucket` meets its contract by its two tests. Assumes nothing.
use Rattle.std.proofs.Common.{sym, arith}
use Rattle.index.proofs.Walks.{next_on, next_around}
use Rattle.index.proofs.build.next_bucket.Goals as goal

pub returns-then-bucket-buckets : goal.returns-then-bucket-buckets
returns-then-bucket-buckets c = let a = c.args in sym (next_around a.bucket a.buckets (omega arith))

pub returns-then-bucket-buckets-2 : goal.returns-then-bucket-buckets-2
returns-then-bucket-buckets-2 c = let a = c.args in sym (next_around a.bucket a.buckets (omega arith))

pub returns : goal.returns
returns c = let a = c.args in sym (next_on a.bucket a.buckets (omega arith))
