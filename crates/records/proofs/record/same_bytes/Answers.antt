-- `same_bytes` meets its contract. Assumes nothing.
use Rattle.records.proofs.Chunks.{lengths_differ}
use Rattle.records.proofs.record.same_bytes.Goals as goal

pub returns-then-a-b : goal.returns-then-a-b
returns-then-a-b c = lengths_differ c.args.a.now c.args.b.now c.if-a-b.true
