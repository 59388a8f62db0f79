-- What each turn of the loop keeps.
use Rattle.index.proofs.PackingLoop.{Packing}
use Rattle.index.proofs.packed.finish_packed_index.Given as goal

abbrev pub invariant-loop-bucket : goal.invariant-loop-bucket
invariant-loop-bucket l = Packing l.buckets l.initial.index l.initial.scratch l.index l.scratch l.bucket
