-- What each turn of the loop keeps.
use Rattle.records.specs.Uleb128.{uleb128}
use Rattle.records.proofs.Area.{Writing}
use Rattle.records.proofs.varint.put_varint.Given as goal

abbrev pub invariant-loop-rest : goal.invariant-loop-rest
invariant-loop-rest l = Writing (uleb128 l.value) (uleb128 l.rest) l.initial.output l.output l.at

abbrev pub decreases-loop-rest : goal.decreases-loop-rest
decreases-loop-rest l = l.rest
