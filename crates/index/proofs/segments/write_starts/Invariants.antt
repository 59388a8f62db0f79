-- What each turn of the loop keeps.
use Rattle.std.proofs.Common.{◌-◌, ◌≤◌}
use Rattle.index.specs.Segments.{starts_of}
use Rattle.index.proofs.Starts.{starts_from}
use Rattle.index.proofs.Filling.{Filling}
use Rattle.index.proofs.segments.write_starts.Given as goal

abbrev pub invariant-loop-next : goal.invariant-loop-next
invariant-loop-next l =
    (l.count ≤ 256)
    × Filling (starts_of l.words l.filled l.target) (starts_from (256 - l.count) l.words l.filled l.target l.next) l.initial.starts l.starts l.count

abbrev pub decreases-loop-next : goal.decreases-loop-next
decreases-loop-next l = 256 - l.count
