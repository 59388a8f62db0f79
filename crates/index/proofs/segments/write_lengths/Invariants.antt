-- What each turn of the loop keeps.
use Rattle.std.proofs.Common.{◌+◌, ◌-◌, ◌≤◌, length, drop}
use Rattle.index.specs.Segments.{lengths_of}
use Rattle.index.proofs.Filling.{Filling}
use Rattle.index.proofs.segments.write_lengths.Given as goal

abbrev pub invariant-loop-i : goal.invariant-loop-i
invariant-loop-i l =
    (l.i + 1 ≤ length l.starts) × Filling (lengths_of l.filled l.starts) (lengths_of l.filled (drop l.i l.starts)) l.initial.lengths l.lengths l.i

abbrev pub decreases-loop-i : goal.decreases-loop-i
decreases-loop-i l = length l.starts - l.i
