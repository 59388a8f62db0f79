-- What each turn of the loop keeps.
use Rattle.std.proofs.Common.{◌≡◌, ◌+◌, drop}
use Rattle.records.proofs.Area.{Writing}
use Rattle.files.specs.Contents.{starts_by, sum}
use Rattle.files.proofs.load.load_starts.Given as goal

abbrev pub invariant-loop-i : goal.invariant-loop-i
invariant-loop-i l =
    Writing (starts_by 0 l.lengths) (starts_by l.next (drop l.i l.lengths)) l.initial.starts l.starts l.i × (l.next + sum (drop l.i l.lengths) ≡ sum l.lengths)
