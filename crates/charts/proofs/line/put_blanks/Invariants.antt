-- What each turn of the loop keeps.
use mathlib.Core.List.{[]}
use Prim.Native.Nat.{◌-◌, ◌*◌}
use Rattle.records.proofs.Area.{Writing}
use Rattle.charts.specs.Line.{lines}
use Rattle.charts.proofs.line.put_blanks.Given as goal

abbrev pub invariant-loop-number : goal.invariant-loop-number
invariant-loop-number l = Writing (lines l.count []) (lines (l.count - l.number) []) l.initial.area l.area (65 * l.number)
