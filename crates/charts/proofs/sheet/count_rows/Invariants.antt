-- What each turn of the loop keeps.
use mathlib.Core.Path.{◌≡◌}
use Prim.Native.Nat.{◌≤◌}
use Rattle.charts.specs.Sheet.{row_count, chart_rows}
use Rattle.charts.proofs.Rows.{rows_from}
use Rattle.charts.proofs.sheet.count_rows.Given as goal

abbrev pub invariant-loop-slot : goal.invariant-loop-slot
invariant-loop-slot l = (row_count l.rows (rows_from l.chart l.slot) ≡ row_count 0 (chart_rows l.chart)) × (l.rows ≤ l.slot)
