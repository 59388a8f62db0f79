-- What each turn of the loop keeps.
use Rattle.charts.specs.Sheet.{chart_rows}
use Rattle.charts.proofs.Pages.{Printing}
use Rattle.charts.proofs.Rows.{rows_from}
use Rattle.charts.proofs.sheet.write_rows.Given as goal

abbrev pub invariant-loop-slot : goal.invariant-loop-slot
invariant-loop-slot l = Printing (chart_rows l.chart) (rows_from l.chart l.slot) l.initial.page l.page l.rows
