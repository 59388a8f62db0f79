-- `write_sheet` meets its contract: the lines of the rows, and blank ones behind them. Assumes nothing.
use native.Mathlib.Omega.{arith}
use Rattle.charts.specs.Sheet.{chart_rows}
use Rattle.charts.proofs.Pages.{sheet_home}
use Rattle.charts.proofs.sheet.write_sheet.Goals as goal

pub write_rows-rows-requires : goal.write_rows-rows-requires
write_rows-rows-requires c = record { slots = c.requires.slots; fit = c.requires.fit; room = omega (arith, c.requires.room) }

pub returns : goal.returns
returns c =
    let e = c.write_rows-rows.ensures in
    sheet_home (chart_rows c.args.chart) c.args.page.now _ _ c.write_rows-rows.result c.args.pages e.page_after e.count.0 e.count.1 c.requires.room.0 c.put_blanks.ensures
