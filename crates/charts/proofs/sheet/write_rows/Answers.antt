-- `write_rows` meets its contract: the lines of the rows from the next slot on, written behind those that stand, make the sheet's. Assumes nothing.
use mathlib.Core.List.{◌∷◌}
use mathlib.Core.Path.{◌≡◌, sym, ◌∙◌}
use Prim.Native.Nat.{◌+◌, ◌*◌, ◌<◌}
use native.Mathlib.Omega.{arith}
use lib.ListN.{length}
use Rattle.std.specs.Prelude.{Some}
use Rattle.records.specs.declared.record.RecordRef.{RecordRef}
use Rattle.charts.specs.Line.{line}
use Rattle.charts.specs.Sheet.{chart_rows}
use Rattle.texts.proofs.Spelling.{decimal_short}
use Rattle.charts.proofs.Columns.{deadline_short, length_line}
use Rattle.charts.proofs.Pages.{Printing, printed, print_next, print_room, print_start}
use Rattle.charts.proofs.Rows.{fits_parts, reads, rows_all, rows_from, rows_hit, rows_miss, rows_none, shown}
use Rattle.charts.proofs.sheet.write_rows.Goals as goal
use Rattle.charts.proofs.sheet.write_rows.Goals.{At-loop-slot}

-- what is printed before the row of a slot that was read
standing : (l : At-loop-slot) (r : RecordRef) → l.loop-slot.slot < l.args.chart.index.buckets * 8 → Some r ≡ reads l.args.chart l.loop-slot.slot
    → let chart = l.args.chart in
    Printing (chart_rows chart) (shown chart l.loop-slot.slot r ∷ rows_from chart (l.loop-slot.slot + 1)) l.args.page.now l.loop-slot.page l.loop-slot.rows
standing l r below e = rw (rows_hit l.args.chart l.loop-slot.slot r (omega arith) (sym e)) at l.loop-slot.invariant

pub loop-slot-init : goal.loop-slot-init
loop-slot-init c = rw (rows_all c.args.chart) (print_start _ c.args.page.now c.requires.fit c.requires.room)

pub loop-slot-preserved-in_default : goal.loop-slot-preserved-in_default
loop-slot-preserved-in_default c =
    rw (rows_miss c.args.chart c.loop-slot.slot (omega arith) (sym c.entry_at.ensures ∙ c.in_default.is)) at c.loop-slot.invariant

pub put_entry-rows-requires : goal.put_entry-rows-requires
put_entry-rows-requires c =
    let at = goal.at.put_entry-rows-requires c in
    let room = print_room _ _ (standing at.At-loop-slot c.in-Some.entry c.loop-slot-test.true c.in-Some.ensures) in
    (room.0, omega (arith, c.requires.slots.1), room.1)

pub loop-slot-preserved : goal.loop-slot-preserved
loop-slot-preserved c =
    let at = goal.at.loop-slot-preserved c in
    let slot = c.loop-slot.slot in
    let row = shown c.args.chart slot c.in-Some.entry in
    let rest = rows_from c.args.chart (slot + 1) in
    let small : slot < 100000000 = omega (arith, c.requires.slots.1) in
    let stands = standing at.At-loop-slot c.in-Some.entry c.loop-slot-test.true c.in-Some.ensures in
    let fits = fits_parts row (print_room row rest stands).1 in
    let due = deadline_short c.in-Some.entry.expires_at (omega arith) in
    let long : length (line row) ≡ 65 = length_line slot c.in-Some.entry.expires_at _ _ (decimal_short 7 slot (omega arith)) fits.0 fits.1 due in
    let p = c.put_entry-rows in
    print_next row rest stands p.new.page p.result long p.ensures.0 p.ensures.1

pub returns : goal.returns
returns c =
    let p = printed (rw (rows_none c.args.chart c.loop-slot.slot (omega arith)) at c.loop-slot.invariant) in
    record { count = p.0; page_after = p.1 }
