-- `count_rows` meets its contract: what was counted and the rows from the next slot on make up the count. Assumes nothing.
use mathlib.Core.List.{◌∷◌}
use mathlib.Core.Path.{◌≡◌, sym, ap, ◌∙◌}
use Prim.Native.Nat.{◌+◌, ◌*◌, ◌<◌}
use native.Mathlib.Omega.{arith}
use Rattle.std.specs.Prelude.{Some}
use Rattle.records.specs.declared.record.RecordRef.{RecordRef}
use Rattle.charts.specs.Sheet.{row_count}
use Rattle.charts.proofs.Rows.{count_fits, count_long, count_none, reads, rows_all, rows_from, rows_hit, rows_miss, rows_none, shown}
use Rattle.charts.proofs.sheet.count_rows.Goals as goal
use Rattle.charts.proofs.sheet.count_rows.Goals.{At-loop-slot}

-- of a slot whose record was read
hit : (l : At-loop-slot) (r : RecordRef) → l.loop-slot.slot < l.args.chart.index.buckets * 8 → Some r ≡ reads l.args.chart l.loop-slot.slot
    → rows_from l.args.chart l.loop-slot.slot ≡ shown l.args.chart l.loop-slot.slot r ∷ rows_from l.args.chart (l.loop-slot.slot + 1)
hit l r below e = rows_hit l.args.chart l.loop-slot.slot r (omega arith) (sym e)

pub loop-slot-init : goal.loop-slot-init
loop-slot-init c = (ap (row_count 0) (rows_all c.args.chart), omega arith)

pub loop-slot-preserved-in_default : goal.loop-slot-preserved-in_default
loop-slot-preserved-in_default c =
    let missed = rows_miss c.args.chart c.loop-slot.slot (omega arith) (sym c.entry_at.ensures ∙ c.in_default.is) in
    (ap (row_count c.loop-slot.rows) (sym missed) ∙ c.loop-slot.invariant.0, omega (arith, c.loop-slot.invariant.1))

pub returns-then-not-entry_fits : goal.returns-then-not-entry_fits
returns-then-not-entry_fits c =
    let at = goal.at.returns-then-not-entry_fits c in
    let long = sym c.entry_fits.ensures ∙ c.if-not-entry_fits.true in
    let here = hit at.At-loop-slot c.in-Some.entry c.loop-slot-test.true c.in-Some.ensures in
    sym (count_long c.loop-slot.rows _ _ long) ∙ ap (row_count c.loop-slot.rows) (sym here) ∙ c.loop-slot.invariant.0

pub loop-slot-preserved : goal.loop-slot-preserved
loop-slot-preserved c =
    let at = goal.at.loop-slot-preserved c in
    let fits = sym c.entry_fits.ensures ∙ c.if-not-entry_fits.false in
    let here = hit at.At-loop-slot c.in-Some.entry c.loop-slot-test.true c.in-Some.ensures in
    (sym (count_fits c.loop-slot.rows _ _ fits) ∙ ap (row_count c.loop-slot.rows) (sym here) ∙ c.loop-slot.invariant.0, omega (arith, c.loop-slot.invariant.1))

pub overflow_add-rows : goal.overflow_add-rows
overflow_add-rows c = omega (arith, c.loop-slot.invariant.1)

pub returns : goal.returns
returns c =
    let none = rows_none c.args.chart c.loop-slot.slot (omega arith) in
    sym (count_none c.loop-slot.rows) ∙ ap (row_count c.loop-slot.rows) (sym none) ∙ c.loop-slot.invariant.0
