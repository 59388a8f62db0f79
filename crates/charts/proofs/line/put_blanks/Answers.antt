-- `put_blanks` meets its contract: the lines that are written and those that are left are all of them. Assumes nothing.
use mathlib.Core.List.{[]}
use mathlib.Core.Path.{◌≡◌, refl}
use Prim.Native.Nat.{◌+◌, ◌-◌, ◌*◌}
use native.Mathlib.Omega.{arith}
use Rattle.records.proofs.Area.{begin, complete, next}
use Rattle.charts.specs.Line.{blank, lines}
use Rattle.charts.proofs.Columns.{length_blank, line_home}
use Rattle.charts.proofs.Pages.{blanks_next, length_blanks, no_blanks}
use Rattle.charts.proofs.line.put_blanks.Goals as goal

pub loop-number-init : goal.loop-number-init
loop-number-init c = let a = c.args in
    let e : a.count - 0 ≡ a.count = omega arith in
    let z : 65 * 0 ≡ 0 = refl in
    rw (e, z) (begin (lines a.count []) a.area.now (omega (arith, length_blanks a.count, c.requires)))

pub loop-number-preserved : goal.loop-number-preserved
loop-number-preserved c = let l = c.loop-number in
    let e = blanks_next c.args.count l.number c.loop-number-test.true in
    next blank (lines (c.args.count - (l.number + 1)) []) _ (65 * (l.number + 1)) l.invariant e (omega (arith, length_blank)) (line_home l.number blank l.area _ length_blank c.put_blank.ensures)

pub returns : goal.returns
returns c = (complete c.loop-number.invariant (no_blanks _ _ c.loop-number-test.false)).1
