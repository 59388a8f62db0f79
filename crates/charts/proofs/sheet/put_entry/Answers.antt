-- `put_entry` meets its contract: the line that it lends comes home. Assumes nothing.
use mathlib.Core.Path.{refl}
use Prim.Native.Nat.{◌+◌, ◌-◌, ◌*◌}
use native.Mathlib.Omega.{arith}
use lib.ListN.{drop, length-drop}
use Rattle.std.proofs.lemmas.List.{length-take}
use Rattle.texts.proofs.Spelling.{decimal_short}
use Rattle.charts.specs.Line.{Row, line}
use Rattle.charts.specs.Sheet.{row_of}
use Rattle.charts.proofs.Columns.{deadline_short, length_line, line_home}
use Rattle.charts.proofs.Rows.{fits_parts}
use Rattle.charts.proofs.sheet.put_entry.Goals as goal
use Rattle.charts.proofs.sheet.put_entry.Goals.{Start}

abbrev shown : (s : Start) → Row
shown s = row_of s.args.arena.now (record { slot = s.args.slot; entry = s.args.entry })

pub put_line-requires : goal.put_line-requires
put_line-requires c =
    let fits = fits_parts (shown (goal.at.put_line-requires c).Start) c.requires.2 in
    let at = c.args.number * 65 in
    let part = length-take (at + 65 - at) (drop at c.args.page.now) in
    rw (c.value_slice-key.ensures, c.value_slice-value.ensures)
    (omega (arith, part, length-drop at c.args.page.now, c.requires.0), c.requires.1, fits.0, fits.1)

pub returns : goal.returns
returns c =
    let row = shown (goal.at.returns c).Start in
    let fits = fits_parts row c.requires.2 in
    let short = decimal_short 7 c.args.slot (omega (arith, c.requires.1)) in
    let long = length_line c.args.slot row.deadline row.key row.value short fits.0 fits.1 (deadline_short row.deadline (omega arith)) in
    let written = rw (c.value_slice-key.ensures, c.value_slice-value.ensures) at c.put_line.ensures in
    (refl, line_home c.args.number (line row) c.args.page.now _ long written)
