-- `put_line` meets its contract: four texts over a blank line. Assumes nothing.
use mathlib.Core.List.{List}
use mathlib.Core.Path.{◌≡◌, ap, ◌∙◌}
use Prim.Native.Nat.{◌-◌, ◌≤◌}
use native.Mathlib.Omega.{arith}
use lib.ListN.{length}
use Rattle.records.specs.Area.{pasted}
use Rattle.texts.specs.Output.{decimal_text, hex_text}
use Rattle.texts.proofs.Spelling.{appended_parts, decimal_short, ended_fits, hex_length_law}
use Rattle.charts.specs.Line.{blank, deadline_text}
use Rattle.charts.proofs.Columns.{deadline_short, line_written}
use Rattle.charts.proofs.line.put_line.Goals as goal

pub returns : goal.returns
returns c =
    let a = c.args in
    let eight : length (decimal_text a.slot) ≤ 8 = decimal_short 7 a.slot (omega (arith, c.requires)) in
    let k : length a.key.now ≤ 12 = c.requires.2 in
    let v : length a.value.now ≤ 12 = c.requires.3 in
    let one : c.put_decimal_before.new.out ≡ pasted (8 - length (decimal_text a.slot)) (decimal_text a.slot) blank =
    c.put_decimal_before.ensures ∙ ended_fits 0 _ _ 8 eight (omega arith) ∙ ap (pasted (8 - length (decimal_text a.slot)) (decimal_text a.slot)) c.put_blank.ensures in
    let two = (appended_parts 9 (hex_text a.key.now) _ _ _ c.put_hex.ensures (omega (arith, hex_length_law a.key.now))).1 in
    let three = (appended_parts 34 (hex_text a.value.now) _ _ _ c.put_hex-2.ensures (omega (arith, hex_length_law a.value.now))).1 in
    let whole = line_written a.slot a.deadline a.key.now a.value.now eight k v (deadline_short a.deadline (omega arith)) in
    let due : List _ = deadline_text a.deadline in
    c.put_deadline.ensures
    ∙ ap (pasted (64 - length due) due) (three ∙ ap (pasted 34 (hex_text a.value.now)) (two ∙ ap (pasted 9 (hex_text a.key.now)) one))
    ∙ whole
