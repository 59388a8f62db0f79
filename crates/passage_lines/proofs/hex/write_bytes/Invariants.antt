-- What each turn of the loop keeps.
use Rattle.std.proofs.Common.{◌≡◌, ◌*◌, true, drop}
use Rattle.records.proofs.Area.{Writing}
use Rattle.passage_lines.specs.Hex.{hex_bytes, is_hex}
use Rattle.passage_lines.proofs.hex.write_bytes.Given as goal

abbrev pub invariant-loop-i : goal.invariant-loop-i
invariant-loop-i l = Writing (hex_bytes l.text) (hex_bytes (drop (2 * l.i) l.text)) l.initial.out l.out l.i × (is_hex (drop (2 * l.i) l.text) ≡ true)
