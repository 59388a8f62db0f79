-- What each turn of the loop keeps.
use Rattle.std.proofs.Common.{◌*◌, drop}
use Rattle.records.proofs.Area.{Writing}
use Rattle.texts.specs.Output.{hex_text}
use Rattle.texts.proofs.output.write_hex.Given as goal

abbrev pub invariant-loop-i : goal.invariant-loop-i
invariant-loop-i l = Writing (hex_text l.bytes) (hex_text (drop l.i l.bytes)) l.initial.out l.out (2 * l.i)
