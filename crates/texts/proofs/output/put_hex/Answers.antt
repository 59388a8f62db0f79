-- `put_hex` meets its contract: two digits to a byte. Assumes nothing.
use Rattle.std.proofs.Common.{◌+◌, ◌<◌, length, refl, arith}
use Rattle.texts.specs.Output.{hex_text}
use Rattle.texts.proofs.Spelling.{appended_at, appended_out, hex_length_law}
use Rattle.texts.proofs.output.put_hex.Goals as goal
use Rattle.texts.proofs.output.put_hex.Goals.{then-out-at-via-then-out-at, then-out-at-via-else-out-at+then-out-at-2}

pub returns-then-out-at : goal.returns-then-out-at
returns-then-out-at c =
    let a = c.args in
    let long = hex_length_law a.bytes.now in
    let short : length a.out.now < a.at + length (hex_text a.bytes.now) =
    elim c.then-out-at.branch [ then-out-at-via-then-out-at w ↦ omega arith | then-out-at-via-else-out-at+then-out-at-2 w ↦ omega arith ] in
    appended_out a.at (hex_text a.bytes.now) a.out.now short

pub returns : goal.returns
returns c =
    let a = c.args in
    let long = hex_length_law a.bytes.now in
    appended_at a.at (hex_text a.bytes.now) a.out.now _ _ c.write_hex.new.out (omega arith) (omega arith) refl c.write_hex.ensures
