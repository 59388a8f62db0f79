-- `write_varint` meets its contract: it asks for the room that `put_varint` needs. Assumes nothing.
use mathlib.Core.Path.{sym}
use native.Mathlib.Omega.{arith}
use Rattle.records.specs.Uleb128.{uleb128}
use Rattle.records.proofs.Area.{written_in_law, written_out}
use Rattle.records.proofs.varint.write_varint.Goals as goal

pub returns-then-output-varint_bytes : goal.returns-then-output-varint_bytes
returns-then-output-varint_bytes c =
    let a = c.args in
    sym (written_out (uleb128 a.value) a.output.now (omega arith))

pub returns : goal.returns
returns c =
    let a = c.args in
    let p = c.put_varint in
    rw (p.ensures.0, p.ensures.1) (sym (written_in_law (uleb128 a.value) a.output.now (omega arith)))
