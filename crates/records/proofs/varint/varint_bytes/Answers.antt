-- `varint_bytes` meets its contract: each byte holds seven of the number's bits. Assumes nothing.
use native.Mathlib.Omega.{arith}
use Rattle.records.proofs.Uleb128.{leb_bits}
use Rattle.records.proofs.varint.varint_bytes.Goals as goal

pub returns : goal.returns
returns c =
    let low = c.ilog2.ensures.power_le in
    let high = c.ilog2.ensures.next_power_gt in
    (leb_bits c.args.value c.ilog2.result (rw c.max.ensures at low) (rw c.max.ensures at high), omega (arith, c.ilog2.ensures.bound))
