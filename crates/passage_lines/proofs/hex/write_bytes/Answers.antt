-- `write_bytes` meets its contract: what is written and what is left to write are the bytes of the text. Assumes nothing.
use Rattle.std.proofs.Common.{◌≡◌, ◌+◌, ◌*◌, refl, ◌∙◌, arith}
use Rattle.records.proofs.Area.{begin, next_byte, complete}
use Rattle.passage_lines.proofs.Digits.{pair, bytes_end, bytes_length}
use Rattle.passage_lines.proofs.hex.write_bytes.Goals as goal

pub loop-i-init : goal.loop-i-init
loop-i-init c = (begin _ _ (omega (arith, bytes_length _ c.requires.0)), c.requires.0)

pub unwrap-requires : goal.unwrap-requires
unwrap-requires c =
    let p = pair _ (2 * c.loop-i.i) (omega arith) c.loop-i.invariant.1 in
    rw (c.byte_of_hex.ensures ∙ p.is) refl

pub loop-i-preserved : goal.loop-i-preserved
loop-i-preserved c =
    let l = c.loop-i in
    let p = pair _ (2 * l.i) (omega arith) l.invariant.1 in
    let b : c.unwrap.result ≡ p.byte = cc in
    let z : 2 * (l.i + 1) ≡ 2 * l.i + 2 = omega arith in
    rw (z, b) (next_byte _ _ l.invariant.0 p.bytes, p.rest)

pub returns : goal.returns
returns c = (complete c.loop-i.invariant.0 (bytes_end c.args.text.now (2 * c.loop-i.i) (omega (arith, bytes_length _ c.requires.0)))).1
