-- `put_bytes` meets its contract: the front that is copied to has the bytes' length. Assumes nothing.
use Rattle.std.proofs.Common.{◌∙◌, ◌++◌, length, length-take-le, drop, refl, ap, arith}
use Rattle.records.proofs.Area.{copied_law}
use Rattle.records.proofs.record.put_bytes.Goals as goal

pub returns : goal.returns
returns c =
    let a = c.args in
    let front = copied_law a.bytes.now _ (length-take-le (length a.bytes.now) a.out.now (omega arith)) in
    (refl, ap (λ s. s ++ drop (length a.bytes.now) a.out.now) (c.copy_bytes.ensures ∙ front))
