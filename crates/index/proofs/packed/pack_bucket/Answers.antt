-- `pack_bucket` meets its contract: the bucket's eight words are read before any is written. Assumes nothing.
use Rattle.std.proofs.Common.{◌≡◌, ◌+◌, ◌-◌, ◌*◌, arith}
use Rattle.index.proofs.packed.pack_bucket.Goals as goal

pub returns : goal.returns
returns c =
    let b = c.args.bucket in
    let eight : 8 * b + 8 - 8 * b ≡ 8 = omega arith in
    let words = rw eight at c.copy_from_slice.ensures.after in
    (rw words at c.control_word.ensures, rw words at c.write_references.ensures)
