-- `number_of` meets its contract: zeros behind the bytes change nothing. Assumes nothing.
use Rattle.std.proofs.Common.{◌≡◌, ◌∙◌, length, length-take-le, arith}
use Rattle.hash_parts.specs.ZeroBytes.{number_of}
use Rattle.hash_parts.proofs.Bytes.{number_small}
use Rattle.records.proofs.Area.{copied_law}
use Rattle.files.proofs.Copying.{all_bytes, padded_number}
use Rattle.files.proofs.copies.number_of.Goals as goal

pub returns : goal.returns
returns c =
    let s = c.args.bytes.now in
    let front = c.copy_bytes.ensures ∙ copied_law s _ (length-take-le (length s) _ (omega arith)) in
    let e : c.from_le_bytes.result ≡ number_of s = c.from_le_bytes.ensures ∙ rw front (padded_number s c.requires) in
    (e, rw e (number_small (all_bytes s (λ j. omega (arith, c.type_inv.bytes j)))))
