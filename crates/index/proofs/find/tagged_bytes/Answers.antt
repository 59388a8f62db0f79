-- `tagged_bytes` meets its contract: a byte of the tag is zero after the exclusive or. Assumes nothing.
use Rattle.std.proofs.Common.{◌∙◌}
use Rattle.index.proofs.Candidates.{tagged_are}
use Rattle.index.proofs.find.tagged_bytes.Goals as goal

pub returns : goal.returns
returns c =
    let a = c.args in
    c.zero_byte_high_bits.ensures ∙ tagged_are a.control a.tag c.ranges.control.fits c.requires
