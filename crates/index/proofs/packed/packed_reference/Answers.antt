-- `packed_reference` meets its contract: the tag's two bytes stand below the location. Assumes nothing.
use Rattle.std.proofs.Common.{◌∙◌, arith}
use Rattle.index.proofs.Packing.{reference_empty, reference_used}
use Rattle.index.proofs.packed.packed_reference.Goals as goal

pub returns-then-word-eq0 : goal.returns-then-word-eq0
returns-then-word-eq0 c = (reference_empty c.args.word c.if-word-eq0.true, omega arith)

pub returns : goal.returns
returns c =
    reference_used c.args.word c.if-word-eq0.false c.index_tag.ensures (c.from.ensures ∙ c.packed_secondary_tag.ensures) c.index_location.ensures
