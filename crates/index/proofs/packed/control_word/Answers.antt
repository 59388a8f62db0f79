-- `control_word` meets its contract: the bytes of a word are their number. Assumes nothing.
use Rattle.std.proofs.Common.{◌≡◌, ℕ, ◌<◌, get_or, ◌∙◌, rules}
use Rattle.index.specs.Packed.{control_byte}
use Rattle.index.proofs.Packing.{control_word_is}
use Rattle.index.proofs.packed.control_word.Goals as goal

pub returns : goal.returns
returns c =
    let words = c.args.words in
    let each : (i : ℕ) → i < 8 → get_or c.map.result i 0 ≡ control_byte (get_or words i 0) = λ i h. let m = c.map.ensures.items.at i 0 0 h in search rules in
    c.from_le_bytes.ensures ∙ control_word_is words c.map.result (search rules) each
