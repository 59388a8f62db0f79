-- `write_references` meets its contract: the seven words of the eight references, one after the other. Assumes nothing.
use Rattle.std.proofs.Common.{◌≡◌, ℕ, ◌<◌, get_or, rules}
use Rattle.index.proofs.Packing.{reference, references_stored}
use Rattle.index.proofs.packed.write_references.Goals as goal

pub returns : goal.returns
returns c =
    let a = c.args in
    let each : (i : ℕ) → i < 8 → get_or c.map.result i 0 ≡ reference (get_or a.words i 0) = λ i h. let m = c.map.ensures.items.at i 0 0 h in search rules in
    references_stored a.index.now a.at a.words c.map.result c.requires (search rules) each
