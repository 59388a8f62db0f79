-- Words of which some bits are cleared; only private functions cite it.
-- Assumes nothing.
use Rattle.std.specs.Prelude.{ℕ}
use Rattle.std.specs.Int.Bits.{bit_and}

abbrev pub masked_by : ℕ → ℕ → ℕ
masked_by mask w = bit_and w mask
